-- A sign that is found by its bytes is the longest in the table.
use Rattle.std.proofs.Common.{◌≡◌, ◌==◌, ℕ, Bool, true, false, ◌||◌, if◌then◌else◌, List, [], ◌∷◌, ◌++◌, Option, Some, None, Ok, Err, refl, sym, ap, subst, ◌∙◌, arith}
use Rattle.std.specs.Option.{option_or}
use Rattle.std.specs.List.{AllByRecursion}
use Rattle.std.proofs.lemmas.Bool.Decides.{nat_tests}
use Rattle.grammar.specs.Pieces.{Text, Cut, one_text, text_cut}
use Rattle.grammar.proofs.Texts.{flip, from_test}
use Rattle.grammar.proofs.Cutting.{Cuts, text_cuts}
use Rattle.cif_lex.specs.declared.found.Fault.TheVariants as f
use Rattle.cif_lex.specs.Tokens.{Piece, blank, comment, word, escaped, number, sign, signs, kind_of}
use Rattle.cif_lex.specs.Cutting.{Found, is_small, single, pair, with_rest, triple_of, double_of, sign_of, sign_found}

abbrev pub in_range : Piece → Bool
in_range blank = true
in_range comment = true
in_range (word t) = true
in_range (escaped t) = true
in_range (number t) = is_small t
in_range (sign t) = true

-- what is found of a piece that is cut
abbrev pub judge : Piece → Text → Found
judge p rest = if in_range p then Ok (kind_of p, rest) else Err f.NumberTooBig

abbrev pub sign_judged : Option (Cut Piece) → Found
sign_judged None = Err f.BadByte
sign_judged (Some c) = judge c.piece c.rest

abbrev Claim : ℕ → Text → Type 0
Claim a rest = sign_found (sign_of a rest) ≡ sign_judged (text_cut signs sign (a ∷ rest))

-- by whether a byte is this one
pub by_byte : (P : ℕ → Type 0) (s b : ℕ) → P s → ((b == s) ≡ false → P b) → P b
by_byte P s b is isnt = go (b == s) refl
  where
    go : (x : Bool) → (b == s) ≡ x → P b
    go true e = subst P (from_test b s e) is
    go false e = isnt e

-- ---- signs of one byte, and of two

sign_two : (a b : ℕ) (rest : Text) → (a == 60) ≡ false → sign_of a (b ∷ rest) ≡ option_or (with_rest rest (pair a b)) (with_rest (b ∷ rest) (single a))
unfolding sign_of triple_of double_of
sign_two a b [] e = refl
sign_two a b (c ∷ rest) e = rw e refl

sign_one : (a : ℕ) → (a == 60) ≡ false → ((b : ℕ) → pair a b ≡ None) → (rest : Text) → sign_of a rest ≡ with_rest rest (single a)
unfolding sign_of triple_of double_of
sign_one a e none [] = refl
sign_one a e none (b ∷ rest) = sign_two a b rest e ∙ ap (λ o. option_or (with_rest rest o) (with_rest (b ∷ rest) (single a))) (none b)

one : (a : ℕ) → (a == 60) ≡ false → ((b : ℕ) → pair a b ≡ None) → (rest : Text) → sign_found (with_rest rest (single a)) ≡ sign_judged (text_cut signs sign (a ∷ rest)) → Claim a rest
one a e none rest h = ap sign_found (sign_one a e none rest) ∙ h

two : (a b : ℕ) (rest : Text) → (a == 60) ≡ false → sign_found (option_or (with_rest rest (pair a b)) (with_rest (b ∷ rest) (single a))) ≡ sign_judged (text_cut signs sign (a ∷ b ∷ rest)) → Claim a (b ∷ rest)
two a b rest e h = ap sign_found (sign_two a b rest e) ∙ h

dot : (rest : Text) → Claim 46 rest
unfolding sign_of triple_of double_of kind_of
dot [] = refl
dot (b ∷ rest) = by_byte (λ n. Claim 46 (n ∷ rest)) 46 b (two 46 46 rest refl refl) (λ e. let g = flip 46 b ∙ e in two 46 b rest refl (rw (e, g) refl))

colon : (rest : Text) → Claim 58 rest
unfolding sign_of triple_of double_of kind_of
colon [] = refl
colon (b ∷ rest) = by_byte (λ n. Claim 58 (n ∷ rest)) 61 b (two 58 61 rest refl refl) (λ e. let g = flip 61 b ∙ e in two 58 b rest refl (rw (e, g) refl))

exclamation : (rest : Text) → Claim 33 rest
unfolding sign_of triple_of double_of kind_of
exclamation [] = refl
exclamation (b ∷ rest) = by_byte (λ n. Claim 33 (n ∷ rest)) 61 b (two 33 61 rest refl refl) (λ e. let g = flip 61 b ∙ e in two 33 b rest refl (rw (e, g) refl))

greater : (rest : Text) → Claim 62 rest
unfolding sign_of triple_of double_of kind_of
greater [] = refl
greater (b ∷ rest) = by_byte (λ n. Claim 62 (n ∷ rest)) 61 b (two 62 61 rest refl refl) (λ e. let g = flip 61 b ∙ e in two 62 b rest refl (rw (e, g) refl))

equal : (rest : Text) → Claim 61 rest
unfolding sign_of triple_of double_of kind_of
equal [] = refl
equal (b ∷ rest) = by_byte (λ n. Claim 61 (n ∷ rest)) 62 b (two 61 62 rest refl refl) (λ e. let g = flip 62 b ∙ e in two 61 b rest refl (rw (e, g) refl))

-- ---- what begins with `<`

less_equal : (rest : Text) → Claim 60 (61 ∷ rest)
unfolding sign_of triple_of double_of kind_of
less_equal [] = refl
less_equal (c ∷ rest) = by_byte (λ n. Claim 60 (61 ∷ n ∷ rest)) 62 c refl (λ e. let g = flip 62 c ∙ e in rw (e, g) refl)

less_other : (b : ℕ) (rest : Text) → (b == 61) ≡ false → (61 == b) ≡ false → Claim 60 (b ∷ rest)
unfolding sign_of triple_of double_of kind_of
less_other b [] e g = rw (e, g) refl
less_other b (c ∷ rest) e g = rw (e, g) refl

less : (rest : Text) → Claim 60 rest
unfolding sign_of triple_of double_of kind_of
less [] = refl
less (b ∷ rest) = by_byte (λ n. Claim 60 (n ∷ rest)) 61 b (less_equal rest) (λ e. less_other b rest e (flip 61 b ∙ e))

-- ---- all signs

abbrev IsNone : ℕ → List ℕ → Type 0
IsNone a cs = AllByRecursion (λ c. (a == c) ≡ false) cs

by_bytes : (P : ℕ → Type 0) (cs : List ℕ) → AllByRecursion P cs → (a : ℕ) → (IsNone a cs → P a) → P a
by_bytes P [] h a other = other tt
by_bytes P (c ∷ cs) h a other = by_byte P c a h.0 (λ e. by_bytes P cs h.1 a (λ o. other (e, o)))

-- the first bytes of signs
abbrev firsts : List ℕ
firsts = 46 ∷ 44 ∷ 59 ∷ 58 ∷ 40 ∷ 41 ∷ 91 ∷ 93 ∷ 123 ∷ 125 ∷ 43 ∷ 45 ∷ 42 ∷ 61 ∷ 60 ∷ 62 ∷ 33 ∷ 63 ∷ []

abbrev among : List ℕ → ℕ → Bool
among [] b = false
among (c ∷ cs) b = b == c || among cs b

among_none : (a : ℕ) (cs : List ℕ) → IsNone a cs → among cs a ≡ false
among_none a [] o = refl
among_none a (c ∷ cs) o = let e = o.0 in rw e (among_none a cs o.1)

sign_cuts : Cuts (among firsts) (one_text signs sign) (text_cut signs sign)
sign_cuts = text_cuts (among firsts) signs sign refl refl

no_cut : (a : ℕ) (rest : Text) → among firsts a ≡ false → (o : Option (Cut Piece)) → text_cut signs sign (a ∷ rest) ≡ o → o ≡ None
no_cut a rest e None is = refl
no_cut a rest e (Some c) is =
    let m = sign_cuts.found (a ∷ rest) c is in
    let s = sign_cuts.begins c.piece c.bytes m.0 in
    let whole : a ∷ rest ≡ (s.0 ∷ s.1) ++ c.rest = m.2 ∙ ap (λ v. v ++ c.rest) s.2 in
    let head : a ≡ s.0 = cc in
    let yes : among firsts a ≡ true = ap (among firsts) head ∙ s.3 in
    cc

no_sign : (a : ℕ) → IsNone a firsts → single a ≡ None
no_sign a (e0, (e1, (e2, (e3, (e4, (e5, (e6, (e7, (e8, (e9, (e10, (e11, (e12, (e13, (e14, (e15, (e16, (e17, o)))))))))))))))))) = rw (e0, e1, e2, e3, e4, e5, e6, e7, e8, e9, e10, e11, e12, e13, e14, e15, e16, e17) refl

no_pair : (a : ℕ) → IsNone a firsts → (b : ℕ) → pair a b ≡ None
no_pair a (e0, (e1, (e2, (e3, (e4, (e5, (e6, (e7, (e8, (e9, (e10, (e11, (e12, (e13, (e14, (e15, (e16, (e17, o)))))))))))))))))) b = rw (e3, e0, e16, e14, e15, e13) refl

no_less : (a : ℕ) → IsNone a firsts → (a == 60) ≡ false
no_less a (e0, (e1, (e2, (e3, (e4, (e5, (e6, (e7, (e8, (e9, (e10, (e11, (e12, (e13, (e14, (e15, (e16, (e17, o)))))))))))))))))) = e14

other : (a : ℕ) → IsNone a firsts → (rest : Text) → Claim a rest
other a o rest =
    let cut = no_cut a rest (among_none a firsts o) (text_cut signs sign (a ∷ rest)) refl in
    one a (no_less a o) (no_pair a o) rest (ap (λ s. sign_found (with_rest rest s)) (no_sign a o) ∙ sym (ap sign_judged cut))

pub sign_front : (a : ℕ) (rest : Text) → sign_found (sign_of a rest) ≡ sign_judged (text_cut signs sign (a ∷ rest))
unfolding kind_of
sign_front a = by_bytes (λ n. (rest : Text) → Claim n rest) firsts all a (other a)
  where
    lone : (n : ℕ) → (n == 60) ≡ false → ((b : ℕ) → pair n b ≡ None) → ((rest : Text) → sign_found (with_rest rest (single n)) ≡ sign_judged (text_cut signs sign (n ∷ rest))) → (rest : Text) → Claim n rest
    lone n e none h rest = one n e none rest (h rest)

    all : AllByRecursion (λ n. (rest : Text) → Claim n rest) firsts
    all = (dot, (lone 44 refl (λ b. refl) (λ rest. refl), (lone 59 refl (λ b. refl) (λ rest. refl), (colon, (lone 40 refl (λ b. refl) (λ rest. refl), (lone 41 refl (λ b. refl) (λ rest. refl), (lone 91 refl (λ b. refl) (λ rest. refl), (lone 93 refl (λ b. refl) (λ rest. refl), (lone 123 refl (λ b. refl) (λ rest. refl), (lone 125 refl (λ b. refl) (λ rest. refl), (lone 43 refl (λ b. refl) (λ rest. refl), (lone 45 refl (λ b. refl) (λ rest. refl), (lone 42 refl (λ b. refl) (λ rest. refl), (equal, (less, (greater, (exclamation, (lone 63 refl (λ b. refl) (λ rest. refl), tt))))))))))))))))))
