-- A tidied path as one pass over its bytes makes it: with no `_` at the front, and without a last `_` only after the cut.
use Rattle.std.proofs.Common.{◌≡◌, ◌==◌, ℕ, zero, suc, Bool, true, false, ◌&&◌, ◌≤◌, ◌<◌, cond, [], ◌∷◌, ◌++◌, take, drop, length, refl, sym, ap, subst, ◌∙◌, arith, inl, inr, ◌⊎◌, append_assoc}
use Rattle.std.proofs.Math.Seq.{take-append_seam}
use Rattle.std.proofs.lemmas.List.{drop_all}
use Rattle.std.specs.Fmt.{decimal}
use Rattle.std.proofs.lemmas.Bool.Decides.{nat_tests}
use Rattle.grammar.specs.Pieces.{Text}
use Rattle.plc_model.specs.declared.letter.Letter.{Letter}
use Rattle.plc_model.specs.Names.{text_of, name_for, underscore, is_kept, runs_joined, front_trimmed, end_trimmed, or_x, most_bytes, tidied}
use Rattle.plc_model.proofs.Tidying.{AreSingle}

-- ---- bytes

kept-other : (b : ℕ) → is_kept b ≡ true → (b == underscore) ≡ false
kept-other b e = grind (arith, nat_tests)

-- ---- the runs

front-joined : (w : Text) → front_trimmed (runs_joined false w) ≡ runs_joined true w
front-joined [] = refl
front-joined (b ∷ w) = go (is_kept b) (kept-other b)
  where
    go : (k : Bool) → (k ≡ true → (b == underscore) ≡ false)
        → front_trimmed (cond k (b ∷ runs_joined false w) (underscore ∷ runs_joined true w)) ≡ cond k (b ∷ runs_joined false w) (runs_joined true w)
    go true other = ap (λ t. cond t (runs_joined false w) (b ∷ runs_joined false w)) (other refl)
    go false other = refl

and-false : (a b : Bool) → (a ≡ false) ⊎ (b ≡ false) → (a && b) ≡ false
and-false true b (inr e) = e
and-false true b (inl e) = cc
and-false false b h = refl

-- after a byte that is no underscore, or in a run
joined-single : (r : Bool) (c : ℕ) (w : Text) → (r ≡ true) ⊎ ((c == underscore) ≡ false) → AreSingle (c ∷ runs_joined r w)
joined-single r c [] h = tt
joined-single r c (b ∷ w) h = go (is_kept b) r (kept-other b) h (λ e. joined-single false b w (inr e)) (λ d. joined-single true d w (inl refl))
  where
    go : (k i : Bool) → (k ≡ true → (b == underscore) ≡ false) → (i ≡ true) ⊎ ((c == underscore) ≡ false)
        → ((b == underscore) ≡ false → AreSingle (b ∷ runs_joined false w)) → ((d : ℕ) → AreSingle (d ∷ runs_joined true w))
        → AreSingle (c ∷ cond k (b ∷ runs_joined false w) (cond i (runs_joined true w) (underscore ∷ runs_joined true w)))
    go true i kept h after within = (and-false (c == underscore) (b == underscore) (inr (kept refl)), after (kept refl))
    go false true kept h after within = within c
    go false false kept (inl off) after within = cc
    go false false kept (inr other) after within = (and-false (c == underscore) true (inl other), within underscore)

tail-single : (a : ℕ) (w : Text) → AreSingle (a ∷ w) → AreSingle w
tail-single a [] s = tt
tail-single a (b ∷ w) s = s.1

-- ---- the cut

-- Where no two underscores adjoin, the last one may stay up to the cut.
end-cut : (n : ℕ) (w : Text) → AreSingle w → end_trimmed (take n (end_trimmed w)) ≡ end_trimmed (take n w)
end-cut zero w s = refl
end-cut (suc n) [] s = refl
end-cut (suc n) (b ∷ []) s = go (b == underscore) n refl
  where
    go : (t : Bool) (n : ℕ) → (b == underscore) ≡ t → end_trimmed (take (suc n) (cond t [] (b ∷ []))) ≡ end_trimmed (b ∷ take n [])
    go true zero e = sym (ap (λ t. cond t [] (b ∷ [])) e)
    go true (suc n) e = sym (ap (λ t. cond t [] (b ∷ [])) e)
    go false n e = refl
end-cut (suc zero) (b ∷ d ∷ w) s = refl
end-cut (suc (suc n)) (b ∷ d ∷ []) s = go (d == underscore) n refl s.0
  where
    plain : (t : Bool) → (t && true) ≡ false → t ≡ false
    plain true e = e
    plain false e = refl

    go : (t : Bool) (n : ℕ) → (d == underscore) ≡ t → (b == underscore && t) ≡ false → end_trimmed (take (suc (suc n)) (b ∷ cond t [] (d ∷ []))) ≡ end_trimmed (b ∷ d ∷ take n [])
    go true zero e apart = ap (λ t. cond t [] (b ∷ [])) (plain (b == underscore) apart) ∙ sym (ap (λ t. b ∷ cond t [] (d ∷ [])) e)
    go true (suc n) e apart = ap (λ t. cond t [] (b ∷ [])) (plain (b == underscore) apart) ∙ sym (ap (λ t. b ∷ cond t [] (d ∷ [])) e)
    go false n e apart = refl
end-cut (suc (suc n)) (b ∷ d ∷ e ∷ w) s = ap (λ r. b ∷ r) (end-cut (suc n) (d ∷ e ∷ w) s.1)

pub tidied-pass : (path : Text) → or_x (end_trimmed (take most_bytes (runs_joined true path))) ≡ tidied path
tidied-pass path =
    ap or_x (sym (end-cut most_bytes (runs_joined true path) (tail-single 0 (runs_joined true path) (joined-single true 0 path (inl refl)))))
    ∙ ap (λ x. or_x (end_trimmed (take most_bytes (end_trimmed x)))) (sym (front-joined path))

-- ---- the pass

-- the pass stops at a full text
pub pass-full : (t x w : Text) → t ++ x ≡ w → length t ≡ most_bytes → t ≡ take most_bytes w
pass-full t x w e full = subst (λ y. t ≡ take most_bytes y) e (sym (subst (λ n. take n (t ++ x) ≡ t) full (take-append_seam t x)))

take-whole : (n : ℕ) (w : Text) → length w ≤ n → take n (w ++ []) ≡ w
take-whole zero [] h = refl
take-whole zero (b ∷ w) h = absurd (omega (arith, h))
take-whole (suc n) [] h = refl
take-whole (suc n) (b ∷ w) h = ap (λ r. b ∷ r) (take-whole n w (omega (arith, h)))

-- the pass comes to the end of the path
pub pass-ended : (t path w : Text) (r : Bool) (i : ℕ) → length path ≤ i → t ++ runs_joined r (drop i path) ≡ w → length t ≤ most_bytes → t ≡ take most_bytes w
pass-ended t path w r i over e short =
    subst (λ y. t ≡ take most_bytes y) e (subst (λ p. t ≡ take most_bytes (t ++ runs_joined r p)) (sym (drop_all i path over)) (sym (take-whole most_bytes t short)))

-- ---- the last byte

pub end_none : (w : Text) → length w ≡ 0 → end_trimmed w ≡ w
end_none [] h = refl
end_none (b ∷ w) h = absurd (omega (arith, h))

-- without its last byte, if that is an underscore
end-last : (w : Text) (b : ℕ) → end_trimmed (w ++ (b ∷ [])) ≡ cond (b == underscore) w (w ++ (b ∷ []))
end-last [] b = refl
end-last (a ∷ []) b = go (b == underscore)
  where
    go : (t : Bool) → a ∷ cond t [] (b ∷ []) ≡ cond t (a ∷ []) (a ∷ b ∷ [])
    go true = refl
    go false = refl
end-last (a ∷ d ∷ w) b = ap (λ r. a ∷ r) (end-last (d ∷ w) b) ∙ go (b == underscore)
  where
    go : (t : Bool) → a ∷ cond t (d ∷ w) ((d ∷ w) ++ (b ∷ [])) ≡ cond t (a ∷ d ∷ w) (a ∷ ((d ∷ w) ++ (b ∷ [])))
    go true = refl
    go false = refl

pub end_gone : (w : Text) (b : ℕ) → b ≡ 95 → end_trimmed (w ++ (b ∷ [])) ≡ w
end_gone w b e = end-last w b ∙ ap (λ x. cond (x == underscore) w (w ++ (b ∷ []))) e

pub end_stays : (w : Text) (b : ℕ) → (b ≡ 95 → ⊥) → end_trimmed (w ++ (b ∷ [])) ≡ w ++ (b ∷ [])
end_stays w b other = end-last w b ∙ ap (λ t. cond t w (w ++ (b ∷ []))) off
  where
    off : (b == underscore) ≡ false
    off = grind (arith, nat_tests)

pub ruleset ends = (end_none, end_gone, end_stays)

-- ---- the name

pub name-parts : (l : Letter) (n b : ℕ) (path e0 e1 e2 e3 e4 digits kept cut filled : Text)
    → e0 ≡ [] → text_of l ≡ b ∷ [] → e1 ≡ e0 ++ (b ∷ []) → digits ≡ decimal n → e2 ≡ e1 ++ digits → e3 ≡ e2 ++ (underscore ∷ [])
    → kept ≡ take most_bytes (runs_joined true path) → cut ≡ end_trimmed kept → filled ≡ or_x cut → e4 ≡ e3 ++ filled → e4 ≡ name_for l n path
name-parts l n b path e0 e1 e2 e3 e4 digits kept cut filled z t x1 d x2 x3 k u f x4 =
    x4 ∙ ap (λ y. y ++ filled) (x3 ∙ ap (λ y. y ++ (underscore ∷ [])) (x2 ∙ ap (λ y. y ++ digits) (x1 ∙ ap (λ y. y ++ (b ∷ [])) z)))
    ∙ ap (λ y. b ∷ y) (append_assoc digits (underscore ∷ []) filled)
    ∙ ap (λ y. b ∷ (y ++ (underscore ∷ filled))) d
    ∙ ap (λ y. b ∷ (decimal n ++ (underscore ∷ y))) (f ∙ ap or_x (u ∙ ap end_trimmed k) ∙ tidied-pass path)
    ∙ ap (λ y. y ++ (decimal n ++ (underscore ∷ tidied path))) (sym t)
