-- What is found at the front of a text, said of the pieces that begin there.
use Rattle.std.proofs.Common.{◌≡◌, ◌<◌, Bool, true, false, ◌∷◌, ◌++◌, Option, Some, None, Ok, Err, refl, sym, ap, subst, ◌∙◌, inl, inr, leb-true, if◌then◌else◌}
use Rattle.std.proofs.lemmas.Bool.{leb-false}
use Rattle.grammar.specs.Pieces.{Text, Cut, IsLongest}
use Rattle.grammar.proofs.Cutting.{text_made}
use Rattle.grammar.specs.Classes.{letter, digit}
use Rattle.grammar.proofs.Fronts.{so_where_ok, not_where_err}
use Rattle.st_ast.specs.Tokens.{Token, Piece, blank, comment, word, number, sign, signs, piece, token_of, number_of, greatest}
use Rattle.st_read.specs.Cutting.{piece_cut}
use Rattle.st_read.proofs.CuttingLaws.{piece_cuts}
use Rattle.st_read.specs.declared.found.Fault.{Fault}
use Rattle.st_read.specs.declared.found.Fault.TheVariants as f
use Rattle.st_read.specs.Lexing.{Found, IsInRange, after_close, commented, opens, inside, front_of}
use Rattle.st_read.proofs.Fronts.{in_range, judge, judged, front_is, strict_cut, strict_cuts, cuts_strict, strict_comment, opened}

-- ---- numbers in range

in_range_is : (p : Piece) → in_range p ≡ true → IsInRange p
unfolding IsInRange
in_range_is blank e = tt
in_range_is comment e = tt
in_range_is (word t) e = tt
in_range_is (number t) e = leb-true (number_of t) greatest e
in_range_is (sign t) e = tt

too_big_is : (p : Piece) → in_range p ≡ false → (digits : Text) × (p ≡ number digits) × (greatest < number_of digits)
too_big_is blank e = absurd cc
too_big_is comment e = absurd cc
too_big_is (word t) e = absurd cc
too_big_is (number t) e = (t, refl, leb-false (number_of t) greatest e)
too_big_is (sign t) e = absurd cc

-- a number is made with its text
pub number_bytes : (t x : Text) → piece (number t) x → t ≡ x
unfolding piece
number_bytes t x (inl d) = absurd (let e : number t ≡ blank = d.5 in cc)
number_bytes t x (inr (inl d)) = absurd (let e : number t ≡ word (d.0 ∷ d.1) = d.5 in cc)
number_bytes t x (inr (inr (inl d))) = let e : number t ≡ number (d.0 ∷ d.1) = d.5 in let g : x ≡ d.0 ∷ d.1 = d.4 in cc
number_bytes t x (inr (inr (inr (inl d)))) = absurd (let e : number t ≡ comment = d.1.3 in cc)
number_bytes t x (inr (inr (inr (inr d)))) = absurd (let e : number t ≡ sign x = text_made signs sign (number t) x d in cc)

-- ---- a piece is taken

pub record Takes (text rest : Text) (o : Option Token) : Type 0 where
  pub taken : Piece
  pub bytes : Text
  pub is : piece taken bytes
  pub longest : IsLongest piece bytes text
  pub whole : text ≡ bytes ++ rest
  pub token : token_of taken ≡ o
  pub small : IsInRange taken
  -- `(*` is taken as a comment alone
  pub no_sign : (more : Text) → text ≡ 40 ∷ 42 ∷ more → taken ≡ comment

judge_ok : (p : Piece) (rest more : Text) (o : Option Token) → judge p rest ≡ Ok (o, more) → (in_range p ≡ true) × (token_of p ≡ o) × (rest ≡ more)
judge_ok p rest more o e =
    let m = so_where_ok (in_range p) (token_of p, rest) (o, more) f.NumberTooBig e in
    (m.0, ap (λ (q : Option Token × Text). q.0) m.1, ap (λ (q : Option Token × Text). q.1) m.1)

judge_err : (p : Piece) (rest : Text) (e : Fault) → judge p rest ≡ Err e → (in_range p ≡ false) × (e ≡ f.NumberTooBig)
judge_err p rest e h = not_where_err (in_range p) (token_of p, rest) f.NumberTooBig e h

pub takes : (text rest : Text) (o : Option Token) → front_of text ≡ Ok (o, rest) → Takes text rest o
takes text rest o e = go (strict_cut text) refl (sym (front_is text) ∙ e)
  where
    neither : (x : Bool) → (let r : Found = if x then Err f.OpenComment else Err f.BadByte in r) ≡ Ok (o, rest) → ⊥
    neither true g = cc
    neither false g = cc

    go : (c : Option (Cut Piece)) → strict_cut text ≡ c → judged (opens text) c ≡ Ok (o, rest) → Takes text rest o
    go None is g = absurd (neither (opens text) g)
    go (Some k) is g =
        let m = piece_cuts.found text k (strict_cuts text k is) in
        let j = judge_ok k.piece k.rest rest o g in
        record {
          taken = k.piece;
          bytes = k.bytes;
          is = m.0;
          longest = m.1;
          whole = m.2 ∙ ap (λ (u : Text). k.bytes ++ u) j.2;
          token = j.1;
          small = in_range_is k.piece j.0;
          no_sign = λ more e. strict_comment more k (ap strict_cut (sym e) ∙ is);
        }

-- ---- nothing is taken

closed_cut_none : (text : Text) → opens text ≡ false → strict_cut text ≡ None → piece_cut text ≡ None
closed_cut_none text o e = go (piece_cut text) refl
  where
    go : (c : Option (Cut Piece)) → piece_cut text ≡ c → c ≡ None
    go None is = refl
    go (Some k) is =
        absurd (let g : strict_cut text ≡ Some k = cuts_strict text k (λ there none. let wrong : true ≡ false = sym there ∙ o in cc) is in cc)

opens_at : (text : Text) → opens (40 ∷ 42 ∷ text) ≡ true
opens_at text = refl

pub bad_byte : (text : Text) → front_of text ≡ Err f.BadByte → ((p : Piece) (x more : Text) → piece p x → text ≡ x ++ more → ⊥) × ((more : Text) → text ≡ 40 ∷ 42 ∷ more → ⊥)
bad_byte text h = go (strict_cut text) refl (sym (front_is text) ∙ h)
  where
    closed : (x : Bool) → (let r : Found = if x then Err f.OpenComment else Err f.BadByte in r) ≡ Err f.BadByte → x ≡ false
    closed true g = absurd cc
    closed false g = refl

    go : (c : Option (Cut Piece)) → strict_cut text ≡ c → judged (opens text) c ≡ Err f.BadByte → ((p : Piece) (x more : Text) → piece p x → text ≡ x ++ more → ⊥) × ((more : Text) → text ≡ 40 ∷ 42 ∷ more → ⊥)
    go None is g =
        let no = closed (opens text) g in (
          (λ p x more d e. piece_cuts.none text (closed_cut_none text no is) p x more d e),
          (λ more e. let yes : opens text ≡ true = ap opens e ∙ opens_at more in cc),
        )
    go (Some k) is g = absurd (let j = judge_err k.piece k.rest f.BadByte g in let e : f.BadByte ≡ f.NumberTooBig = j.1 in cc)

pub big_number : (text : Text) → front_of text ≡ Err f.NumberTooBig
    → (digits : Text) × (more : Text) × piece (number digits) digits × IsLongest piece digits text × (text ≡ digits ++ more) × (greatest < number_of digits)
big_number text h = go (strict_cut text) refl (sym (front_is text) ∙ h)
  where
    neither : (x : Bool) → (let r : Found = if x then Err f.OpenComment else Err f.BadByte in r) ≡ Err f.NumberTooBig → ⊥
    neither true g = cc
    neither false g = cc

    go : (c : Option (Cut Piece)) → strict_cut text ≡ c → judged (opens text) c ≡ Err f.NumberTooBig
        → (digits : Text) × (more : Text) × piece (number digits) digits × IsLongest piece digits text × (text ≡ digits ++ more) × (greatest < number_of digits)
    go None is g = absurd (neither (opens text) g)
    go (Some k) is g =
        let m = piece_cuts.found text k (strict_cuts text k is) in
        let j = judge_err k.piece k.rest f.NumberTooBig g in
        let t = too_big_is k.piece j.0 in
        let there : piece (number t.0) k.bytes = subst (λ p. piece p k.bytes) t.1 m.0 in
        let same : k.bytes ≡ t.0 = sym (number_bytes t.0 k.bytes there) in
        (t.0, k.rest, subst (λ (x : Text). piece (number t.0) x) same there, subst (λ (x : Text). IsLongest piece x text) same m.1, m.2 ∙ ap (λ (x : Text). x ++ k.rest) same, t.2)

-- ---- an open comment

not_closed : (more : Text) → front_of (40 ∷ 42 ∷ more) ≡ Err f.OpenComment → after_close more ≡ None
unfolding front_of letter digit
not_closed more e = go (after_close more) refl e
  where
    go : (o : Option Text) → after_close more ≡ o → commented o ≡ Err f.OpenComment → after_close more ≡ None
    go None is g = is
    go (Some rest) is g = absurd cc

pub open_comment : (text : Text) → front_of text ≡ Err f.OpenComment → (more : Text) × (text ≡ 40 ∷ 42 ∷ more) × (after_close more ≡ None)
open_comment text h =
    let o = opened text (go (strict_cut text) (sym (front_is text) ∙ h)) in
    (inside text, o, not_closed (inside text) (ap front_of (sym o) ∙ h))
  where
    is_open : (x : Bool) → (let r : Found = if x then Err f.OpenComment else Err f.BadByte in r) ≡ Err f.OpenComment → x ≡ true
    is_open true g = refl
    is_open false g = absurd cc

    go : (c : Option (Cut Piece)) → judged (opens text) c ≡ Err f.OpenComment → opens text ≡ true
    go None g = is_open (opens text) g
    go (Some k) g = absurd (let j = judge_err k.piece k.rest f.OpenComment g in let e : f.OpenComment ≡ f.NumberTooBig = j.1 in cc)
