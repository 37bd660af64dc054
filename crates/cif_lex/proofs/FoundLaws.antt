-- What is found at the front of a text, said of the pieces that begin there.
use Rattle.std.proofs.Common.{◌≡◌, ◌==◌, ℕ, ◌<◌, Bool, true, false, if◌then◌else◌, [], ◌∷◌, ◌++◌, Option, Some, None, Ok, Err, refl, sym, ap, subst, ◌∙◌, inl, inr, leb-true}
use Rattle.std.proofs.lemmas.Bool.{leb-false}
use Rattle.grammar.specs.Pieces.{Text, Cut, IsLongest}
use Rattle.grammar.proofs.Texts.{and_left, and_right, from_test}
use Rattle.grammar.proofs.Cutting.{text_made}
use Rattle.grammar.proofs.Closing.{unclosed}
use Rattle.grammar.specs.Classes.{letter}
use Rattle.grammar.proofs.Fronts.{so_where_ok, not_where_err}
use Rattle.cif_lex.specs.declared.token.TokenKind.{TokenKind}
use Rattle.cif_lex.specs.declared.found.Fault.{Fault}
use Rattle.cif_lex.specs.declared.found.Fault.TheVariants as f
use Rattle.cif_lex.specs.Tokens.{Piece, blank, comment, word, escaped, number, sign, signs, piece, kind_of, number_of, greatest_number, IsInRange}
use Rattle.cif_lex.specs.Cutting.{Found, is_small, after_close, closed_found, slash_found, found_of}
use Rattle.cif_lex.proofs.SignLaws.{in_range, judge}
use Rattle.cif_lex.proofs.CutLaws.{piece_cut, piece_cuts}
use Rattle.cif_lex.proofs.FrontLaws.{opens, judged, front_is}

-- ---- numbers in range

in_range_is : (p : Piece) → in_range p ≡ true → IsInRange p
unfolding IsInRange is_small
in_range_is blank e = tt
in_range_is comment e = tt
in_range_is (word t) e = tt
in_range_is (escaped t) e = tt
in_range_is (number t) e = leb-true (number_of t) greatest_number e
in_range_is (sign t) e = tt

too_big_is : (p : Piece) → in_range p ≡ false → (digits : Text) × (p ≡ number digits) × (greatest_number < number_of digits)
unfolding is_small
too_big_is blank e = absurd cc
too_big_is comment e = absurd cc
too_big_is (word t) e = absurd cc
too_big_is (escaped t) e = absurd cc
too_big_is (number t) e = (t, refl, leb-false (number_of t) greatest_number e)
too_big_is (sign t) e = absurd cc

-- a number is made with its text
number_bytes : (t x : Text) → piece (number t) x → t ≡ x
unfolding piece
number_bytes t x (inl d) = absurd (let e : number t ≡ blank = d.5 in cc)
number_bytes t x (inr (inl d)) = absurd (let e : number t ≡ word (d.0 ∷ d.1) = d.5 in cc)
number_bytes t x (inr (inr (inl d))) = absurd (let e : number t ≡ escaped (d.1.0 ∷ d.1.1) = d.1.5 in cc)
number_bytes t x (inr (inr (inr (inl d)))) = let e : number t ≡ number (d.0 ∷ d.1) = d.5 in let g : x ≡ d.0 ∷ d.1 = d.4 in cc
number_bytes t x (inr (inr (inr (inr (inl d))))) = let e : number t ≡ number (d.0 ∷ d.1) = d.5 in let g : x ≡ d.0 ∷ d.1 = d.4 in cc
number_bytes t x (inr (inr (inr (inr (inr (inl (y, inl d, g))))))) = absurd (let e : number t ≡ comment = d.5 in cc)
number_bytes t x (inr (inr (inr (inr (inr (inl (y, inr d, g))))))) = absurd (let e : number t ≡ comment = d.3 in cc)
number_bytes t x (inr (inr (inr (inr (inr (inr d)))))) = absurd (let e : number t ≡ sign x = text_made signs sign (number t) x d in cc)

-- ---- a piece is taken

pub record Takes (text rest : Text) (kind : Option TokenKind) : Type 0 where
  pub taken : Piece
  pub bytes : Text
  pub is : piece taken bytes
  pub longest : IsLongest piece bytes text
  pub whole : text ≡ bytes ++ rest
  pub has_kind : kind_of taken ≡ kind
  pub small : IsInRange taken

judge_ok : (p : Piece) (rest more : Text) (k : Option TokenKind) → judge p rest ≡ Ok (k, more) → (in_range p ≡ true) × (kind_of p ≡ k) × (rest ≡ more)
judge_ok p rest more k e =
    let m = so_where_ok (in_range p) (kind_of p, rest) (k, more) f.NumberTooBig e in
    (m.0, ap (λ (q : Option TokenKind × Text). q.0) m.1, ap (λ (q : Option TokenKind × Text). q.1) m.1)

judge_err : (p : Piece) (rest : Text) (e : Fault) → judge p rest ≡ Err e → (in_range p ≡ false) × (e ≡ f.NumberTooBig)
judge_err p rest e h = not_where_err (in_range p) (kind_of p, rest) f.NumberTooBig e h

found_takes : (b : ℕ) (text rest : Text) (k : Option TokenKind) → found_of (b ∷ text) ≡ Ok (k, rest) → Takes (b ∷ text) rest k
found_takes b text rest k e = go (piece_cut (b ∷ text)) refl (sym (front_is b text) ∙ e)
  where
    neither : (x : Bool) → (let r : Found = if x then Err f.OpenComment else Err f.BadByte in r) ≡ Ok (k, rest) → ⊥
    neither true g = cc
    neither false g = cc

    go : (o : Option (Cut Piece)) → piece_cut (b ∷ text) ≡ o → judged (b ∷ text) o ≡ Ok (k, rest) → Takes (b ∷ text) rest k
    go None is g = absurd (neither (opens (b ∷ text)) g)
    go (Some c) is g =
        let m = piece_cuts.found (b ∷ text) c is in
        let j = judge_ok c.piece c.rest rest k g in
        record { taken = c.piece; bytes = c.bytes; is = m.0; longest = m.1; whole = m.2 ∙ ap (λ (u : Text). c.bytes ++ u) j.2; has_kind = j.1; small = in_range_is c.piece j.0 }

pub takes : (text rest : Text) (k : Option TokenKind) → found_of text ≡ Ok (k, rest) → Takes text rest k
unfolding found_of
takes [] rest k e = absurd cc
takes (b ∷ text) rest k e = found_takes b text rest k e

-- ---- nothing is taken

-- what is cut where this fault is found
judged_fault : (b : ℕ) (text : Text) (e : Fault) → found_of (b ∷ text) ≡ Err e → (o : Option (Cut Piece)) × (piece_cut (b ∷ text) ≡ o) × (judged (b ∷ text) o ≡ Err e)
judged_fault b text e h = (piece_cut (b ∷ text), refl, sym (front_is b text) ∙ h)

opens_at : (text : Text) → opens (47 ∷ 42 ∷ text) ≡ true
opens_at text = refl

pub bad_byte : (b : ℕ) (text : Text) → found_of (b ∷ text) ≡ Err f.BadByte → ((p : Piece) (x more : Text) → piece p x → b ∷ text ≡ x ++ more → ⊥) × ((more : Text) → b ∷ text ≡ 47 ∷ 42 ∷ more → ⊥)
bad_byte b text h = go (piece_cut (b ∷ text)) refl (sym (front_is b text) ∙ h)
  where
    closed : (x : Bool) → opens (b ∷ text) ≡ x → (let r : Found = if x then Err f.OpenComment else Err f.BadByte in r) ≡ Err f.BadByte → opens (b ∷ text) ≡ false
    closed true is g = absurd cc
    closed false is g = is

    go : (o : Option (Cut Piece)) → piece_cut (b ∷ text) ≡ o → judged (b ∷ text) o ≡ Err f.BadByte → ((p : Piece) (x more : Text) → piece p x → b ∷ text ≡ x ++ more → ⊥) × ((more : Text) → b ∷ text ≡ 47 ∷ 42 ∷ more → ⊥)
    go None is g = (
      (λ p x more d e. piece_cuts.none (b ∷ text) is p x more d e),
      (λ more e. let no = closed (opens (b ∷ text)) refl g in let yes : opens (b ∷ text) ≡ true = ap opens e ∙ opens_at more in cc),
    )
    go (Some c) is g = absurd (let j = judge_err c.piece c.rest f.BadByte g in let e : f.BadByte ≡ f.NumberTooBig = j.1 in cc)

pub big_number : (b : ℕ) (text : Text) → found_of (b ∷ text) ≡ Err f.NumberTooBig
    → (digits : Text) × (more : Text) × piece (number digits) digits × IsLongest piece digits (b ∷ text) × (b ∷ text ≡ digits ++ more) × (greatest_number < number_of digits)
big_number b text h = go (piece_cut (b ∷ text)) refl (sym (front_is b text) ∙ h)
  where
    neither : (x : Bool) → (let r : Found = if x then Err f.OpenComment else Err f.BadByte in r) ≡ Err f.NumberTooBig → ⊥
    neither true g = cc
    neither false g = cc

    go : (o : Option (Cut Piece)) → piece_cut (b ∷ text) ≡ o → judged (b ∷ text) o ≡ Err f.NumberTooBig
        → (digits : Text) × (more : Text) × piece (number digits) digits × IsLongest piece digits (b ∷ text) × (b ∷ text ≡ digits ++ more) × (greatest_number < number_of digits)
    go None is g = absurd (neither (opens (b ∷ text)) g)
    go (Some c) is g =
        let m = piece_cuts.found (b ∷ text) c is in
        let j = judge_err c.piece c.rest f.NumberTooBig g in
        let t = too_big_is c.piece j.0 in
        let there : piece (number t.0) c.bytes = subst (λ p. piece p c.bytes) t.1 m.0 in
        let same : c.bytes ≡ t.0 = sym (number_bytes t.0 c.bytes there) in
        (t.0, c.rest, subst (λ (x : Text). piece (number t.0) x) same there, subst (λ (x : Text). IsLongest piece x (b ∷ text)) same m.1, m.2 ∙ ap (λ (x : Text). x ++ c.rest) same, t.2)

-- ---- an open comment

opened : (b : ℕ) (text : Text) → opens (b ∷ text) ≡ true → (more : Text) × (b ∷ text ≡ 47 ∷ 42 ∷ more)
opened b [] e = absurd cc
opened b (c ∷ text) e =
    let first : 47 ≡ b = from_test b 47 (and_left (b == 47) (c == 42) e) in
    let second : 42 ≡ c = from_test c 42 (and_right (b == 47) (c == 42) e) in
    (text, cc)

not_closed : (more : Text) → found_of (47 ∷ 42 ∷ more) ≡ Err f.OpenComment → after_close more ≡ None
unfolding found_of letter slash_found
not_closed more e = go (after_close more) refl e
  where
    go : (o : Option Text) → after_close more ≡ o → closed_found o ≡ Err f.OpenComment → after_close more ≡ None
    go None is g = is
    go (Some rest) is g = absurd cc

pub open_comment : (b : ℕ) (text : Text) → found_of (b ∷ text) ≡ Err f.OpenComment → (more : Text) × (b ∷ text ≡ 47 ∷ 42 ∷ more) × (after_close more ≡ None)
open_comment b text h =
    let o = opened b text (go (piece_cut (b ∷ text)) refl (sym (front_is b text) ∙ h)) in
    (o.0, o.1, not_closed o.0 (ap found_of (sym o.1) ∙ h))
  where
    is_open : (x : Bool) → (let r : Found = if x then Err f.OpenComment else Err f.BadByte in r) ≡ Err f.OpenComment → x ≡ true
    is_open true g = refl
    is_open false g = absurd cc

    go : (o : Option (Cut Piece)) → piece_cut (b ∷ text) ≡ o → judged (b ∷ text) o ≡ Err f.OpenComment → opens (b ∷ text) ≡ true
    go None is g = is_open (opens (b ∷ text)) g
    go (Some c) is g = absurd (let j = judge_err c.piece c.rest f.OpenComment g in let e : f.OpenComment ≡ f.NumberTooBig = j.1 in cc)

-- no piece begins at an open comment
pub no_piece_opens : (more : Text) → ((inner after : Text) → more ≡ inner ++ (42 ∷ 47 ∷ after) → ⊥) → (p : Piece) (x rest : Text) → piece p x → 47 ∷ 42 ∷ more ≡ x ++ rest → ⊥
unfolding found_of letter slash_found
no_piece_opens more none p x rest is e = go (piece_cut (47 ∷ 42 ∷ more)) refl (sym (front_is 47 (42 ∷ more)) ∙ ap closed_found (unclosed 42 47 more none))
  where
    go : (o : Option (Cut Piece)) → piece_cut (47 ∷ 42 ∷ more) ≡ o → judged (47 ∷ 42 ∷ more) o ≡ Err f.OpenComment → ⊥
    go None was g = piece_cuts.none (47 ∷ 42 ∷ more) was p x rest is e
    go (Some c) was g = let j = judge_err c.piece c.rest f.OpenComment g in let h : f.OpenComment ≡ f.NumberTooBig = j.1 in cc
