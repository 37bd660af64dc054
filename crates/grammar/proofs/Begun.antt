-- The pieces at the front of a text, and those that go on from there.
use Rattle.std.proofs.Common.{◌≡◌, ℕ, ◌+◌, ◌≤◌, List, [], ◌∷◌, ◌++◌, length, All, refl, sym, ap, subst, ◌∙◌, arith}
use Rattle.std.proofs.lemmas.List.{length-append}
use Rattle.std.proofs.lemmas.List.Elements.{All-tail}
use Rattle.grammar.specs.Pieces.{Text, Kinds, IsLongest, Pieces, Begun}
use Rattle.grammar.proofs.Cutting.{split_same}

module _ {P : Type 0} (r : Kinds P) where
  -- one more piece
  pub begun_more : (ps : List P) (p : P) (text rest x more : Text) → Begun r ps text rest → r p x → IsLongest r x rest → rest ≡ x ++ more → Begun r (ps ++ p ∷ []) text more
  begun_more [] p text rest x more b is longest e = (x, more, is, subst (λ (u : Text). IsLongest r x u) (sym b) longest, b ∙ e, refl)
  begun_more (q ∷ ps) p text rest x more b is longest e = (b.0, b.1, b.2, b.3, b.4, begun_more ps p b.1 rest x more b.5 is longest e)

  -- what is left is no longer
  pub begun_short : (ps : List P) (text rest : Text) → Begun r ps text rest → length rest ≤ length text
  begun_short [] text rest b = let e : length text ≡ length rest = ap (λ (u : Text). length u) b in omega arith
  begun_short (p ∷ ps) text rest b =
      let ih = begun_short ps b.1 rest b.5 in
      let e : length text ≡ length b.0 + length b.1 = ap (λ (u : Text). length u) b.4 ∙ length-append b.0 b.1 in
      omega arith

  -- where nothing is left, they are all
  pub pieces_all : (ps : List P) (text : Text) → Begun r ps text [] → Pieces r ps text
  pieces_all [] text b = b
  pieces_all (p ∷ ps) text b = (b.0, b.1, b.2, b.3, b.4, pieces_all ps b.1 b.5)

  pub begun_all : (ps : List P) (text : Text) → Pieces r ps text → Begun r ps text []
  begun_all [] text d = d
  begun_all (p ∷ ps) text d = (d.0, d.1, d.2, d.3, d.4, begun_all ps d.1 d.5)

-- pieces that have a byte each, and are told by their texts
module _ {P : Type 0} (r : Kinds P) (begins : (p : P) (x : Text) → r p x → (b : ℕ) × (t : Text) × (x ≡ b ∷ t)) (same : (p q : P) (x : Text) → r p x → r q x → p ≡ q) where
  -- a piece has a byte
  pub some_byte : (p : P) (x more : Text) → r p x → [] ≡ x ++ more → ⊥
  some_byte p x more is e =
      let s = begins p x is in
      let whole : [] ≡ (s.0 ∷ s.1) ++ more = e ∙ ap (λ u. u ++ more) s.2 in
      cc

  -- the longest pieces at one place are one
  pub one_piece : (p q : P) (x y z s text : Text) → r p x → r q y → IsLongest r x text → IsLongest r y text → text ≡ x ++ z → text ≡ y ++ s → (p ≡ q) × (z ≡ s)
  one_piece p q x y z s text is was longest also e g =
      let upper = longest q y s was g in
      let lower = also p x z is e in
      let parts = split_same x y z s (sym e ∙ g) (omega arith) in
      (same p q y (subst (λ (u : Text). r p u) parts.0 is) was, parts.1)

  -- the pieces of a text go on from those at its front
  pub front_goes_on : (ps qs : List P) (text rest : Text) → Begun r ps text rest → Pieces r qs text → (tail : List P) × (qs ≡ ps ++ tail) × Pieces r tail rest
  front_goes_on [] qs text rest b d = (qs, refl, subst (λ u. Pieces r qs u) b d)
  front_goes_on (p ∷ ps) [] text rest b d = absurd (some_byte p b.0 b.1 b.2 (sym d ∙ b.4))
  front_goes_on (p ∷ ps) (q ∷ qs) text rest b d =
      let m = one_piece p q b.0 d.0 b.1 d.1 text b.2 d.2 b.3 d.3 b.4 d.4 in
      let ih = front_goes_on ps qs b.1 rest b.5 (subst (λ u. Pieces r qs u) (sym m.1) d.5) in
      let head : p ≡ q = m.0 in
      let tails : qs ≡ ps ++ ih.0 = ih.1 in
      (ih.0, cc, ih.2)

  pub no_more : (tail : List P) → Pieces r tail [] → tail ≡ []
  no_more [] d = refl
  no_more (p ∷ tail) d = absurd (some_byte p d.0 d.1 d.2 d.4)

-- what holds of all pieces holds of those that go on
pub all_tail : {X : Type 0} (P : X → Type 0) (xs ys : List X) → All P (xs ++ ys) → All P ys
all_tail P [] ys h = h
all_tail P (x ∷ xs) ys h = all_tail P xs ys (All-tail P x (xs ++ ys) h)
