-- Each scope of a made source declares each of its names once.
use Rattle.std.proofs.Common.{◌≡◌, ◌≢◌, ℕ, zero, suc, ◌+◌, ◌≤◌, ◌<◌, Bool, true, false, List, [], ◌∷◌, ◌++◌, drop, refl, sym, ap, subst, ◌∙◌, arith, codes, inl, inr}
use Rattle.std.specs.Prelude.{map, flat_map, decimal, slice_index_or}
use Rattle.std.specs.List.{range_with_len}
use Rattle.std.proofs.lemmas.List.{map-append}
use Rattle.grammar.specs.Pieces.{Text}
use Rattle.cif_ast.specs.declared.names.Ident.{Ident}
use Rattle.cif_system.specs.Words.{Member, AreDistinct, Before}
use Rattle.cif_system.proofs.Distinct.{flat_map-distinct}
use Rattle.cif_source.specs.Components.{Component, whole, Entry, scope_of}
use Rattle.cif_source.specs.Scoping.{DeclaresTwice, DuplicateDue}
use Rattle.cif_maker.specs.Draws.{has_need, numbers_below}
use Rattle.cif_maker.specs.MadeText.{numbered}
use Rattle.cif_maker_laws.proofs.Bodies.{flat_same, made, plant_of, in_no_body}
use Rattle.cif_maker_laws.proofs.Lookups.{IsShort, decimals_same, entries_for, all_entries}

-- ---- numbers in a range

pub member_range : (x a n : ℕ) → Member x (range_with_len a n) → (a ≤ x) × (x < a + n)
member_range x a zero h = absurd h
member_range x a (suc n) (inl e) = (omega arith, omega arith)
member_range x a (suc n) (inr h) = let r = member_range x (a + 1) n h in (omega arith, omega arith)

pub range_distinct : (a n : ℕ) → AreDistinct (range_with_len a n)
range_distinct a zero = tt
range_distinct a (suc n) = ((λ h. let r = member_range a (a + 1) n h in omega arith), range_distinct (a + 1) n)

-- ---- the declared texts

abbrev declared_texts : List (Ident × Entry) → List Text
declared_texts es = map (λ (n : Ident). n.text) (map (λ (e : Ident × Entry). e.0) es)

texts-append : (xs ys : List (Ident × Entry)) → declared_texts (xs ++ ys) ≡ declared_texts xs ++ declared_texts ys
texts-append xs ys =
    ap (map (λ (n : Ident). n.text)) (map-append (λ (e : Ident × Entry). e.0) xs ys)
    ∙ map-append (λ (n : Ident). n.text) (map (λ (e : Ident × Entry). e.0) xs) (map (λ (e : Ident × Entry). e.0) ys)

texts_each : (f : ℕ → List (Ident × Entry)) (is : List ℕ) → declared_texts (flat_map f is) ≡ flat_map (λ i. declared_texts (f i)) is
texts_each f [] = refl
texts_each f (i ∷ is) = texts-append (f i) (flat_map f is) ∙ ap (λ ts. declared_texts (f i) ++ ts) (texts_each f is)

has_text : (y : Ident) (ns : List Ident) → Member y ns → Member y.text (map (λ (n : Ident). n.text) ns)
has_text y [] h = h
has_text y (n ∷ ns) (inl e) = inl (ap (λ (n : Ident). n.text) e)
has_text y (n ∷ ns) (inr h) = inr (has_text y ns h)

-- of two names in a list of different texts
texts_apart : (x y : Ident) (ns : List Ident) → AreDistinct (map (λ (n : Ident). n.text) ns) → Before x y ns → x.text ≡ y.text → ⊥
texts_apart x y [] d b e = b
texts_apart x y (n ∷ ns) d (inl b) e = d.0 (subst (λ t. Member t (map (λ (n : Ident). n.text) ns)) (sym e ∙ ap (λ (n : Ident). n.text) b.0) (has_text y ns b.1))
texts_apart x y (n ∷ ns) d (inr b) e = texts_apart x y ns d.1 b e

declared_once : (c : Component) (at first : ℕ) → AreDistinct (declared_texts (scope_of c)) → DeclaresTwice c at first → ⊥
declared_once c at first d h = texts_apart h.earlier h.later (map (λ (e : Ident × Entry). e.0) (scope_of c)) d h.order h.same

-- ---- what stands for a number

abbrev names_for : ℕ → List Text
names_for i = numbered (codes "u") i ∷ numbered (codes "c") i ∷ numbered (codes "s") i ∷ numbered (codes "A") i ∷ []

with_number : (z : Text) (i : ℕ) → Member z (names_for i) → (letter : ℕ) × (z ≡ letter ∷ decimal i)
with_number z i (inl e) = (117, e)
with_number z i (inr (inl e)) = (99, e)
with_number z i (inr (inr (inl e))) = (115, e)
with_number z i (inr (inr (inr (inl e)))) = (65, e)
with_number z i (inr (inr (inr (inr h)))) = absurd h

pub other_first : (a b : ℕ) (t u : Text) → a ≢ b → a ∷ t ≡ b ∷ u → ⊥
other_first a b t u n e = n (ap (λ t. slice_index_or t 0 0) e)

names_distinct : (i : ℕ) → AreDistinct (names_for i)
names_distinct i =
    let d : Text = decimal i in (
      (λ h. elim h [
        | inl e ↦ other_first 117 99 d d (λ w. omega arith) e
        | inr (inl e) ↦ other_first 117 115 d d (λ w. omega arith) e
        | inr (inr (inl e)) ↦ other_first 117 65 d d (λ w. omega arith) e
        | inr (inr (inr w)) ↦ w
      ]),
      (
        (λ h. elim h [ inl e ↦ other_first 99 115 d d (λ w. omega arith) e | inr (inl e) ↦ other_first 99 65 d d (λ w. omega arith) e | inr (inr w) ↦ w ]),
        ((λ h. elim h [ inl e ↦ other_first 115 65 d d (λ w. omega arith) e | inr w ↦ w ]), ((λ h. h), tt)),
      ),
    )

module _ (seed size : ℕ) (short : IsShort size) where
  block_texts : (b : Bool) (i : ℕ) → declared_texts (entries_for seed size b i) ≡ names_for i
  block_texts true i = refl
  block_texts false i = refl

  whole_texts : declared_texts (scope_of (whole (made seed size))) ≡ flat_map names_for (numbers_below size)
  whole_texts =
      ap declared_texts (all_entries seed size)
      ∙ texts_each (λ i. entries_for seed size (has_need seed size i) i) (numbers_below size)
      ∙ flat_same (λ i. declared_texts (entries_for seed size (has_need seed size i) i)) names_for (numbers_below size) (λ i. block_texts (has_need seed size i) i)

  one_number : (x y : ℕ) (z : Text) → Member x (numbers_below size) → Member y (numbers_below size) → Member z (names_for x) → Member z (names_for y) → x ≡ y
  one_number x y z u v a b =
      let p = member_range x 0 size u in
      let q = member_range y 0 size v in
      let r = with_number z x a in
      let s = with_number z y b in
      decimals_same x y (omega arith) (omega arith) (ap (drop 1) (sym r.1 ∙ s.1))

  whole_distinct : AreDistinct (declared_texts (scope_of (whole (made seed size))))
  whole_distinct = subst AreDistinct (sym whole_texts) (flat_map-distinct names_for (numbers_below size) (range_distinct 0 size) (λ i m. names_distinct i) one_number)

  plant_distinct : (i : ℕ) → AreDistinct (declared_texts (scope_of (plant_of seed size i)))
  plant_distinct i = (
    (λ h. elim h [ inl e ↦ other_first 110 105 _ _ (λ w. omega arith) e | inr (inl e) ↦ other_first 110 98 _ _ (λ w. omega arith) e | inr (inr w) ↦ w ]),
    ((λ h. elim h [ inl e ↦ other_first 105 98 _ _ (λ w. omega arith) e | inr w ↦ w ]), ((λ h. h), tt)),
  )

  pub no_duplicate : (at first : ℕ) → DuplicateDue (made seed size) at first → ⊥
  no_duplicate at first = in_no_body seed size (λ c. DeclaresTwice c at first)
      (declared_once (whole (made seed size)) at first whole_distinct) (λ i. declared_once (plant_of seed size i) at first (plant_distinct i))
