-- The bodies of a made source: the specification, and a plant for each number.
use Rattle.std.proofs.Common.{◌≡◌, ℕ, zero, suc, Bool, true, false, List, [], ◌∷◌, ◌++◌, refl, sym, ap, subst, ◌∙◌, arith, codes}
use Rattle.std.specs.Prelude.{flat_map, IsTrue, if◌then◌else◌}
use Rattle.std.specs.List.{Any, AllByRecursion}
use Rattle.std.proofs.lemmas.Grind.{flat_map-append}
use Rattle.cif_source.specs.Source.{SourceItem, Source, list_of_items, automaton_body}
use Rattle.cif_source.specs.Components.{Component, whole, part}
use Rattle.cif_source.specs.Objects.{bodies, bodies_in, bodies_at}
use Rattle.cif_maker.specs.Draws.{has_need, most_of, next_of, numbers_below}
use Rattle.cif_maker.specs.MadeText.{numbered, place, plant_pieces, need_pieces}
use Rattle.cif_maker_laws.specs.MadeTree.{source_of_list, ident_at, plant_body, plant_items, need_item, block_place, need_place, block_items, made_source}

-- ---- tests and lists

pub not_true : (b : Bool) → b ≡ false → IsTrue b → ⊥
not_true b e h = let w : false ≡ true = sym e ∙ h in cc

pub not_false : (b : Bool) → b ≡ true → b ≡ false → ⊥
not_false b e h = let w : false ≡ true = sym h ∙ e in cc

any_cases : {A : Type 0} (P : A → Type 0) (x : A) (xs : List A) → Any P (x ∷ xs) → (P x → ⊥) → (Any P xs → ⊥) → ⊥
any_cases P x xs (zero, y, l, e, p) here there = here (subst P (sym e) p)
any_cases P x xs (suc k, y, l, e, p) here there = there (k, y, omega arith, e, p)

pub any_none : {A : Type 0} (P : A → Type 0) (xs : List A) → AllByRecursion (λ x. P x → ⊥) xs → Any P xs → ⊥
any_none P [] h (k, y, l, e, p) = omega arith
any_none P (x ∷ xs) h a = any_cases P x xs a h.0 (any_none P xs h.1)

pub each-append : {A : Type 0} (P : A → Type 0) (xs ys : List A) → AllByRecursion P xs → AllByRecursion P ys → AllByRecursion P (xs ++ ys)
each-append P [] ys a b = b
each-append P (x ∷ xs) ys a b = (a.0, each-append P xs ys a.1 b)

pub each_of_all : {A B : Type 0} (P : B → Type 0) (f : A → List B) (xs : List A) → ((x : A) → AllByRecursion P (f x)) → AllByRecursion P (flat_map f xs)
each_of_all P f [] h = tt
each_of_all P f (x ∷ xs) h = each-append P (f x) (flat_map f xs) (h x) (each_of_all P f xs h)

pub flat_twice : {A B C : Type 0} (g : B → List C) (f : A → List B) (xs : List A) → flat_map g (flat_map f xs) ≡ flat_map (λ x. flat_map g (f x)) xs
flat_twice g f [] = refl
flat_twice g f (x ∷ xs) = flat_map-append g (f x) (flat_map f xs) ∙ ap (λ u. flat_map g (f x) ++ u) (flat_twice g f xs)

pub flat_same : {A B : Type 0} (f g : A → List B) (xs : List A) → ((x : A) → f x ≡ g x) → flat_map f xs ≡ flat_map g xs
flat_same f g [] h = refl
flat_same f g (x ∷ xs) h = ap (λ u. u ++ flat_map f xs) (h x) ∙ ap (λ u. g x ++ u) (flat_same f g xs h)

-- ---- the items of a source

pub items_listed : (xs : List SourceItem) → list_of_items (source_of_list xs) ≡ xs
items_listed [] = refl
items_listed (x ∷ xs) = ap (λ u. x ∷ u) (items_listed xs)

bodies_listed : (c : Component) (xs : List SourceItem) → bodies_in c (source_of_list xs) ≡ flat_map (bodies_at c) xs
bodies_listed c [] = refl
bodies_listed c (x ∷ xs) = ap (λ u. bodies_at c x ++ u) (bodies_listed c xs)

module _ (seed size : ℕ) where
  abbrev pub made : Source
  made = made_source seed size

  -- where piece k of the line of plant i stands
  abbrev pub at_of : ℕ → ℕ → ℕ
  at_of i = place (block_place seed size i) (plant_pieces i (most_of seed i))

  -- where piece k of the second line stands
  abbrev pub need_at_of : ℕ → ℕ → ℕ
  need_at_of i = place (need_place seed size i) (need_pieces i (next_of size i))

  abbrev pub plant_of : ℕ → Component
  plant_of i = part (whole made) (ident_at (numbered (codes "A") i) (at_of i 7)) (automaton_body (plant_body i (most_of seed i) (at_of i)))

  -- what is written for i, with its second line or without
  abbrev pub items_for : Bool → ℕ → List SourceItem
  items_for b i = plant_items i (most_of seed i) (at_of i) ++ (if b then need_item i (next_of size i) (need_at_of i) ∷ [] else [])

  -- a list of the whole, block by block
  pub by_blocks : {A : Type 0} (f : SourceItem → List A) → flat_map f (list_of_items made) ≡ flat_map (λ i. flat_map f (block_items seed size i)) (numbers_below size)
  by_blocks f = ap (flat_map f) (items_listed (flat_map (block_items seed size) (numbers_below size))) ∙ flat_twice f (block_items seed size) (numbers_below size)

  block_bodies : (c : Component) (b : Bool) (i : ℕ)
      → flat_map (bodies_at c) (items_for b i) ≡ part c (ident_at (numbered (codes "A") i) (at_of i 7)) (automaton_body (plant_body i (most_of seed i) (at_of i))) ∷ []
  block_bodies c true i = refl
  block_bodies c false i = refl

  pub made_bodies : bodies made ≡ whole made ∷ flat_map (λ i. plant_of i ∷ []) (numbers_below size)
  made_bodies =
      ap (λ u. whole made ∷ u) (bodies_listed (whole made) (flat_map (block_items seed size) (numbers_below size))
      ∙ flat_twice (bodies_at (whole made)) (block_items seed size) (numbers_below size)
      ∙ flat_same (λ i. flat_map (bodies_at (whole made)) (block_items seed size i)) (λ i. plant_of i ∷ []) (numbers_below size) (λ i. block_bodies (whole made) (has_need seed size i) i))

  -- what is refused of the whole and of each plant is refused
  pub in_no_body : (P : Component → Type 0) → (P (whole made) → ⊥) → ((i : ℕ) → P (plant_of i) → ⊥) → Any P (bodies made) → ⊥
  in_no_body P top each a =
      any_none P (whole made ∷ flat_map (λ i. plant_of i ∷ []) (numbers_below size))
      (top, each_of_all (λ c. P c → ⊥) (λ i. plant_of i ∷ []) (numbers_below size) (λ i. (each i, tt)))
      (subst (λ cs. Any P cs) made_bodies a)

  -- what holds of each item of a block with and without its second line holds of all that the items give
  pub each_item : {A : Type 0} (P : A → Type 0) (f : SourceItem → List A) → ((b : Bool) (i : ℕ) → AllByRecursion P (flat_map f (items_for b i))) → AllByRecursion P (flat_map f (list_of_items made))
  each_item P f h = subst (λ xs. AllByRecursion P xs) (sym (by_blocks f)) (each_of_all P (λ i. flat_map f (block_items seed size i)) (numbers_below size) (λ i. h (has_need seed size i) i))
