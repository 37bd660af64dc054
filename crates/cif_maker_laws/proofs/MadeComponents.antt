-- The components of a made source are its bodies: the specification, and a plant for each number.
use Rattle.std.proofs.Common.{◌≡◌, ℕ, zero, suc, Bool, true, false, List, [], ◌∷◌, ◌++◌, Option, filter, refl, sym, ap, subst, ◌∙◌, codes}
use Rattle.std.specs.Prelude.{flat_map, filter_map}
use Rattle.std.specs.List.{Any}
use Rattle.std.proofs.lemmas.List.Elements.{filter_map-append}
use Rattle.cif_source.specs.Source.{automaton_body}
use Rattle.cif_source.specs.Components.{Component, whole, part, body_of}
use Rattle.cif_source.specs.Objects.{child_of, children, components_below, components_of, is_automaton, automata}
use Rattle.cif_maker.specs.Draws.{has_need, most_of, numbers_below}
use Rattle.cif_maker.specs.MadeText.{numbered}
use Rattle.cif_maker_laws.specs.MadeTree.{ident_at, plant_body, block_items}
use Rattle.cif_maker_laws.proofs.Bodies.{any_none, each_of_all, flat_twice, flat_same, items_listed, made, made_bodies, at_of, plant_of, items_for, in_no_body}

filter_flat : {A B C : Type 0} (f : B → Option C) (g : A → List B) (xs : List A) → filter_map f (flat_map g xs) ≡ flat_map (λ x. filter_map f (g x)) xs
filter_flat f g [] = refl
filter_flat f g (x ∷ xs) = filter_map-append f (g x) (flat_map g xs) ∙ ap (λ u. filter_map f (g x) ++ u) (filter_flat f g xs)

module _ (seed size : ℕ) where
  abbrev pub plants : List ℕ → List Component
  plants is = flat_map (λ i. plant_of seed size i ∷ []) is

  block_children : (c : Component) (b : Bool) (i : ℕ)
      → filter_map (child_of c) (items_for seed size b i) ≡ part c (ident_at (numbered (codes "A") i) (at_of seed size i 7)) (automaton_body (plant_body i (most_of seed i) (at_of seed size i))) ∷ []
  block_children c true i = refl
  block_children c false i = refl

  whole_children : children (whole (made seed size)) ≡ plants (numbers_below size)
  whole_children =
      ap (filter_map (child_of (whole (made seed size)))) (items_listed (flat_map (block_items seed size) (numbers_below size)))
      ∙ filter_flat (child_of (whole (made seed size))) (block_items seed size) (numbers_below size)
      ∙ flat_same (λ i. filter_map (child_of (whole (made seed size))) (block_items seed size i)) (λ i. plant_of seed size i ∷ []) (numbers_below size) (λ i. block_children (whole (made seed size)) (has_need seed size i) i)

  plant_alone : (n i : ℕ) → components_below n (plant_of seed size i) ≡ plant_of seed size i ∷ []
  plant_alone zero i = refl
  plant_alone (suc n) i = refl

  plants_alone : (n : ℕ) (is : List ℕ) → flat_map (components_below n) (plants is) ≡ plants is
  plants_alone n is =
      flat_twice (components_below n) (λ i. plant_of seed size i ∷ []) is
      ∙ flat_same (λ i. components_below n (plant_of seed size i) ++ []) (λ i. plant_of seed size i ∷ []) is (λ i. ap (λ u. u ++ []) (plant_alone n i))

  components_within : (n : ℕ) → components_below (suc n) (whole (made seed size)) ≡ whole (made seed size) ∷ plants (numbers_below size)
  components_within n = ap (λ cs. whole (made seed size) ∷ flat_map (components_below n) cs) whole_children ∙ ap (λ cs. whole (made seed size) ∷ cs) (plants_alone n (numbers_below size))

  pub made_components : components_of (made seed size) ≡ whole (made seed size) ∷ plants (numbers_below size)
  made_components = components_within 99999

  -- what is refused of the whole and of each plant is refused
  pub in_no_component : (P : Component → Type 0) → (P (whole (made seed size)) → ⊥) → ((i : ℕ) → P (plant_of seed size i) → ⊥) → Any P (components_of (made seed size)) → ⊥
  in_no_component P top each a = in_no_body seed size P top each (subst (Any P) (made_components ∙ sym (made_bodies seed size)) a)

  plants_kept : (is : List ℕ) → filter (λ c. is_automaton (body_of c)) (plants is) ≡ plants is
  plants_kept [] = refl
  plants_kept (i ∷ is) = ap (λ cs. plant_of seed size i ∷ cs) (plants_kept is)

  pub made_automata : automata (made seed size) ≡ plants (numbers_below size)
  made_automata = ap (filter (λ c. is_automaton (body_of c))) made_components ∙ plants_kept (numbers_below size)

  -- what is refused of each plant is refused of the automata
  pub in_no_automaton : (P : Component → Type 0) → ((i : ℕ) → P (plant_of seed size i) → ⊥) → Any P (automata (made seed size)) → ⊥
  in_no_automaton P each a =
      any_none P (plants (numbers_below size)) (each_of_all (λ c. P c → ⊥) (λ i. plant_of seed size i ∷ []) (numbers_below size) (λ i. (each i, tt)))
      (subst (Any P) made_automata a)
