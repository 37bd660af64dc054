-- What a made source declares for each number: two events, an input and the variable of a plant.
use Rattle.std.proofs.Common.{◌≡◌, ℕ, Bool, true, false, List, [], ◌∷◌, ◌++◌, filter, refl, ap, ◌∙◌, codes}
use Rattle.std.specs.Prelude.{map, flat_map}
use Rattle.std.proofs.lemmas.List.{map-append, append-nil}
use Rattle.std.proofs.lemmas.Grind.{flat_map-append}
use Rattle.std.proofs.lemmas.List.Elements.{filter-append}
use Rattle.cif_ast.specs.declared.declarations.Class.TheVariants as class
use Rattle.cif_source.specs.Source.{DeclTree, event_decl, input_decl, no_type, bool_type}
use Rattle.cif_source.specs.Components.{Component, whole}
use Rattle.cif_source.specs.Objects.{decls_of, item_decls, Declared, declarations, is_event, is_input, is_variable, is_alg, events, inputs, variables, algs}
use Rattle.cif_maker.specs.Draws.{has_need, most_of, numbers_below}
use Rattle.cif_maker.specs.MadeText.{numbered}
use Rattle.cif_maker_laws.specs.MadeTree.{ident_at, variable, block_items}
use Rattle.cif_maker_laws.proofs.Bodies.{flat_twice, flat_same, made, at_of, plant_of, items_for, by_blocks}
use Rattle.cif_maker_laws.proofs.MadeComponents.{plants, made_components}

-- ---- lists

pub map_flat : {A B C : Type 0} (g : B → C) (f : A → List B) (xs : List A) → map g (flat_map f xs) ≡ flat_map (λ x. map g (f x)) xs
map_flat g f [] = refl
map_flat g f (x ∷ xs) = map-append g (f x) (flat_map f xs) ∙ ap (λ u. map g (f x) ++ u) (map_flat g f xs)

filtered : {A B : Type 0} (p : B → Bool) (f : A → List B) (xs : List A) → filter p (flat_map f xs) ≡ flat_map (λ x. filter p (f x)) xs
filtered p f [] = refl
filtered p f (x ∷ xs) = filter-append p (f x) (flat_map f xs) ∙ ap (λ u. filter p (f x) ++ u) (filtered p f xs)

pub none_each : {A B : Type 0} (xs : List A) → flat_map {X = A} {A = B} (λ x. []) xs ≡ []
none_each [] = refl
none_each {B = B} (x ∷ xs) = none_each {B = B} xs

module _ (seed size : ℕ) where
  abbrev pub u_decl : ℕ → DeclTree
  u_decl i = event_decl class.Unc no_type (ident_at (numbered (codes "u") i) (at_of seed size i 1))

  abbrev pub c_decl : ℕ → DeclTree
  c_decl i = event_decl class.Con no_type (ident_at (numbered (codes "c") i) (at_of seed size i 3))

  abbrev pub s_decl : ℕ → DeclTree
  s_decl i = input_decl bool_type (ident_at (numbered (codes "s") i) (at_of seed size i 5))

  abbrev pub n_decl : ℕ → DeclTree
  n_decl i = variable i (most_of seed i) (at_of seed size i)

  -- what stands for i in the specification, with its second line or without
  abbrev pub declared_for : Bool → ℕ → List Declared
  declared_for b i = map (λ d. (whole (made seed size), d)) (flat_map item_decls (items_for seed size b i))

  abbrev pub block_declared : ℕ → List Declared
  block_declared i = declared_for (has_need seed size i) i

  abbrev pub plant_declared : ℕ → List Declared
  plant_declared i = (plant_of seed size i, n_decl i) ∷ []

  pub made_declarations : declarations (made seed size) ≡ flat_map block_declared (numbers_below size) ++ flat_map plant_declared (numbers_below size)
  made_declarations =
      let own : Component → List Declared = λ c. map (λ d. (c, d)) (decls_of c) in
      let pair : DeclTree → Declared = λ d. (whole (made seed size), d) in
      ap (flat_map own) (made_components seed size)
      ∙ ap (λ ds. map pair ds ++ flat_map own (plants seed size (numbers_below size))) (by_blocks seed size item_decls)
      ∙ ap (λ ds. ds ++ flat_map own (plants seed size (numbers_below size))) (map_flat pair (λ i. flat_map item_decls (block_items seed size i)) (numbers_below size))
      ∙ ap (λ ds. flat_map block_declared (numbers_below size) ++ ds) (flat_twice own (λ i. plant_of seed size i ∷ []) (numbers_below size))

  -- a list of all declarations, block by block and then plant by plant
  pub by_declared : {A : Type 0} (g : Declared → List A) → flat_map g (declarations (made seed size))
      ≡ flat_map (λ i. flat_map g (block_declared i)) (numbers_below size) ++ flat_map (λ i. flat_map g (plant_declared i)) (numbers_below size)
  by_declared g =
      ap (flat_map g) made_declarations
      ∙ flat_map-append g (flat_map block_declared (numbers_below size)) (flat_map plant_declared (numbers_below size))
      ∙ ap (λ u. u ++ flat_map g (flat_map plant_declared (numbers_below size))) (flat_twice g block_declared (numbers_below size))
      ∙ ap (λ u. flat_map (λ i. flat_map g (block_declared i)) (numbers_below size) ++ u) (flat_twice g plant_declared (numbers_below size))

  sorted : (p : Declared → Bool) → filter p (declarations (made seed size))
      ≡ flat_map (λ i. filter p (block_declared i)) (numbers_below size) ++ flat_map (λ i. filter p (plant_declared i)) (numbers_below size)
  sorted p =
      ap (filter p) made_declarations
      ∙ filter-append p (flat_map block_declared (numbers_below size)) (flat_map plant_declared (numbers_below size))
      ∙ ap (λ u. u ++ filter p (flat_map plant_declared (numbers_below size))) (filtered p block_declared (numbers_below size))
      ∙ ap (λ u. flat_map (λ i. filter p (block_declared i)) (numbers_below size) ++ u) (filtered p plant_declared (numbers_below size))

  -- those that stand in the specification
  in_blocks : (p : Declared → Bool) (kept : ℕ → List Declared) → ((b : Bool) (i : ℕ) → filter p (declared_for b i) ≡ kept i) → ((i : ℕ) → filter p (plant_declared i) ≡ [])
      → filter p (declarations (made seed size)) ≡ flat_map kept (numbers_below size)
  in_blocks p kept block plant =
      sorted p
      ∙ ap (λ u. u ++ flat_map (λ i. filter p (plant_declared i)) (numbers_below size)) (flat_same (λ i. filter p (block_declared i)) kept (numbers_below size) (λ i. block (has_need seed size i) i))
      ∙ ap (λ u. flat_map kept (numbers_below size) ++ u) (flat_same (λ i. filter p (plant_declared i)) (λ i. []) (numbers_below size) plant ∙ none_each {B = Declared} (numbers_below size))
      ∙ append-nil (flat_map kept (numbers_below size))

  abbrev pub event_pair : ℕ → List Declared
  event_pair i = (whole (made seed size), u_decl i) ∷ (whole (made seed size), c_decl i) ∷ []

  pub made_events : events (made seed size) ≡ flat_map event_pair (numbers_below size)
  made_events = in_blocks (λ d. is_event d.1) event_pair block (λ i. refl)
    where
      block : (b : Bool) (i : ℕ) → filter (λ (d : Declared). is_event d.1) (declared_for b i) ≡ event_pair i
      block true i = refl
      block false i = refl

  abbrev pub own_input : ℕ → List Declared
  own_input i = (whole (made seed size), s_decl i) ∷ []

  pub made_inputs : inputs (made seed size) ≡ flat_map own_input (numbers_below size)
  made_inputs = in_blocks (λ d. is_input d.1) own_input block (λ i. refl)
    where
      block : (b : Bool) (i : ℕ) → filter (λ (d : Declared). is_input d.1) (declared_for b i) ≡ own_input i
      block true i = refl
      block false i = refl

  pub made_algs : algs (made seed size) ≡ []
  made_algs = in_blocks (λ d. is_alg d.1) (λ i. []) block (λ i. refl) ∙ none_each {B = Declared} (numbers_below size)
    where
      block : (b : Bool) (i : ℕ) → filter (λ (d : Declared). is_alg d.1) (declared_for b i) ≡ []
      block true i = refl
      block false i = refl

  pub made_variables : variables (made seed size) ≡ flat_map plant_declared (numbers_below size)
  made_variables =
      sorted (λ d. is_variable d.1)
      ∙ ap (λ u. u ++ flat_map plant_declared (numbers_below size))
      (flat_same (λ i. filter (λ (d : Declared). is_variable d.1) (block_declared i)) (λ i. []) (numbers_below size) (λ i. block (has_need seed size i) i) ∙ none_each {B = Declared} (numbers_below size))
    where
      block : (b : Bool) (i : ℕ) → filter (λ (d : Declared). is_variable d.1) (declared_for b i) ≡ []
      block true i = refl
      block false i = refl
