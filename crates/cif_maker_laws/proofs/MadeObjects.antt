-- A made source has at most ten objects for each number below its size, and one more.
use Rattle.std.proofs.Common.{◌≡◌, ℕ, ◌+◌, ◌*◌, ◌≤◌, ◌<◌, ◌^◌, Bool, true, false, List, [], ◌∷◌, ◌++◌, length, ap, arith}
use Rattle.std.specs.Prelude.{map, flat_map, sum}
use Rattle.std.specs.List.{sum_by}
use Rattle.std.proofs.lemmas.List.Sums.{sum-map, sum_by-cons, sum_by-append}
use Rattle.std.proofs.lemmas.List.FromFn.{length-range_with_len}
use Rattle.cif_source.specs.Components.{whole}
use Rattle.cif_source.specs.Objects.{components_of, decls_of, item_decls}
use Rattle.cif_source.specs.InstanceRules.{decl_objects, component_objects, object_count, TooManyObjectsDue}
use Rattle.cif_maker.specs.Draws.{has_need, numbers_below}
use Rattle.cif_maker_laws.specs.MadeTree.{block_items}
use Rattle.cif_maker_laws.proofs.Bodies.{made, plant_of, items_for, by_blocks}
use Rattle.cif_maker_laws.proofs.MadeComponents.{plants, made_components}

sum_at_most : {A : Type 0} (f : A → ℕ) (g : ℕ → List A) (k : ℕ) (is : List ℕ) → ((i : ℕ) → sum_by f (g i) ≤ k) → sum_by f (flat_map g is) ≤ k * length is
sum_at_most f g k [] h = omega arith
sum_at_most f g k (i ∷ is) h =
    let e : sum_by f (g i ++ flat_map g is) ≡ sum_by f (g i) + sum_by f (flat_map g is) = sum_by-append f (g i) (flat_map g is) in
    let here : sum_by f (g i) ≤ k = h i in
    let more : sum_by f (flat_map g is) ≤ k * length is = sum_at_most f g k is h in
    let product : k * length (i ∷ is) ≡ k + k * length is = grind arith in
    omega arith

module _ (seed size : ℕ) where
  block_objects : (b : Bool) (i : ℕ) → sum_by decl_objects (flat_map item_decls (items_for seed size b i)) ≤ 4
  block_objects true i = omega arith
  block_objects false i = omega arith

  whole_objects : component_objects (whole (made seed size)) ≤ 1 + 4 * size
  whole_objects =
      let ds = decls_of (whole (made seed size)) in
      let summed : sum (map decl_objects ds) ≡ sum_by decl_objects ds = sum-map decl_objects ds in
      let blocks : sum_by decl_objects ds ≡ sum_by decl_objects (flat_map (λ i. flat_map item_decls (block_items seed size i)) (numbers_below size)) = ap (sum_by decl_objects) (by_blocks seed size item_decls) in
      let few : sum_by decl_objects (flat_map (λ i. flat_map item_decls (block_items seed size i)) (numbers_below size)) ≤ 4 * length (numbers_below size) =
      sum_at_most decl_objects (λ i. flat_map item_decls (block_items seed size i)) 4 (numbers_below size) (λ i. block_objects (has_need seed size i) i) in
      let count : length (numbers_below size) ≡ size = length-range_with_len 0 size in
      omega arith

  plants_objects : sum_by component_objects (plants seed size (numbers_below size)) ≤ 6 * size
  plants_objects =
      let few : sum_by component_objects (plants seed size (numbers_below size)) ≤ 6 * length (numbers_below size) =
      sum_at_most component_objects (λ i. plant_of seed size i ∷ []) 6 (numbers_below size) (λ i. omega arith) in
      let count : length (numbers_below size) ≡ size = length-range_with_len 0 size in
      omega arith

  few_objects : object_count (made seed size) ≤ 1 + 10 * size
  few_objects =
      let cs = components_of (made seed size) in
      let summed : object_count (made seed size) ≡ sum_by component_objects cs = sum-map component_objects cs in
      let listed : sum_by component_objects cs ≡ sum_by component_objects (whole (made seed size) ∷ plants seed size (numbers_below size)) = ap (sum_by component_objects) (made_components seed size) in
      let split : sum_by component_objects (whole (made seed size) ∷ plants seed size (numbers_below size)) ≡ component_objects (whole (made seed size)) + sum_by component_objects (plants seed size (numbers_below size)) =
      sum_by-cons component_objects (whole (made seed size)) (plants seed size (numbers_below size)) in
      let a = whole_objects in
      let b = plants_objects in
      omega arith

  pub not_too_many : (count : ℕ) → size < 10 ^ 4 → TooManyObjectsDue (made seed size) count → ⊥
  not_too_many count l h = let few = few_objects in let past = h.0 in omega arith
