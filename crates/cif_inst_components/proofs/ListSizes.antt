-- Counts that stop past the limit.
use Rattle.std.proofs.Common.{◌≡◌, ℕ, ◌+◌, List, [], ◌∷◌, ◌++◌, ap, arith}
use Rattle.std.proofs.lemmas.List.Sums.{sum-map, sum_by-cons}
use Rattle.cif_inst_components.specs.declared.components.Component.{Component}
use Rattle.cif_inst_components.specs.Sizes.{stop}
use Rattle.cif_inst_components.specs.Listing.{objects, all_objects}

pub objects-cons : (sizes : List ℕ) (c : Component) (cs : List Component) → all_objects sizes (c ∷ cs) ≡ objects sizes c + all_objects sizes cs
objects-cons sizes c cs = omega (arith, sum-map (objects sizes) (c ∷ cs), sum_by-cons (objects sizes) c cs, sum-map (objects sizes) cs)

pub objects-append : (sizes : List ℕ) (cs ds : List Component) → all_objects sizes (cs ++ ds) ≡ all_objects sizes cs + all_objects sizes ds
objects-append sizes [] ds = omega arith
objects-append sizes (c ∷ cs) ds =
    let ih : all_objects sizes (cs ++ ds) ≡ all_objects sizes cs + all_objects sizes ds = objects-append sizes cs ds in
    omega (arith, objects-cons sizes c (cs ++ ds), objects-cons sizes c cs)

pub stop-more : (sizes : List ℕ) (cs more : List Component) (c : Component) (size count next : ℕ) → count ≡ stop (all_objects sizes cs) → size + 1 ≡ objects sizes c → more ≡ cs ++ c ∷ []
    → next ≡ stop ((count + 1) + size) → next ≡ stop (all_objects sizes more)
stop-more sizes cs more c size count next h is e n = omega (arith, ap (all_objects sizes) e, objects-append sizes cs (c ∷ []))
