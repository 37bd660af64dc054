use Rattle.std.proofs.Common.{◌≡◌, ◌++◌, map, flat_map, drop}
use Rattle.cif_inst_sizes.specs.Weights.{alg_by}
use Rattle.cif_inst_predicates.specs.Predicates.{stated_invariants}
use Rattle.cif_inst_predicates.specs.Views.{stated_tree}
use Rattle.cif_inst_predicates.specs.Weights.{invariant_weight}
use Rattle.cif_inst_predicates.proofs.weights.all_invariants.Given as goal

abbrev pub invariant-loop-one : goal.invariant-loop-one
invariant-loop-one l = l.all ++ map (invariant_weight (alg_by l.looking l.weights)) (flat_map (stated_invariants l.looking) (map stated_tree (drop l.one-index l.found))) ≡ map (invariant_weight (alg_by l.looking l.weights)) (flat_map (stated_invariants l.looking) (map stated_tree l.found))
