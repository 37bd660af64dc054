use Rattle.std.proofs.Common.{◌≡◌, ◌++◌, map, flat_map, drop}
use Rattle.cif_inst_sizes.specs.Weights.{alg_by}
use Rattle.cif_inst_predicates.specs.Predicates.{stated_exclusions}
use Rattle.cif_inst_predicates.specs.Views.{stated_tree}
use Rattle.cif_inst_predicates.specs.Weights.{excluded_of}
use Rattle.cif_inst_predicates.proofs.weights.all_exclusions.Given as goal

abbrev pub invariant-loop-one : goal.invariant-loop-one
invariant-loop-one l = l.all ++ map (excluded_of (alg_by l.looking l.weights)) (flat_map (stated_exclusions l.looking) (map stated_tree (drop l.one-index l.found))) ≡ map (excluded_of (alg_by l.looking l.weights)) (flat_map (stated_exclusions l.looking) (map stated_tree l.found))
