use Rattle.std.proofs.Common.{◌≡◌, ◌++◌, map, drop}
use Rattle.cif_inst_paths.specs.Views.{row_tree}
use Rattle.cif_inst_sizes.specs.Weights.{alg_by}
use Rattle.cif_inst.specs.Measures.{predicate_weights, rows_weights}
use Rattle.cif_inst.proofs.measures.all_measures.Given as goal

abbrev pub invariant-loop-place : goal.invariant-loop-place
invariant-loop-place l = l.all ++ rows_weights (alg_by l.looking l.weights) l.looking l.place (map row_tree (drop l.place l.rows)) ≡ predicate_weights l.predicates ++ rows_weights (alg_by l.looking l.weights) l.looking 0 (map row_tree l.rows)
