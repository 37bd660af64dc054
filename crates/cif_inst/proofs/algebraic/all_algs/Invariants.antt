use Rattle.std.proofs.Common.{◌≡◌, ◌++◌, map, drop}
use Rattle.cif_net.specs.View.{alg_tree}
use Rattle.cif_inst.specs.Algebraic.{rows_algs}
use Rattle.cif_inst.specs.Typing.{typed_source}
use Rattle.cif_inst_paths.specs.Views.{row_tree}
use Rattle.cif_inst.proofs.algebraic.all_algs.Given as goal

abbrev pub invariant-loop-place : goal.invariant-loop-place
invariant-loop-place l = map alg_tree l.all ++ rows_algs (typed_source l.typing) l.place (map row_tree (drop l.place l.rows)) ≡ rows_algs (typed_source l.typing) 0 (map row_tree l.rows)
