use Rattle.std.proofs.Common.{◌≡◌, ◌++◌, map, drop}
use Rattle.cif_scope.specs.Written.{body_of_written}
use Rattle.cif_inst_components.specs.Sizes.{written_size}
use Rattle.cif_inst_components.proofs.sizes.all_sizes.Given as goal

abbrev pub invariant-loop-one : goal.invariant-loop-one
invariant-loop-one l = l.all ++ map written_size (map body_of_written (drop l.one-index l.written)) ≡ map written_size (map body_of_written l.written)
