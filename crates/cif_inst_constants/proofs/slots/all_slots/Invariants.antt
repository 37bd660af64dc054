use Rattle.std.proofs.Common.{◌≡◌, ◌++◌, map, drop}
use Rattle.cif_scope.specs.Written.{body_of_written}
use Rattle.cif_inst_constants.specs.Slots.{row_of, written_slots}
use Rattle.cif_inst_constants.proofs.slots.all_slots.Given as goal

abbrev pub invariant-loop-one : goal.invariant-loop-one
invariant-loop-one l = map row_of l.all ++ map written_slots (map body_of_written (drop l.one-index l.written)) ≡ map written_slots (map body_of_written l.written)
