use Rattle.std.proofs.Common.{◌≡◌, ◌++◌}
use Rattle.cif_inst_constants.specs.Slots.{row_of, nones}
use Rattle.cif_inst_constants.proofs.slots.add_none.Given as goal

abbrev pub invariant-loop-name : goal.invariant-loop-name
invariant-loop-name l = row_of l.row ≡ row_of l.fn.row ++ nones l._name
