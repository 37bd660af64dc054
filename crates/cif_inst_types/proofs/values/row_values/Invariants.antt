use Rattle.std.proofs.Common.{◌≡◌, ◌++◌, map, drop}
use Rattle.cif_inst_constants.specs.Slots.{row_of}
use Rattle.cif_inst_types.specs.Values.{slot_value}
use Rattle.cif_inst_types.proofs.values.row_values.Given as goal

abbrev pub invariant-loop-decl : goal.invariant-loop-decl
invariant-loop-decl l = l.all ++ map (slot_value l.types l.turns l.body) (row_of (drop l.decl-index l.row)) ≡ map (slot_value l.types l.turns l.body) (row_of l.row)
