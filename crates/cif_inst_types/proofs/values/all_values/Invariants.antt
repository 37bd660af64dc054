use Rattle.std.proofs.Common.{◌≡◌, ◌++◌, map, drop}
use Rattle.cif_inst_constants.specs.Slots.{row_of}
use Rattle.cif_inst_types.specs.Values.{values_from}
use Rattle.cif_inst_types.proofs.values.all_values.Given as goal

abbrev pub invariant-loop-body : goal.invariant-loop-body
invariant-loop-body l = l.all ++ values_from l.types l.turns l.body (map row_of (drop l.body l.types.rows.now)) ≡ values_from l.types l.turns 0 (map row_of l.types.rows.now)
