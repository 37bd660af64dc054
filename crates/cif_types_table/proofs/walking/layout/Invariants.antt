use Rattle.std.proofs.Common.{◌≡◌, ◌++◌, map, drop, length}
use Rattle.cif_scope.specs.Written.{body_of_written}
use Rattle.cif_types_table.specs.Layouts.{slot_tree, named_tree, all_types, all_slots}
use Rattle.cif_types_table.proofs.walking.layout.Given as goal

abbrev pub invariant-loop-body : goal.invariant-loop-body
invariant-loop-body l = record {
  types : map named_tree l.types.items ++ all_types l.body (map body_of_written (drop l.body l.written)) ≡ all_types 0 (map body_of_written l.written);
  slots : map (map slot_tree) l.slots ++ all_slots (length l.types.items) (map body_of_written (drop l.body l.written)) ≡ all_slots 0 (map body_of_written l.written);
}
