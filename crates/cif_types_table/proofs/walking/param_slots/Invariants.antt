use Rattle.std.proofs.Common.{◌≡◌, ◌++◌, map, drop}
use Rattle.cif_source.specs.Source.{param_tree}
use Rattle.cif_types_table.specs.Layouts.{slot_tree, param_slot}
use Rattle.cif_types_table.proofs.walking.param_slots.Given as goal

abbrev pub invariant-loop-param : goal.invariant-loop-param
invariant-loop-param l = map slot_tree l.slots ++ map param_slot (map param_tree (drop l.param-index l.params)) ≡ map param_slot (map param_tree l.params)
