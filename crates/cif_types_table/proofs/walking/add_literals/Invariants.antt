use Rattle.std.proofs.Common.{◌≡◌, ◌++◌, map, replicate}
use Rattle.cif_types_table.specs.Layouts.{slot_tree, literal_slot}
use Rattle.cif_types_table.proofs.walking.add_literals.Given as goal

abbrev pub invariant-loop-literal : goal.invariant-loop-literal
invariant-loop-literal l = map slot_tree l.slots ≡ map slot_tree l.fn.slots ++ replicate l._literal (literal_slot l.own)
