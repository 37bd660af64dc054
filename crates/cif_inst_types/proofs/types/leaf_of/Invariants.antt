use Rattle.std.proofs.Common.{◌≡◌, ◌-◌}
use Rattle.cif_source.specs.Source.{type_tree}
use Rattle.cif_inst_types.specs.Leaves.{type_in}
use Rattle.cif_inst_types.proofs.types.leaf_of.Given as goal

abbrev pub invariant-loop-turn : goal.invariant-loop-turn
invariant-loop-turn l = type_in l.types l.turns l.fn.body (type_tree l.fn.ty) ≡ type_in l.types (l.turns - l._turn) l.at (type_tree l.next)
