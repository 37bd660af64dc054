use Rattle.std.proofs.Common.{◌≡◌, ◌-◌, map}
use Rattle.cif_source.specs.Source.{type_tree}
use Rattle.cif_inst_constants.specs.Slots.{row_of}
use Rattle.cif_inst_constants.specs.Walked.{walked}
use Rattle.cif_inst_constants.proofs.ranges.Types.walk.Given as goal

abbrev pub invariant-loop-turn : goal.invariant-loop-turn
invariant-loop-turn l = walked l.self.scopes.now l.self.constants.now.numbers l.self.constants.now.values (map row_of l.self.rows.now) l.turns l.fn.body (type_tree l.fn.ty) ≡ walked l.self.scopes.now l.self.constants.now.numbers l.self.constants.now.values (map row_of l.self.rows.now) (l.turns - l._turn) l.at (type_tree l.next)
