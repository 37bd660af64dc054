use Rattle.std.proofs.Common.{◌≡◌, ◌-◌, length}
use Rattle.cif_scope.specs.Looks.{look_out}
use Rattle.cif_scope.proofs.table.Table.outward.Given as goal

abbrev pub invariant-loop-turn : goal.invariant-loop-turn
invariant-loop-turn l = look_out l.self (length l.self.scopes) l.fn.body l.text ≡ look_out l.self (length l.self.scopes - l._turn) l.at l.text
