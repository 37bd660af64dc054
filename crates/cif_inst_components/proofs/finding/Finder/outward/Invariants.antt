use Rattle.std.proofs.Common.{◌≡◌, ◌-◌, length}
use Rattle.cif_inst_components.specs.Finding.{finder, look_out}
use Rattle.cif_inst_components.proofs.finding.Finder.outward.Given as goal

abbrev pub invariant-loop-turn : goal.invariant-loop-turn
invariant-loop-turn l = look_out (finder l.self) (length l.self.scopes.now.table.scopes) l.fn.component l.text ≡ look_out (finder l.self) (length l.self.scopes.now.table.scopes - l._turn) l.at l.text
