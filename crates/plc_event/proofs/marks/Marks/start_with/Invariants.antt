use Rattle.std.proofs.Common.{◌≡◌, ◌||◌, ℕ, drop}
use Rattle.cif_net_model.specs.Facts.{has}
use Rattle.plc_event.specs.Marked.{is_marked}
use Rattle.plc_event.proofs.marks.Marks.start_with.Given as goal

-- what is marked, and what is left, are all
abbrev pub invariant-loop-variable : goal.invariant-loop-variable
invariant-loop-variable l = (v : ℕ) → (is_marked l.self.round l.self.last v || has (drop l.variable-index l.variables) v) ≡ has l.variables v
