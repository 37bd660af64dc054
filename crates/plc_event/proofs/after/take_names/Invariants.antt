use Rattle.std.proofs.Common.{◌≡◌, ℕ, drop, if◌then◌else◌}
use Rattle.cif_net_model.specs.Facts.{has}
use Rattle.plc_expr.specs.Written.{name_at}
use Rattle.plc_event.proofs.after.take_names.Given as goal

-- what is taken over, and what is left, are all
abbrev pub invariant-loop-variable : goal.invariant-loop-variable
invariant-loop-variable l =
    (v : ℕ) → (if has (drop l.variable-index l.variables) v then name_at l.from v else name_at l.names v) ≡ (if has l.variables v then name_at l.from v else name_at l.fn.names v)
