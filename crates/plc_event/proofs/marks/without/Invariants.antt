use Rattle.std.proofs.Common.{◌≡◌, ◌++◌, drop, filter, not}
use Rattle.cif_net_model.specs.Facts.{has}
use Rattle.plc_event.proofs.marks.without.Given as goal

-- what is found, and what is left, are all
abbrev pub invariant-loop-variable : goal.invariant-loop-variable
invariant-loop-variable l =
    l.found ++ filter (λ v. not (has l.others v)) (drop l.variable-index l.variables) ≡ filter (λ v. not (has l.others v)) l.variables
