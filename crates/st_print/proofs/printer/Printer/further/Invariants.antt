use Rattle.std.proofs.Common.{◌≡◌, List, drop}
use Rattle.st_print.specs.Layout.{Mark, further_marks}
use Rattle.st_print.specs.Printing.{so_far}
use Rattle.st_print.proofs.printer.Printer.further.Given as goal

abbrev pub invariant-loop-variable : goal.invariant-loop-variable
invariant-loop-variable l = (ms : List Mark) → so_far l.fn.self (further_marks l.fn.class l.variables ms) ≡ so_far l.self (further_marks l.open (drop l.variable-index l.variables) ms)
