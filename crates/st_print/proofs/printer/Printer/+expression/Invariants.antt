use Rattle.std.proofs.Common.{◌≡◌, List, drop}
use Rattle.st_ast.specs.View.{view_exprs, view_factors, view_terms}
use Rattle.st_print.specs.Layout.{Mark, factors_marks, terms_marks, more_marks}
use Rattle.st_print.specs.Printing.{so_far}
use Rattle.st_print.proofs.printer.Printer.+expression.Given as goal

abbrev pub invariant-factors-loop-factor : goal.invariant-factors-loop-factor
invariant-factors-loop-factor l = (ms : List Mark) → so_far l.fn.self (factors_marks (view_factors l.factors) ms) ≡ so_far l.self (factors_marks (view_factors (drop l.factor-index l.factors)) ms)

abbrev pub invariant-terms-loop-term : goal.invariant-terms-loop-term
invariant-terms-loop-term l = (ms : List Mark) → so_far l.fn.self (terms_marks (view_terms l.terms) ms) ≡ so_far l.self (terms_marks (view_terms (drop l.term-index l.terms)) ms)

abbrev pub invariant-operands-loop-operand : goal.invariant-operands-loop-operand
invariant-operands-loop-operand l = (ms : List Mark) → so_far l.initial.self (more_marks l.operator (view_exprs l.further) ms) ≡ so_far l.self (more_marks l.operator (view_exprs (drop l.operand-index l.further)) ms)
