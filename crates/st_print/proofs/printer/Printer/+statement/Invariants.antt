use Rattle.std.proofs.Common.{◌≡◌, List, drop, codes}
use Rattle.st_ast.specs.View.{view_stmts, view_branches}
use Rattle.st_print.specs.Layout.{Mark, stms_marks, branches_marks}
use Rattle.st_print.specs.Printing.{so_far}
use Rattle.st_print.proofs.printer.Printer.+statement.Given as goal

abbrev pub invariant-statements-loop-statement : goal.invariant-statements-loop-statement
invariant-statements-loop-statement l =
    (ms : List Mark) → so_far l.fn.self (stms_marks l.depth (view_stmts l.statements) ms) ≡ so_far l.self (stms_marks l.depth (view_stmts (drop l.statement-index l.statements)) ms)

abbrev pub invariant-branches-loop-branch : goal.invariant-branches-loop-branch
invariant-branches-loop-branch l =
    (ms : List Mark) → so_far l.fn.self (branches_marks (codes "IF") l.depth (view_branches l.branches) ms)
    ≡ so_far l.self (branches_marks l.keyword l.depth (view_branches (drop l.branch-index l.branches)) ms)
