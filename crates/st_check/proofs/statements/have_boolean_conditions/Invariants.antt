use Rattle.std.proofs.Common.{◌≡◌, drop}
use Rattle.st_ast.specs.Checks as checks
use Rattle.st_ast.specs.View.{view_branches}
use Rattle.st_check.proofs.statements.have_boolean_conditions.Given as goal

abbrev pub invariant-loop-branch : goal.invariant-loop-branch
invariant-loop-branch l =
    checks.boolean_conditions l.scope (view_branches (drop l.branch-index l.branches)) ≡ checks.boolean_conditions l.scope (view_branches l.branches)
