use Rattle.std.proofs.Common.{◌≡◌, drop}
use Rattle.st_ast.specs.Checks as checks
use Rattle.st_ast.specs.View.{view_branches}
use Rattle.st_check.proofs.statements.knows_conditions.Given as goal

abbrev pub invariant-loop-branch : goal.invariant-loop-branch
invariant-loop-branch l =
    checks.knows_conditions l.scope (view_branches (drop l.branch-index l.branches)) ≡ checks.knows_conditions l.scope (view_branches l.branches)
