use Rattle.std.proofs.Common.{◌≡◌, ◌+◌, ◌++◌, ◌&&◌, map, drop}
use Rattle.st_ast.specs.Checks.{stms_count, branches_count, stms_faults, branches_faults, boolean_conditions}
use Rattle.st_ast.specs.View.{view_stmts, view_branches}
use Rattle.st_check.specs.PlacedView.{stmt_view, branch_view}
use Rattle.st_check.proofs.Listed.{stmt_placed, branch_placed}
use Rattle.st_check.proofs.statements.+body.Given as goal

abbrev pub invariant-check_body-loop-stmt : goal.invariant-check_body-loop-stmt
invariant-check_body-loop-stmt l = record {
  count : l.next + stms_count (view_stmts (drop l.stmt-index l.body)) ≡ l.first + stms_count (view_stmts l.body);
  faults : stms_faults l.scope l.next (view_stmts (drop l.stmt-index l.body)) ≡ stms_faults l.scope l.first (view_stmts l.body);
  placed : map stmt_view l.found.items ++ map (stmt_placed l.scope) (drop l.stmt-index l.body) ≡ map (stmt_placed l.scope) l.body;
}

abbrev pub invariant-check_branches-loop-branch : goal.invariant-check_branches-loop-branch
invariant-check_branches-loop-branch l = record {
  count : l.next + branches_count (view_branches (drop l.branch-index l.branches)) ≡ l.first + branches_count (view_branches l.branches);
  faults : branches_faults l.scope l.next (view_branches (drop l.branch-index l.branches)) ≡ branches_faults l.scope l.first (view_branches l.branches);
  placed : map branch_view l.found.items ++ map (branch_placed l.scope) (drop l.branch-index l.branches) ≡ map (branch_placed l.scope) l.branches;
  sorted : (l.booleans && boolean_conditions l.scope (view_branches (drop l.branch-index l.branches))) ≡ boolean_conditions l.scope (view_branches l.branches);
}
