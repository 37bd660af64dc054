use Rattle.std.proofs.Common.{◌≡◌, ◌+◌, drop}
use Rattle.st_ast.specs.Checks.{stms_count, branches_count}
use Rattle.st_ast.specs.View.{view_stmts, view_branches}
use Rattle.lib_cases.proofs.counting.+count.Given as goal

abbrev pub invariant-count-loop-stmt : goal.invariant-count-loop-stmt
invariant-count-loop-stmt l = l.so_far + stms_count (view_stmts (drop l.stmt-index l.body)) ≡ l.others + stms_count (view_stmts l.body)

abbrev pub invariant-count_branches-loop-branch : goal.invariant-count_branches-loop-branch
invariant-count_branches-loop-branch l =
    l.so_far + branches_count (view_branches (drop l.branch-index l.branches)) ≡ l.others + branches_count (view_branches l.branches)
