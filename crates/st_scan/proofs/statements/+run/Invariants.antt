use Rattle.std.proofs.Common.{◌≡◌, ◌≤◌, suc, drop}
use Rattle.st_ast.specs.Exec.{Act, repeated}
use Rattle.st_scan.specs.PlacedValues.{value_at}
use Rattle.st_scan.specs.PlacedExec.{exec_at, exec_choice_at}
use Rattle.st_check.specs.PlacedView.{cond_view, stmts_view, branches_view}
use Rattle.st_scan.proofs.statements.+run.Given as goal

abbrev pub invariant-run-loop-stmt : goal.invariant-run-loop-stmt
invariant-run-loop-stmt l = record {
  less : l.left ≤ l.turns;
  rest : exec_at (stmts_view (drop l.stmt-index l.body)) l.left l.memory ≡ exec_at (stmts_view l.body) l.turns l.initial.memory;
}

abbrev pub invariant-choose-loop-branch : goal.invariant-choose-loop-branch
invariant-choose-loop-branch l =
    (last : Act) → exec_choice_at (branches_view (drop l.branch-index l.branches)) last l.turns l.memory ≡ exec_choice_at (branches_view l.branches) last l.turns l.initial.memory

abbrev pub invariant-repeat-turns : goal.invariant-repeat-turns
invariant-repeat-turns l = record {
  less : l.left ≤ l.turns;
  rest : repeated (suc l.left) (value_at (cond_view l.cond)) (λ i j. exec_at (stmts_view l.body) i j) l.left l.memory
      ≡ repeated (suc l.turns) (value_at (cond_view l.cond)) (λ i j. exec_at (stmts_view l.body) i j) l.turns l.initial.memory;
}

abbrev pub decreases-repeat-turns : goal.decreases-repeat-turns
decreases-repeat-turns l = l.left
