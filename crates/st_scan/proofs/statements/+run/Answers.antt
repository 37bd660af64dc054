use Rattle.std.proofs.Common.{◌≡◌, suc, true, ap, sym, ◌∙◌, arith}
use Rattle.std.specs.Prelude.{Ok}
use Rattle.st_ast.specs.Exec.{and_then, repeated}
use Rattle.st_scan.specs.Endings.{outcome_of}
use Rattle.st_scan.specs.PlacedValues.{value_at, decided}
use Rattle.st_scan.specs.PlacedExec.{exec_at}
use Rattle.st_check.specs.PlacedView.{cond_view, stmts_view}
use Rattle.st_scan.proofs.Loop.{loop-turn, loop-stopped}
use Rattle.st_scan.proofs.statements.+run.Goals as goal

pub repeat-returns-in_err-left-clause-is : goal.repeat-returns-in_err-left-clause-is
repeat-returns-in_err-left-clause-is t c =
    let goes : decided (value_at (cond_view c.args.cond.now) c.turns.memory) ≡ Ok true = sym c.in-Some.ensures ∙ ap Ok c.if-not-truth.false in
    sym c.turns.invariant.rest
    ∙ loop-stopped _ (stmts_view c.args.body.now) c.turns.left c.turns.memory c.run.new.memory c.run.new.why goes (omega arith) c.in_err-left.ensures.is
    ∙ ap (λ r. outcome_of r c.run.new.why c.run.new.memory) (sym c.from_residual.ensures)

pub repeat-turns-preserved : goal.repeat-turns-preserved
repeat-turns-preserved t c =
    let goes : decided (value_at (cond_view c.args.cond.now) c.turns.memory) ≡ Ok true = sym c.in-Some.ensures ∙ ap Ok c.if-not-truth.false in
    let cond = value_at (cond_view c.args.cond.now) in
    let body = stmts_view c.args.body.now in
    record {
      less = omega (arith, c.in_ok-left.ensures.less, c.turns.invariant.less);
      rest =
          sym (loop-turn cond body c.turns.left c.turns.memory goes (omega arith)
          ∙ ap (λ o. and_then o (λ l k. repeated (suc l) cond (λ i j. exec_at body i j) l k)) c.in_ok-left.ensures.is)
          ∙ c.turns.invariant.rest;
    }
