use Rattle.st_ast.specs.declared.tree.Stmt.TheFolds as folds
use Rattle.st_ast.specs.View.{view_stmt}
use Rattle.st_read.specs.Reading.{repetition_at, statements_at}
use Rattle.st_read.proofs.SeenLoops.{onto_read}
use Rattle.st_read.proofs.statements.Bodies.repetition.Goals as goal

pub returns : goal.returns
unfolding repetition_at
returns g c = onto_read view_stmt c.args.found.now c.push.new.self _ (repetition_at (statements_at c.args.self.now.depth) c.args.tokens) c.in_ok-_semicolon.rest c.in_ok-push.ensures.ok (rw (c.into_inner-cond.ensures, c.in_ok-_while.ensures, c.in_ok-cond.ensures, c.in_ok-_end.ensures, c.in_ok-_semicolon.ensures) (search (folds.the_lemmas)))
