use Rattle.std.proofs.Common.{Some, ap}
use Rattle.st_ast.specs.Tree.{Stm}
use Rattle.st_ast.specs.View.{view_stmt}
use Rattle.st_read.specs.Reading.{conditional_at, statements_at}
use Rattle.st_read.proofs.Conditionals.{view_if}
use Rattle.st_read.proofs.SeenLoops.{onto_read}
use Rattle.st_read.proofs.statements.Bodies.conditional.Goals as goal

pub returns : goal.returns
unfolding conditional_at
returns g c = onto_read view_stmt c.args.found.now c.push.new.self _ (conditional_at (statements_at c.args.self.now.depth) c.args.tokens) c.in_ok-_semicolon.rest c.in_ok-push.ensures.ok
    (rw (c.in_ok-_if.ensures, c.in_ok-branches.ensures, c.in_ok-other.ensures, c.in_ok-_end.ensures, c.in_ok-_semicolon.ensures)
    (ap (λ (s : Stm). Some (s, c.in_ok-_semicolon.rest)) (view_if c.in_ok-branches.branches c.in_ok-other.other)))
