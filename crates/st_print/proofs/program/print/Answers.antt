use Rattle.st_ast.specs.View.{view}
use Rattle.st_print.proofs.PrintedPrograms.{read_again}
use Rattle.st_print.proofs.program.print.Goals as goal

pub returns-clause-read_again : goal.returns-clause-read_again
returns-clause-read_again c = read_again (λ t. t.items) (view c.args.program.now) c.args.program.now.spelled c.laid_out.result c.laid_out.ensures
