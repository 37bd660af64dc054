use Rattle.st_read.proofs.Whole.{one-program}
use Rattle.st_read.proofs.laws.one_program.Goals as goal

pub returns : goal.returns
returns c = one-program
