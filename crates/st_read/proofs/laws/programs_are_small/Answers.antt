use Rattle.st_read.proofs.Programs.{program_small}
use Rattle.st_read.proofs.laws.programs_are_small.Goals as goal

pub returns : goal.returns
returns c = program_small
