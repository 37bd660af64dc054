use Rattle.st_read.proofs.RefusalLaws.{refused_derives_none}
use Rattle.st_read.proofs.laws.no_program_where_refused.Goals as goal

pub returns : goal.returns
returns c = refused_derives_none
