use Rattle.cif_tool.proofs.TakenLaws.{taken}
use Rattle.cif_tool.proofs.laws.replay_takes_what_generate_writes.Goals as goal

pub returns : goal.returns
returns c = taken
