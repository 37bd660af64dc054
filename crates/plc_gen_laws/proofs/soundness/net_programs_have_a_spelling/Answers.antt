use Rattle.plc_gen_laws.proofs.Whole.{program-spelled}
use Rattle.plc_gen_laws.proofs.soundness.net_programs_have_a_spelling.Goals as goal

pub returns : goal.returns
returns c = program-spelled
