use Rattle.plc_gen_laws.proofs.Whole.{program-checked}
use Rattle.plc_gen_laws.proofs.soundness.net_programs_are_checked.Goals as goal

pub returns : goal.returns
returns c = program-checked
