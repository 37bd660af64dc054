use Rattle.plc_gen_laws.proofs.FitLaws.{fitted-makes}
use Rattle.plc_gen_laws.proofs.framing.net_programs_make.Goals as goal

pub returns : goal.returns
returns c = fitted-makes
