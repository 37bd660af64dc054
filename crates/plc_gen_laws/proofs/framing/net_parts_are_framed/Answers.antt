use Rattle.plc_gen_laws.proofs.FitLaws.{fit}
use Rattle.plc_gen_laws.proofs.framing.net_parts_are_framed.Goals as goal

pub returns : goal.returns
returns c = fit
