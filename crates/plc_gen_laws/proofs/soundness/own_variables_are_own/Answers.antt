use Rattle.plc_gen_laws.proofs.OwnNames.{own-are-own}
use Rattle.plc_gen_laws.proofs.soundness.own_variables_are_own.Goals as goal

pub returns : goal.returns
returns c = own-are-own
