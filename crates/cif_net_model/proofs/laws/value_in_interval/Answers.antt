use Rattle.cif_net_model.proofs.PlainLaws.{lies}
use Rattle.cif_net_model.proofs.laws.value_in_interval.Goals as goal

pub returns : goal.returns
returns c = lies
