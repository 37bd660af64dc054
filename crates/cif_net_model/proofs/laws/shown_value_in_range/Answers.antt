use Rattle.cif_net_model.proofs.TargetLaws.{target-lies}
use Rattle.cif_net_model.proofs.laws.shown_value_in_range.Goals as goal

pub returns : goal.returns
returns c = target-lies
