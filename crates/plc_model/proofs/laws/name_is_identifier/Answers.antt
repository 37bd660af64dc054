use Rattle.plc_model.proofs.NameLaws.{name-identifier}
use Rattle.plc_model.proofs.laws.name_is_identifier.Goals as goal

pub returns : goal.returns
returns c = name-identifier
