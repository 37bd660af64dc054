use Rattle.plc_model.proofs.NameLaws.{names-differ}
use Rattle.plc_model.proofs.laws.names_differ.Goals as goal

pub returns : goal.returns
returns c = names-differ
