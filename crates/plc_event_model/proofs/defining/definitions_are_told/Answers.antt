use Rattle.plc_event_model.proofs.Defined.{all-defined}
use Rattle.plc_event_model.proofs.defining.definitions_are_told.Goals as goal

pub returns : goal.returns
returns c = all-defined
