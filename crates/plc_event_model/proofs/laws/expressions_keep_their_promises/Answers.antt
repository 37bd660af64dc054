use Rattle.plc_event_model.proofs.Promised.{promised}
use Rattle.plc_event_model.proofs.laws.expressions_keep_their_promises.Goals as goal

pub returns : goal.returns
returns c = promised
