use Rattle.plc_event_model.proofs.Whole.{events-tried}
use Rattle.plc_event_model.proofs.laws.events_are_tried.Goals as goal

pub returns : goal.returns
returns c = events-tried
