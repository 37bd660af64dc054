use Rattle.plc_event_model.proofs.Final.{safe-parts-tried}
use Rattle.plc_event_model.proofs.laws.event_parts_are_tried.Goals as goal

pub returns : goal.returns
returns c = safe-parts-tried
