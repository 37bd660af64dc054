use Rattle.plc_model.proofs.DoorRefusals.{hasty-scan, hasty-legal}
use Rattle.plc_model.proofs.refusals.controllable_events_first_are_refused.Goals as goal

pub returns-clause-scan : goal.returns-clause-scan
returns-clause-scan c = hasty-scan

pub returns-clause-legal : goal.returns-clause-legal
returns-clause-legal c = hasty-legal
