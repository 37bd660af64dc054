use Rattle.plc_model.proofs.DoorRefusals.{stale-scan, stale-outputs}
use Rattle.plc_model.proofs.refusals.stale_outputs_are_refused.Goals as goal

pub returns-clause-scan : goal.returns-clause-scan
returns-clause-scan c = stale-scan

pub returns-clause-outputs : goal.returns-clause-outputs
returns-clause-outputs c = stale-outputs
