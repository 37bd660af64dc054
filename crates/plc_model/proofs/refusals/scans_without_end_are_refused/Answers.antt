use Rattle.plc_model.proofs.DoorRefusals.{astray-faults, endless-faults}
use Rattle.plc_model.proofs.refusals.scans_without_end_are_refused.Goals as goal

pub returns-clause-faults : goal.returns-clause-faults
returns-clause-faults c = astray-faults

pub returns-clause-turns : goal.returns-clause-turns
returns-clause-turns c = endless-faults
