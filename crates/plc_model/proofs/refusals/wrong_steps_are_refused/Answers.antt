use Rattle.plc_model.proofs.DoorRefusals.{misled-scan, misled-first}
use Rattle.plc_model.proofs.refusals.wrong_steps_are_refused.Goals as goal

pub returns-clause-scan : goal.returns-clause-scan
returns-clause-scan c = misled-scan

pub returns-clause-first_steps : goal.returns-clause-first_steps
returns-clause-first_steps c = misled-first
