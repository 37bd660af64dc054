use Rattle.plc_model.proofs.DoorRefusals.{forgetful-scan, forgetful-scans, forgetful-first}
use Rattle.plc_model.proofs.refusals.lost_states_are_refused.Goals as goal

pub returns-clause-scan : goal.returns-clause-scan
returns-clause-scan c = forgetful-scan

pub returns-clause-scans : goal.returns-clause-scans
returns-clause-scans c = forgetful-scans

pub returns-clause-first_steps : goal.returns-clause-first_steps
returns-clause-first_steps c = forgetful-first
