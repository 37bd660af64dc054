use Rattle.plc_model.proofs.DoorRefusals.{unlatched-scan, unlatched-exact, unlatched-legal, unlatched-first}
use Rattle.plc_model.proofs.refusals.missing_latch_is_refused.Goals as goal

pub returns-clause-scan : goal.returns-clause-scan
returns-clause-scan c = unlatched-scan

pub returns-clause-exact : goal.returns-clause-exact
returns-clause-exact c = unlatched-exact

pub returns-clause-legal : goal.returns-clause-legal
returns-clause-legal c = unlatched-legal

pub returns-clause-first_steps : goal.returns-clause-first_steps
returns-clause-first_steps c = unlatched-first
