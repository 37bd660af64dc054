use Rattle.plc_model.proofs.DoorRefusals.{idle-scan, idle-scan_unturned, idle-legal}
use Rattle.plc_model.proofs.refusals.idle_loops_are_refused.Goals as goal

pub returns-clause-turned : goal.returns-clause-turned
returns-clause-turned c = idle-scan

pub returns-clause-unturned : goal.returns-clause-unturned
returns-clause-unturned c = idle-scan_unturned

pub returns-clause-legal : goal.returns-clause-legal
returns-clause-legal c = idle-legal
