use Rattle.plc_model.proofs.DoorRefusals.{turned-scan, unturned-scan}
use Rattle.plc_model.proofs.DoorScans.{door-program, door-scans}
use Rattle.plc_model.proofs.refusals.right_program_keeps_all_promises.Goals as goal

pub returns-clause-program : goal.returns-clause-program
returns-clause-program c = door-program

pub returns-clause-scans : goal.returns-clause-scans
returns-clause-scans c = door-scans.0

pub returns-clause-outputs : goal.returns-clause-outputs
returns-clause-outputs c = door-scans.1

pub returns-clause-types : goal.returns-clause-types
returns-clause-types c = door-scans.2

pub returns-clause-turned : goal.returns-clause-turned
returns-clause-turned c = turned-scan

pub returns-clause-unturned : goal.returns-clause-unturned
returns-clause-unturned c = unturned-scan
