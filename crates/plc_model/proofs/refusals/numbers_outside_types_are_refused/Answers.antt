use Rattle.plc_model.proofs.DoorRefusals.{untyped-scan, untyped-leaves}
use Rattle.plc_model.proofs.refusals.numbers_outside_types_are_refused.Goals as goal

pub returns-clause-scan : goal.returns-clause-scan
returns-clause-scan c = untyped-scan

pub returns-clause-types : goal.returns-clause-types
returns-clause-types c = untyped-leaves
