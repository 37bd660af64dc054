use Rattle.plc_model.proofs.DoorRefusals.{hidden-interface, ajar-starts}
use Rattle.plc_model.proofs.refusals.wrong_declarations_are_refused.Goals as goal

pub returns-clause-outputs : goal.returns-clause-outputs
returns-clause-outputs c = hidden-interface

pub returns-clause-start : goal.returns-clause-start
returns-clause-start c = ajar-starts
