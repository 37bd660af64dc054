use Rattle.plc_expr.proofs.There.{there}
use Rattle.plc_expr.proofs.laws.named_things_are_there.Goals as goal

pub returns : goal.returns
returns c = there
