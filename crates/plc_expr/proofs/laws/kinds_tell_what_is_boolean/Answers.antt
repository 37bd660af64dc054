use Rattle.plc_expr.proofs.Sorting.{bool-by}
use Rattle.plc_expr.proofs.laws.kinds_tell_what_is_boolean.Goals as goal

pub returns : goal.returns
returns c = bool-by
