use Rattle.plc_expr.proofs.Sorting.{types-length}
use Rattle.plc_expr.proofs.laws.own_variables_have_types.Goals as goal

pub returns : goal.returns
returns c = types-length
