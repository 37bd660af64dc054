use Rattle.plc_expr.proofs.Running.{prepares}
use Rattle.plc_expr.proofs.laws.statements_before_a_text_prepare_it.Goals as goal

pub returns : goal.returns
returns c = prepares
