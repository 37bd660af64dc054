use Rattle.plc_expr.proofs.Checking.{before-checked}
use Rattle.plc_expr.proofs.laws.statements_before_a_text_break_no_check.Goals as goal

pub returns : goal.returns
returns c = before-checked
