use Rattle.plc_expr.proofs.Spelling.{statements-spelled}
use Rattle.plc_expr.proofs.laws.statements_before_a_text_have_a_spelling.Goals as goal

pub returns : goal.returns
returns c = statements-spelled
