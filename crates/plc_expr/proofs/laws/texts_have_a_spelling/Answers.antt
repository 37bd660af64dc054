use Rattle.plc_expr.proofs.Spelling.{text-spelled}
use Rattle.plc_expr.proofs.laws.texts_have_a_spelling.Goals as goal

pub returns : goal.returns
returns c = text-spelled
