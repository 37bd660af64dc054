use Rattle.plc_expr_walk.proofs.Alike.{same-before}
use Rattle.plc_expr_walk.proofs.laws.statements_before_a_text_follow_the_names.Goals as goal

pub returns : goal.returns
returns c = λ w v k e h. same-before w v h.1 k e h.0
