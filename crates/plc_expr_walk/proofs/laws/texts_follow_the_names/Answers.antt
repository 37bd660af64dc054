use Rattle.plc_expr_walk.proofs.Alike.{same-text}
use Rattle.plc_expr_walk.proofs.laws.texts_follow_the_names.Goals as goal

pub returns : goal.returns
returns c = λ w v k e h. same-text w v h.1 k e h.0
