use Rattle.plc_expr.proofs.Values.{text-value}
use Rattle.plc_expr.proofs.laws.texts_have_the_value.Goals as goal

pub returns : goal.returns
returns c = λ vars w x m k e. text-value vars m w x k e
