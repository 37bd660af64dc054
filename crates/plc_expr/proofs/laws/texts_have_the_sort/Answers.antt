use Rattle.plc_expr.proofs.Checking.{text-sorted}
use Rattle.plc_expr.proofs.laws.texts_have_the_sort.Goals as goal

pub returns : goal.returns
returns c = text-sorted
