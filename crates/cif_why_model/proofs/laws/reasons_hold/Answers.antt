use Rattle.cif_why_model.proofs.Holding.{reasons-hold}
use Rattle.cif_why_model.proofs.laws.reasons_hold.Goals as goal

pub returns : goal.returns
returns c = reasons-hold
