use Rattle.cif_why_model.proofs.Telling.{all-told}
use Rattle.cif_why_model.proofs.laws.all_that_hold_are_told.Goals as goal

pub returns : goal.returns
returns c = all-told
