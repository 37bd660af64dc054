use Rattle.cif_why_model.proofs.Agreeing.{some-agrees}
use Rattle.cif_why_model.proofs.laws.some_choice_agrees.Goals as goal

pub returns : goal.returns
returns c = some-agrees
