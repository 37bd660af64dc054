use Rattle.cif_system.proofs.ChoiceLaws.{choices-listed}
use Rattle.cif_system.proofs.laws.every_choice_is_listed.Goals as goal

pub returns : goal.returns
returns c = choices-listed
