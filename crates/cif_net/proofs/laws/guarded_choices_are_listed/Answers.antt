use Rattle.cif_net.proofs.Kept.{choices-listed}
use Rattle.cif_net.proofs.laws.guarded_choices_are_listed.Goals as goal

pub returns : goal.returns
returns c = choices-listed
