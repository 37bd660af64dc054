use Rattle.cif_system.proofs.CountLaws.{choices-length}
use Rattle.cif_system.proofs.laws.choices_are_counted.Goals as goal

pub returns : goal.returns
returns c = choices-length
