use Rattle.cif_system.proofs.DistinctLaws.{choices-distinct}
use Rattle.cif_system.proofs.laws.each_choice_is_listed_once.Goals as goal

pub returns : goal.returns
returns c = choices-distinct
