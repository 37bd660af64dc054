use Rattle.cif_net_laws.proofs.Steps.{choices-are}
use Rattle.cif_net_laws.proofs.choosing.guarded_choices_are_those_of_the_net.Goals as goal

pub returns : goal.returns
returns c = choices-are
