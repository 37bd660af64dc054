use Rattle.cif_net_laws.proofs.Steps.{linear-steps}
use Rattle.cif_net_laws.proofs.choosing.linear_choices_make_steps.Goals as goal

pub returns : goal.returns
returns c = linear-steps
