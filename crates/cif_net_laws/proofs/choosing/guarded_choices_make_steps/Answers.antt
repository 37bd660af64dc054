use Rattle.cif_net_laws.proofs.Steps.{guarded-steps}
use Rattle.cif_net_laws.proofs.choosing.guarded_choices_make_steps.Goals as goal

pub returns : goal.returns
returns c = guarded-steps
