use Rattle.cif_system.proofs.StateLaws.{step-state}
use Rattle.cif_system.proofs.laws.step_keeps_states.Goals as goal

pub returns : goal.returns
returns c = step-state
