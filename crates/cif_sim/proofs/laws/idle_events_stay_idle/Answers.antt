use Rattle.cif_sim.proofs.Idle.{stays-idle}
use Rattle.cif_sim.proofs.laws.idle_events_stay_idle.Goals as goal

pub returns : goal.returns
returns c = λ g s t e of_s of_t inside names kept none. stays-idle g s t e of_s of_t inside names kept none
