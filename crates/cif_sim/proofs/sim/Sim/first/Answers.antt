use Rattle.std.proofs.Common.{◌≡◌, subst}
use Rattle.cif_eval.specs.Choices.{system_of}
use Rattle.cif_sim_model.specs.Runs.{first_event}
use Rattle.cif_sim.specs.Simulated.{Simulated}
use Rattle.cif_sim.proofs.sim.Sim.first.Goals as goal

pub returns-clause-first : goal.returns-clause-first
returns-clause-first c = subst (λ (x : Simulated). c.first.result ≡ first_event (system_of x.guarded) x.state) c.self.view_is c.first.ensures.first
