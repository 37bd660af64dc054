use Rattle.std.proofs.Common.{◌≡◌, subst}
use Rattle.cif_net.specs.Parts.{class_of}
use Rattle.cif_eval.specs.Choices.{system_of}
use Rattle.cif_sim_model.specs.Runs.{first_event_of}
use Rattle.cif_sim.specs.Simulated.{Simulated}
use Rattle.cif_sim.proofs.sim.Sim.first_of.Goals as goal

pub returns-clause-first : goal.returns-clause-first
returns-clause-first c = subst (λ (x : Simulated). c.first_of.result ≡ first_event_of (system_of x.guarded) (class_of c.args.class) x.state) c.self.view_is c.first_of.ensures.first
