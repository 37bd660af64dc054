use Rattle.std.proofs.Common.{subst}
use Rattle.cif_system.specs.System.{IsState}
use Rattle.cif_net.specs.View.{state_tree}
use Rattle.cif_net.specs.declared.guarded.Guarded.{Guarded}
use Rattle.cif_eval.specs.Choices.{system_of}
use Rattle.cif_sim.proofs.Watching.{set-watched}
use Rattle.cif_sim.proofs.sim.Sim.set.Goals as goal

pub invariant_of-self : goal.invariant_of-self
invariant_of-self c =
    set-watched c.self.inside.stepper (state_tree c.self.inside.state) (state_tree c.put.new.state) c.self.inside.readers c.self.inside.marks c.wake_at.new.marks c.args.input _ c.self.invariant
    (subst (λ (g : Guarded). IsState (system_of g) (state_tree c.put.new.state)) c.guarded-guarded.ensures c.put.ensures.state) c.put.ensures.input c.wake_at.ensures
