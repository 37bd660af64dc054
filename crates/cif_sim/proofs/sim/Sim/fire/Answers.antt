use Rattle.std.proofs.Common.{◌≡◌, ◌∙◌, None, Some, ap, subst, sym}
use Rattle.std.specs.Prelude.{slice_get}
use Rattle.cif_system.specs.Choices.{first_step}
use Rattle.cif_net.specs.View.{state_tree}
use Rattle.cif_net.specs.declared.guarded.Guarded.{Guarded}
use Rattle.cif_eval.specs.Choices.{system_of}
use Rattle.cif_sim.specs.Simulated.{Simulated}
use Rattle.cif_sim.specs.Tried.{Fires}
use Rattle.cif_sim.specs.Watched.{IsWatched}
use Rattle.cif_sim.proofs.Watching.{fired-watched}
use Rattle.cif_sim.proofs.sim.Sim.fire.Goals as goal

pub returns-in_default-clause-none : goal.returns-in_default-clause-none
returns-in_default-clause-none c = subst (λ (x : Simulated). first_step (system_of x.guarded) x.state c.args.event ≡ None) c.self.view_is c.in_default.ensures.none

pub invariant_of-self-2 : goal.invariant_of-self-2
invariant_of-self-2 c =
    subst (λ (g : Guarded). IsWatched g (state_tree c.fire.new.state) c.self.inside.readers c.wake_after.new.marks) (sym c.in-Some.ensures.net)
    (fired-watched c.self.inside.stepper (state_tree c.self.inside.state) (state_tree c.fire.new.state) c.args.event c.in-Some.choice c.self.inside.readers c.self.inside.marks c.wake_after.new.marks c.self.invariant
    c.in-Some.ensures.state c.in-Some.ensures.choice
    (λ choice at. c.wake_after.ensures choice (ap (λ (g : Guarded). slice_get g.choices c.in-Some.choice) (c.guarded-guarded.ensures ∙ c.in-Some.ensures.net) ∙ at)))

pub returns-clause-fired : goal.returns-clause-fired
returns-clause-fired c = subst (λ (x : Simulated). first_step (system_of x.guarded) x.state c.args.event ≡ Some (state_tree c.fire.new.state)) c.self.view_is c.in-Some.ensures.fired

pub returns-clause-choice : goal.returns-clause-choice
returns-clause-choice c = subst (λ (x : Simulated). Fires x.guarded x.state c.args.event c.in-Some.choice (state_tree c.fire.new.state)) c.self.view_is c.in-Some.ensures.choice
