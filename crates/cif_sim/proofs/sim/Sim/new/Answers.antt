use Rattle.std.proofs.Common.{◌∙◌, ap, length, subst, sym}
use Rattle.cif_system.specs.System.{IsState}
use Rattle.cif_net.specs.View.{net_tree, state_tree}
use Rattle.cif_net.specs.declared.guarded.Guarded.{Guarded}
use Rattle.cif_net_model.proofs.First.{first-state}
use Rattle.cif_eval.specs.Choices.{system_of}
use Rattle.cif_eval.proofs.Facts.{net-of-plain}
use Rattle.cif_sim.specs.Watched.{IsWatched}
use Rattle.cif_sim.proofs.Watching.{all-watched}
use Rattle.cif_sim.proofs.sim.Sim.new.Goals as goal

pub invariant_of-result : goal.invariant_of-result
invariant_of-result c =
    subst (λ (g : Guarded). IsWatched g (state_tree c.in_ok-state.state) c.in_ok-readers.readers c.in_ok-marks.marks) (sym c.in_ok-stepper.ensures)
    (subst (IsWatched c.args.guarded.now (state_tree c.in_ok-state.state) c.in_ok-readers.readers) (sym c.in_ok-marks.ensures)
    (all-watched c.args.guarded.now (state_tree c.in_ok-state.state) c.in_ok-readers.readers c.events-events.result
    (subst (IsState (system_of c.args.guarded.now)) (sym c.in_ok-state.ensures)
    (first-state (net_tree c.args.guarded.now.plain.net) (net-of-plain (net_tree c.args.guarded.now.plain.net) c.args.guarded.now.plain.plain)))
    c.in_ok-readers.ensures
    (c.events-events.ensures ∙ ap (λ (g : Guarded). length g.plain.net.events) c.in_ok-stepper.ensures)))
