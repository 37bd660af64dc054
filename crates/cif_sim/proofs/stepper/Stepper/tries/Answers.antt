use Rattle.std.proofs.Common.{◌≡◌, ◌∙◌, arith, false, sym}
use Rattle.cif_net.specs.View.{state_tree}
use Rattle.cif_sim.proofs.Watching.{asleep}
use Rattle.cif_sim.proofs.stepper.Stepper.tries.Goals as goal

pub returns-then-not-has_step-clause-idle : goal.returns-then-not-has_step-clause-idle
returns-then-not-has_step-clause-idle c =
    let none : c.has_step-has_step.result ≡ false = grind (arith, c.if-not-has_step.true) in
    asleep c.args.self.now (state_tree c.args.state.now) c.args.marks.now c.sleep.new.self c.args.event c.requires.idle (sym c.has_step-has_step.ensures.step ∙ none) c.sleep.ensures
