use Rattle.cif_net.specs.View.{state_tree}
use Rattle.cif_eval.specs.Working.{IsScratchOf}
use Rattle.cif_sim.specs.Tried.{NoneMakes}
use Rattle.cif_sim.proofs.tries.first_choice.Given as goal

abbrev pub invariant-loop-choice : goal.invariant-loop-choice
invariant-loop-choice l = record {
  none : NoneMakes l.guarded (state_tree l.state) l.from l.choice;
  scratch : IsScratchOf l.guarded l.scratch;
}
