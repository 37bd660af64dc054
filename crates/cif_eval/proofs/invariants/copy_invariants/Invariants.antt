use Rattle.std.proofs.Common.{◌≡◌, drop, map}
use Rattle.cif_net.specs.View.{state_tree, invariant_tree}
use Rattle.cif_eval.specs.Copies.{copied_invariants}
use Rattle.cif_eval.proofs.invariants.copy_invariants.Given as goal

abbrev pub invariant-loop-number : goal.invariant-loop-number
invariant-loop-number l =
    copied_invariants (map invariant_tree l.invariants) (drop l.number-index l.numbers) (state_tree l.from) (state_tree l.to) ≡ copied_invariants (map invariant_tree l.invariants) l.numbers (state_tree l.from) (state_tree l.initial.to)
