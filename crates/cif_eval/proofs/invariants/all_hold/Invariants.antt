use Rattle.std.proofs.Common.{◌≡◌, pos, drop, map}
use Rattle.cif_net.specs.View.{invariant_tree}
use Rattle.cif_value.specs.Settings.{told}
use Rattle.cif_eval.specs.Updates.{AreSafeInvariants, invariants_hold}
use Rattle.cif_eval.proofs.invariants.all_hold.Given as goal

abbrev pub invariant-loop-number : goal.invariant-loop-number
invariant-loop-number l = record {
  hold : invariants_hold (told l.state (pos 0)) (map invariant_tree l.invariants) (drop l.number-index l.numbers) ≡ invariants_hold (told l.state (pos 0)) (map invariant_tree l.invariants) l.numbers;
  safe : AreSafeInvariants (told l.state (pos 0)) (map invariant_tree l.invariants) (drop l.number-index l.numbers);
}
