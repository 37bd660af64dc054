use Rattle.std.proofs.Common.{◌≡◌, drop}
use Rattle.cif_system.specs.Step.{new_values}
use Rattle.cif_eval.proofs.storing.store_all.Given as goal

abbrev pub invariant-loop-k : goal.invariant-loop-k
invariant-loop-k l = l.values ≡ new_values (drop l.k l.pairs) 0 l.initial.values
