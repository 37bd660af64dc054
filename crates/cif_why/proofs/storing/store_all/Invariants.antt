use Rattle.std.proofs.Common.{◌≡◌, drop, map}
use Rattle.cif_system.specs.Step.{new_values}
use Rattle.cif_why.specs.Restoring.{pair_in}
use Rattle.cif_why.proofs.storing.store_all.Given as goal

abbrev pub invariant-loop-k : goal.invariant-loop-k
invariant-loop-k l = l.values ≡ new_values (map pair_in (drop l.k l.assigned)) 0 l.initial.values
