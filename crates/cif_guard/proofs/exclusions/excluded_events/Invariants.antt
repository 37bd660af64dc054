use Rattle.std.proofs.Common.{◌≡◌, ◌++◌, map, drop}
use Rattle.cif_net.specs.View.{exclusion_tree}
use Rattle.cif_guard.specs.Tests.{exclusion_events}
use Rattle.cif_guard.proofs.exclusions.excluded_events.Given as goal

abbrev pub invariant-loop-exclusion : goal.invariant-loop-exclusion
invariant-loop-exclusion l =
    exclusion_events (map exclusion_tree l.exclusions) ≡ l.all ++ exclusion_events (map exclusion_tree (drop l.exclusion-index l.exclusions))
