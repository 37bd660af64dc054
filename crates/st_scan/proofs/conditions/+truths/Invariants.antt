use Rattle.std.proofs.Common.{◌≡◌, drop}
use Rattle.st_scan.specs.PlacedTruths.{all_at, any_at}
use Rattle.st_check.specs.PlacedView.{tests_view}
use Rattle.st_scan.proofs.conditions.+truths.Given as goal

abbrev pub invariant-all_hold-loop-test : goal.invariant-all_hold-loop-test
invariant-all_hold-loop-test l = all_at (tests_view (drop l.test-index l.tests)) l.memory ≡ all_at (tests_view l.tests) l.memory

abbrev pub invariant-any_holds-loop-test : goal.invariant-any_holds-loop-test
invariant-any_holds-loop-test l = any_at (tests_view (drop l.test-index l.tests)) l.memory ≡ any_at (tests_view l.tests) l.memory
