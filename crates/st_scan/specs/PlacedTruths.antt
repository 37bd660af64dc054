-- Helper of the code: whether tests of variables hold, which have a truth in every memory.
use Rattle.std.specs.Prelude.{pos, Bool, true, false, not, ◌&&◌, ◌||◌, slice_index_or}
use Rattle.st_ast.specs.Values.{Memory, is_true, differ}
use Rattle.st_check.specs.PlacedTests.{Test, Tests, compare, flag, contrary, all_of, any_of, no_tests, tests}
use Rattle.st_scan.specs.PlacedValues.{related}

abbrev mutual
  pub truth_at : Test → Memory → Bool
  truth_at (compare r holds turned k z) m = differ turned (related r holds (slice_index_or m k (pos 0)) z)
  truth_at (flag turned k) m = differ turned (is_true (slice_index_or m k (pos 0)))
  truth_at (contrary t) m = not (truth_at t m)
  truth_at (all_of ts) m = all_at ts m
  truth_at (any_of ts) m = any_at ts m

  pub all_at : Tests → Memory → Bool
  all_at no_tests m = true
  all_at (tests t ts) m = truth_at t m && all_at ts m

  pub any_at : Tests → Memory → Bool
  any_at no_tests m = false
  any_at (tests t ts) m = truth_at t m || any_at ts m
