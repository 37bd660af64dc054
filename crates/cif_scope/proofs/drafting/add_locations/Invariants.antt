use Rattle.std.proofs.Common.{◌≡◌, ◌++◌, map, drop}
use Rattle.cif_source.specs.Source.{location_tree}
use Rattle.cif_scope.specs.Drafts.{location_names}
use Rattle.cif_scope.proofs.drafting.add_locations.Given as goal

abbrev pub invariant-loop-place : goal.invariant-loop-place
invariant-loop-place l = l.names ++ location_names l.place (map location_tree (drop l.place l.locs)) ≡ l.fn.names ++ location_names 0 (map location_tree l.locs)
