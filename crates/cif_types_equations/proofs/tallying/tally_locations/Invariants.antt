use Rattle.std.proofs.Common.{◌≡◌, map, drop}
use Rattle.cif_source.specs.Source.{location_tree}
use Rattle.cif_types_equations.specs.Tallies.{locations_tallied}
use Rattle.cif_types_equations.proofs.tallying.tally_locations.Given as goal

abbrev pub invariant-loop-place : goal.invariant-loop-place
invariant-loop-place l = locations_tallied l.tallies l.place (map location_tree (drop l.place l.locs)) ≡ locations_tallied l.fn.tallies 0 (map location_tree l.locs)
