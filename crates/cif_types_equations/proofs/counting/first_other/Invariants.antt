use Rattle.std.proofs.Common.{◌≡◌, map, drop}
use Rattle.cif_source.specs.Source.{location_tree}
use Rattle.cif_types_equations.specs.Counts.{first_other}
use Rattle.cif_types_equations.proofs.counting.first_other.Given as goal

abbrev pub invariant-loop-loc : goal.invariant-loop-loc
invariant-loop-loc l = first_other l.own l.name (map location_tree l.locs) ≡ first_other l.own l.name (map location_tree (drop l.loc-index l.locs))
