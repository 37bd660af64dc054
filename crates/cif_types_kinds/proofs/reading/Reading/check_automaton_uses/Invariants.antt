use Rattle.std.proofs.Common.{◌≡◌, map, drop}
use Rattle.cif_source.specs.Source.{location_tree}
use Rattle.cif_types_kinds.specs.Readings.{component_in}
use Rattle.cif_types_kinds.specs.Values.{first_told}
use Rattle.cif_types_kinds.specs.Uses.{location_unfit_told}
use Rattle.cif_types_kinds.proofs.reading.Reading.check_automaton_uses.Given as goal

abbrev pub invariant-loop-loc : goal.invariant-loop-loc
invariant-loop-loc l = first_told (location_unfit_told (component_in l.self)) (map location_tree (drop l.loc-index l.all)) ≡ first_told (location_unfit_told (component_in l.self)) (map location_tree l.all)
