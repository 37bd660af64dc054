use Rattle.std.proofs.Common.{◌≡◌, map, drop}
use Rattle.cif_source.specs.Source.{use_tree}
use Rattle.cif_types_kinds.specs.Readings.{component_in}
use Rattle.cif_types_kinds.specs.Values.{first_told}
use Rattle.cif_types_kinds.specs.Uses.{unfit_told}
use Rattle.cif_types_kinds.proofs.reading.Reading.check_edge_uses.Given as goal

abbrev pub invariant-loop-event : goal.invariant-loop-event
invariant-loop-event l = first_told (unfit_told (component_in l.self)) (map use_tree (drop l.event-index l.all)) ≡ first_told (unfit_told (component_in l.self)) (map use_tree l.all)
