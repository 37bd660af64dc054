use Rattle.std.proofs.Common.{◌≡◌, map, drop, None, option_map}
use Rattle.cif_source.specs.Source.{use_tree}
use Rattle.cif_types_kinds.specs.Tables.{kind_for}
use Rattle.cif_types_kinds.specs.Readings.{component_in, lists_in}
use Rattle.cif_types_kinds.specs.Values.{received_from}
use Rattle.cif_types_kinds.proofs.reading.Reading.received_from.Given as goal

abbrev pub invariant-loop-event : goal.invariant-loop-event
invariant-loop-event l = received_from (component_in l.self) (option_map (kind_for (lists_in l.self)) l.kind) (map use_tree (drop l.event-index l.all)) ≡ received_from (component_in l.self) None (map use_tree l.all)
