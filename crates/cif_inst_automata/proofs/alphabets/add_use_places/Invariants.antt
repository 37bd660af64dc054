use Rattle.std.proofs.Common.{◌≡◌, ◌++◌, map, flat_map, drop}
use Rattle.cif_source.specs.Source.{use_tree}
use Rattle.cif_inst_automata.specs.Alphabets.{use_place}
use Rattle.cif_inst_automata.proofs.alphabets.add_use_places.Given as goal

abbrev pub invariant-loop-event_use : goal.invariant-loop-event_use
invariant-loop-event_use l = l.places ++ flat_map use_place (map use_tree (drop l.event_use-index l.uses)) ≡ l.fn.places ++ flat_map use_place (map use_tree l.uses)
