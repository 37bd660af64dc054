use Rattle.std.proofs.Common.{◌≡◌, ◌++◌, map, flat_map, drop}
use Rattle.cif_source.specs.Source.{location_tree}
use Rattle.cif_inst_automata.specs.Alphabets.{location_places}
use Rattle.cif_inst_automata.proofs.alphabets.use_places.Given as goal

abbrev pub invariant-loop-loc : goal.invariant-loop-loc
invariant-loop-loc l = l.places ++ flat_map location_places (map location_tree (drop l.loc-index l.locs)) ≡ flat_map location_places (map location_tree l.locs)
