use Rattle.std.proofs.Common.{◌≡◌, ◌++◌, map, flat_map, drop}
use Rattle.cif_source.specs.Source.{location_tree}
use Rattle.cif_inst_automata.specs.Alphabets.{location_used}
use Rattle.cif_inst_automata.proofs.used.all_used.Given as goal

abbrev pub invariant-loop-loc : goal.invariant-loop-loc
invariant-loop-loc l = l.all ++ flat_map (location_used l.looking l.component) (map location_tree (drop l.loc-index l.locs)) ≡ flat_map (location_used l.looking l.component) (map location_tree l.locs)
