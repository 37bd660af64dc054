use Rattle.std.proofs.Common.{◌≡◌, ◌++◌, map, drop}
use Rattle.cif_source.specs.Source.{location_tree}
use Rattle.cif_inst_model.specs.Flat.{location_name}
use Rattle.cif_inst_automata.proofs.autos.location_names.Given as goal

abbrev pub invariant-loop-loc : goal.invariant-loop-loc
invariant-loop-loc l = l.names ++ map location_name (map location_tree (drop l.loc-index l.locs)) ≡ map location_name (map location_tree l.locs)
