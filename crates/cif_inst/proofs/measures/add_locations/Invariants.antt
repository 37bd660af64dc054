use Rattle.std.proofs.Common.{◌≡◌, ◌++◌, map, flat_map, drop}
use Rattle.cif_source.specs.Source.{location_tree}
use Rattle.cif_inst_sizes.specs.Weights.{alg_by}
use Rattle.cif_inst.specs.Measures.{location_weights}
use Rattle.cif_inst.proofs.measures.add_locations.Given as goal

abbrev pub invariant-loop-loc : goal.invariant-loop-loc
invariant-loop-loc l = l.all ++ flat_map (location_weights (alg_by l.looking l.weights) l.looking l.component) (map location_tree (drop l.loc-index l.locs)) ≡ l.fn.all ++ flat_map (location_weights (alg_by l.looking l.weights) l.looking l.component) (map location_tree l.locs)
