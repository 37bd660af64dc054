use Rattle.std.proofs.Common.{◌≡◌, ◌++◌, map, flat_map, drop}
use Rattle.cif_source.specs.Source.{edge_tree}
use Rattle.cif_source.specs.BodyRules.{lists_of}
use Rattle.cif_types_targets.specs.Views.{list_of}
use Rattle.cif_types_targets.proofs.listing.add_edges.Given as goal

abbrev pub invariant-loop-edge : goal.invariant-loop-edge
invariant-loop-edge l = map list_of l.found.items ++ flat_map lists_of (map edge_tree (drop l.edge-index l.all)) ≡ map list_of l.fn.found.items ++ flat_map lists_of (map edge_tree l.all)
