use Rattle.std.proofs.Common.{◌≡◌, ◌++◌, map, filter_map, drop}
use Rattle.cif_source.specs.Source.{edge_tree}
use Rattle.cif_source.specs.Uses.{edge_target}
use Rattle.cif_scope_uses.specs.Views.{own_name_of}
use Rattle.cif_scope_uses.proofs.own_names.add_targets.Given as goal

abbrev pub invariant-loop-edge : goal.invariant-loop-edge
invariant-loop-edge l = map own_name_of l.found.items ++ filter_map edge_target (map edge_tree (drop l.edge-index l.all)) ≡ map own_name_of l.fn.found.items ++ filter_map edge_target (map edge_tree l.all)
