use Rattle.std.proofs.Common.{◌≡◌, ◌++◌, map, drop}
use Rattle.cif_ast.specs.View.{view_items}
use Rattle.cif_source.specs.Source.{group_body, source_items}
use Rattle.cif_inst_parameters.specs.Passing.{instance_now, instances_inside}
use Rattle.cif_inst_parameters.proofs.instances.instances_of_items.Given as goal

abbrev pub invariant-loop-item : goal.invariant-loop-item
invariant-loop-item l = map instance_now l.found.items ++ instances_inside (group_body (source_items (view_items (drop l.item-index l.items)))) ≡ instances_inside (group_body (source_items (view_items l.items)))
