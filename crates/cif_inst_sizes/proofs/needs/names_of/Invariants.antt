use Rattle.std.proofs.Common.{◌≡◌, ◌++◌, map, drop}
use Rattle.std.specs.Prelude.{flat_map}
use Rattle.cif_inst_sizes.specs.Definitions.{value_tree, value_names}
use Rattle.cif_inst_sizes.specs.Needs.{use_name}
use Rattle.cif_inst_sizes.proofs.needs.names_of.Given as goal

abbrev pub invariant-loop-value : goal.invariant-loop-value
invariant-loop-value l = map use_name l.all.items ++ flat_map value_names (map value_tree (drop l.value-index l.definition.values.items)) ≡ flat_map value_names (map value_tree l.definition.values.items)
