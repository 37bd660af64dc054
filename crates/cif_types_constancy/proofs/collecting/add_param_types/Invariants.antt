use Rattle.std.proofs.Common.{◌≡◌, ◌++◌, map, flat_map, drop}
use Rattle.cif_source.specs.Source.{param_tree}
use Rattle.cif_source.specs.Constants.{param_types}
use Rattle.cif_types_constancy.specs.Collected.{type_of}
use Rattle.cif_types_constancy.proofs.collecting.add_param_types.Given as goal

abbrev pub invariant-loop-param : goal.invariant-loop-param
invariant-loop-param l = map type_of l.found.items ++ flat_map param_types (map param_tree (drop l.param-index l.params)) ≡ map type_of l.fn.found.items ++ flat_map param_types (map param_tree l.params)
