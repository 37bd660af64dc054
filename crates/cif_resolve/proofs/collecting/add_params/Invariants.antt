use Rattle.std.proofs.Common.{◌≡◌, ◌++◌, map, flat_map, drop}
use Rattle.cif_source.specs.Source.{param_tree}
use Rattle.cif_source.specs.Uses.{param_uses}
use Rattle.cif_scope_uses.specs.Views.{use_of}
use Rattle.cif_resolve.proofs.collecting.add_params.Given as goal

abbrev pub invariant-loop-param : goal.invariant-loop-param
invariant-loop-param l = map use_of l.found.items ++ flat_map param_uses (map param_tree (drop l.param-index l.params)) ≡ map use_of l.fn.found.items ++ flat_map param_uses (map param_tree l.params)
