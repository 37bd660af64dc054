use Rattle.std.proofs.Common.{◌≡◌, ◌++◌, map, drop}
use Rattle.cif_source.specs.Source.{param_tree}
use Rattle.cif_scope.specs.Drafts.{param_names}
use Rattle.cif_scope.proofs.drafting.param_names.Given as goal

abbrev pub invariant-loop-param : goal.invariant-loop-param
invariant-loop-param l = l.names ++ param_names (map param_tree (drop l.param-index l.params)) ≡ param_names (map param_tree l.params)
