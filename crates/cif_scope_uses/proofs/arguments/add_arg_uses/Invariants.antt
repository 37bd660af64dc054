use Rattle.std.proofs.Common.{◌≡◌, ◌++◌, map, drop}
use Rattle.cif_ast.specs.View.{view}
use Rattle.cif_source.specs.Source.{param_tree}
use Rattle.cif_source.specs.Uses.{args_uses}
use Rattle.cif_scope_uses.specs.Views.{use_of}
use Rattle.cif_scope_uses.proofs.arguments.add_arg_uses.Given as goal

abbrev pub invariant-loop-arg : goal.invariant-loop-arg
invariant-loop-arg l = map use_of l.found.items ++ args_uses (map view (drop l.arg-index l.args)) (map param_tree l.further) ≡ map use_of l.fn.found.items ++ args_uses (map view l.args) (map param_tree l.fn.params)
