use Rattle.std.proofs.Common.{map, length}
use Rattle.cif_ast.specs.View.{view}
use Rattle.cif_source.specs.Source.{param_tree}
use Rattle.cif_inst_parameters.specs.Following.{AreFollowed}
use Rattle.cif_inst_parameters.proofs.following.Follower.arguments.Given as goal

abbrev pub invariant-loop-param : goal.invariant-loop-param
invariant-loop-param l = AreFollowed l.self l.giver (map param_tree l.params) (map view l.values) (length l.yielded) l.found.items
