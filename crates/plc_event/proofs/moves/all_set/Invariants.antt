use Rattle.std.proofs.Common.{◌≡◌, drop}
use Rattle.st_ast.specs.Tree.{append}
use Rattle.st_ast.specs.View.{view_stmts}
use Rattle.plc_event.specs.Making as m
use Rattle.plc_event.proofs.moves.all_set.Given as goal

abbrev pub invariant-loop-name : goal.invariant-loop-name
invariant-loop-name l = append (view_stmts l.all) (m.all_set (drop l.name-index l.names)) ≡ m.all_set l.names
