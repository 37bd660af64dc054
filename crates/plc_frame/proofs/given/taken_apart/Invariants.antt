use Rattle.std.proofs.Common.{◌≡◌, map}
use Rattle.st_ast.specs.View.{view_stmts}
use Rattle.plc_frame.specs.Given.{body_of, own_variables, part_tree}
use Rattle.plc_frame.proofs.given.taken_apart.Given as goal

abbrev pub invariant-loop-part : goal.invariant-loop-part
invariant-loop-part l = record {
  own : l.own ≡ own_variables (map part_tree l.yielded);
  bodies : map view_stmts l.bodies ≡ map body_of (map part_tree l.yielded);
}
