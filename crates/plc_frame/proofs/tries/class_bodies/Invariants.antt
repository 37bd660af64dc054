use Rattle.std.proofs.Common.{◌≡◌, map, drop, reverse}
use Rattle.cif_system.specs.System.{con, unc}
use Rattle.cif_net.specs.View.{event_tree}
use Rattle.st_ast.specs.Tree.{append}
use Rattle.st_ast.specs.View.{view_stmts}
use Rattle.plc_frame.specs.Tries.{class_bodies}
use Rattle.plc_frame.proofs.tries.class_bodies.Given as goal

-- what is done, and the statements of the events that are left, are all statements
abbrev pub invariant-loop-event : goal.invariant-loop-event
invariant-loop-event l = record {
  unc : append (view_stmts l.unc) (class_bodies unc (map event_tree (drop l.event-index l.event-items)) (map view_stmts (reverse l.bodies)))
      ≡ class_bodies unc (map event_tree l.event-items) (map view_stmts (reverse l.initial.bodies));
  con : append (view_stmts l.con) (class_bodies con (map event_tree (drop l.event-index l.event-items)) (map view_stmts (reverse l.bodies)))
      ≡ class_bodies con (map event_tree l.event-items) (map view_stmts (reverse l.initial.bodies));
}
