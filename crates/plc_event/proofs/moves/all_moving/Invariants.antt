use Rattle.std.proofs.Common.{◌≡◌, map, drop}
use Rattle.cif_net.specs.View.{net_tree, move_tree}
use Rattle.st_ast.specs.Tree.{append, no_stms}
use Rattle.st_ast.specs.View.{view_stmts}
use Rattle.plc_frame.specs.Events.{moves_text}
use Rattle.plc_event.proofs.moves.all_moving.Given as goal

-- what is done, and the moves that are left, are all moves
abbrev pub invariant-loop-step : goal.invariant-loop-step
invariant-loop-step l =
    append (view_stmts l.all) (moves_text (net_tree l.net) (map move_tree (drop l.step-index l.steps)) no_stms) ≡ moves_text (net_tree l.net) (map move_tree l.steps) no_stms
