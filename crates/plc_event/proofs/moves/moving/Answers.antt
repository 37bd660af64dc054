use Rattle.std.proofs.Common.{List, map, ap, ap₂, ◌∙◌}
use Rattle.cif_net.specs.View.{move_tree, net_tree}
use Rattle.st_ast.specs.Tree.{append}
use Rattle.st_ast.specs.View.{view_stmts}
use Rattle.st_ast.specs.declared.tree.Stmt.{Stmt}
use Rattle.plc_frame.proofs.TryLaws.{moves_append}
use Rattle.plc_expr_walk.proofs.Joining.{view_append}
use Rattle.plc_event.specs.Making.{all_set}
use Rattle.plc_event.proofs.moves.moving.Goals as goal

pub returns : goal.returns
returns c =
    ap (λ (ss : List Stmt). view_stmts ss) c.in_ok-append.ensures
    ∙ view_append c.in_ok-all.all c.in_ok-all_set.field-0
    ∙ ap₂ append c.in_ok-all.ensures c.in_ok-all_set.ensures
    ∙ moves_append (net_tree c.args.net.now) (map move_tree c.args.steps.now) (all_set c.args.marks.now)
