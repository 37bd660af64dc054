use Rattle.std.proofs.Common.{◌≡◌, List, [], ◌∷◌, ap, ◌∙◌}
use Rattle.st_ast.specs.Tree.{no_stms, stms}
use Rattle.st_ast.specs.View.{view_branches, view_stmt, view_stmts}
use Rattle.st_ast.specs.declared.tree.Stmt.{Stmt}
use Rattle.plc_event_model.specs.Writes.{chosen}
use Rattle.plc_event.proofs.Others.{chosen-made, if-map}
use Rattle.plc_event.proofs.selecting.chosen.Goals as goal

pub returns : goal.returns
returns c =
    if-map c.only.result (λ ss. ss ≡ c.into_inner.result ∷ []) (λ ss. view_stmts ss ≡ chosen (view_branches c.args.branches) (view_stmts c.args.other))
    (λ ss is.
    ap (λ (ts : List Stmt). view_stmts ts) is
    ∙ ap (λ y. stms y no_stms) (ap view_stmt c.into_inner.ensures ∙ c.in_ok-selection.ensures)
    ∙ chosen-made c.args.branches c.is_empty.result (view_stmts c.args.other) c.is_empty.ensures c.if-is_empty.false)
    c.only.ensures
