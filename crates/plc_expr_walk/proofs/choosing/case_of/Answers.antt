use Rattle.std.proofs.Common.{◌≡◌, List, IfOk, subst}
use Rattle.st_ast.specs.Tree.{choice, other}
use Rattle.st_ast.specs.View.{view_branches, view_expr, view_stmt, view_stmts}
use Rattle.st_ast.specs.declared.tree.StBranch.{StBranch}
use Rattle.plc_expr_walk.proofs.Joining.{case-made}
use Rattle.plc_expr_walk.proofs.choosing.case_of.Goals as goal

pub returns : goal.returns
returns c =
    let made : IfOk c.selection.result (λ s. view_stmt s ≡ choice (view_branches c.args.branches) (other (view_stmts c.in_ok-setting_alone.field-0))) =
    subst (λ (bs : List StBranch). IfOk c.selection.result (λ s. view_stmt s ≡ choice (view_branches bs) (other (view_stmts c.in_ok-setting_alone.field-0)))) c.branches.view_is c.selection.ensures in
    subst (λ y. IfOk c.selection.result (λ s. view_stmt s ≡ y))
    (case-made c.args.branches c.is_empty.result c.args.name.now (view_expr c.args.value) (view_stmts c.in_ok-setting_alone.field-0) c.is_empty.ensures c.if-is_empty.false c.in_ok-setting_alone.ensures) made
