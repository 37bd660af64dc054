use Rattle.std.proofs.Common.{◌≡◌, IfOk, ap, subst}
use Rattle.st_ast.specs.Tree.{choice}
use Rattle.st_ast.specs.View.{view_branches, view_stmt}
use Rattle.plc_event.proofs.Others.{otherwise-made}
use Rattle.plc_event.proofs.selecting.selection.Goals as goal

pub returns : goal.returns
returns c =
    subst (λ y. IfOk c.with_other.result (λ s. view_stmt s ≡ y)) (ap (choice (view_branches c.args.branches)) (otherwise-made c.args.other c.is_empty.result c.is_empty.ensures c.if-is_empty.false))
    c.with_other.ensures
