use Rattle.std.proofs.Common.{arith}
use Rattle.st_check.proofs.ListedPlaces.{finished}
use Rattle.st_check.proofs.Listed.{stmts-placed, branches-placed}
use Rattle.st_check.proofs.statements.+body.Goals as goal

pub check_body-returns-clause-placed : goal.check_body-returns-clause-placed
check_body-returns-clause-placed t c =
    stmts-placed _ _ _ (finished _ _ c.loop-stmt.found.items c.args.body.now c.loop-stmt.stmt-index (omega arith) c.loop-stmt.invariant.placed)

pub check_branches-returns-clause-placed : goal.check_branches-returns-clause-placed
check_branches-returns-clause-placed t c =
    branches-placed _ _ _ (finished _ _ c.loop-branch.found.items c.args.branches.now c.loop-branch.branch-index (omega arith) c.loop-branch.invariant.placed)
