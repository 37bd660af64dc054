-- What a conditional stands for, by its branches and what stands after ELSE.
use Rattle.std.proofs.Common.{◌≡◌, List, map, Option, Some, None}
use Rattle.std.specs.Prelude.{option_map}
use Rattle.st_ast.specs.Tree.{choice}
use Rattle.st_ast.specs.View.{view_stmt, view_branch, branches_of, other_of}
use Rattle.st_ast.specs.declared.tree.Stmt.{Stmt}
use Rattle.st_ast.specs.declared.tree.Stmt.TheVariants.{If}
use Rattle.st_ast.specs.declared.tree.Stmt.TheFolds as folds
use Rattle.st_ast.specs.declared.tree.StBranch.{StBranch}

pub view_if : (bs : List StBranch) (o : Option (List Stmt)) → choice (branches_of (map view_branch bs)) (other_of (option_map (map view_stmt) o)) ≡ view_stmt (If bs o)
view_if bs None = search (folds.the_lemmas)
view_if bs (Some ss) = search (folds.the_lemmas)
