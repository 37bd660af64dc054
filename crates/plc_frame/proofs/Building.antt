-- Lists of statements that are built at their ends, as the plain data of a tree.
use Rattle.std.proofs.Common.{◌≡◌, List, [], ◌∷◌, ◌++◌, refl, ap}
use Rattle.st_ast.specs.Tree.{Stms, no_stms, stms, append}
use Rattle.st_ast.specs.View.{view_stmts, view_stmt}
use Rattle.st_ast.specs.declared.tree.Stmt.{Stmt}

-- two lists of statements one after the other are so as plain data
pub view_append : (a b : List Stmt) → view_stmts (a ++ b) ≡ append (view_stmts a) (view_stmts b)
view_append [] b = refl
view_append (s ∷ a) b = ap (stms (view_stmt s)) (view_append a b)

-- in whatever order three lists are put together
pub append-assoc : (a b c : Stms) → append (append a b) c ≡ append a (append b c)
append-assoc no_stms b c = refl
append-assoc (stms s a) b c = ap (stms s) (append-assoc a b c)

-- no statement adds nothing
pub append-none : (a : Stms) → append a no_stms ≡ a
append-none no_stms = refl
append-none (stms s a) = ap (stms s) (append-none a)

-- the lemmas for lists of statements
pub ruleset statements = (view_append, append-assoc, append-none)
