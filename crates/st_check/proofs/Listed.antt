-- A list of placed expressions or statements, one after another, is the placed list.
use Rattle.std.proofs.Common.{◌≡◌, Bool, true, false, ◌&&◌, List, [], ◌∷◌, map, refl, ap, ◌∙◌}
use Rattle.st_ast.specs.declared.tree.StVar.{StVar}
use Rattle.st_ast.specs.declared.tree.StExpr.{StExpr}
use Rattle.st_ast.specs.declared.tree.StFactor.{StFactor}
use Rattle.st_ast.specs.declared.tree.StTerm.{StTerm}
use Rattle.st_ast.specs.declared.tree.Stmt.{Stmt}
use Rattle.st_ast.specs.declared.tree.StBranch.{StBranch}
use Rattle.st_ast.specs.View.{view_expr, view_exprs, view_factor, view_factors, view_term, view_terms, view_stmt, view_stmts, view_branch, view_branches}
use Rattle.st_check.specs.PlacedTree as to
use Rattle.st_check.specs.PlacedTree.{Operator, of_factor, of_term}
use Rattle.st_check.specs.PlacedView.{branches_of}
use Rattle.st_check.specs.Placing.{placed, placed_exprs, placed_factors, placed_terms, placed_stm, placed_stms, placed_branches}

abbrev pub operand_placed : List StVar → StExpr → to.Expr
operand_placed vars e = placed vars (view_expr e)

abbrev pub factor_placed : List StVar → StFactor → Operator × to.Expr
factor_placed vars f = (of_factor (view_factor f).0, placed vars (view_factor f).1)

abbrev pub term_placed : List StVar → StTerm → Operator × to.Expr
term_placed vars t = (of_term (view_term t).0, placed vars (view_term t).1)

abbrev pub stmt_placed : List StVar → Stmt → to.Stm
stmt_placed vars s = placed_stm vars (view_stmt s)

abbrev pub branch_placed : List StVar → StBranch → to.Expr × to.Stms
branch_placed vars b = (placed vars (view_branch b).0, placed_stms vars (view_branch b).1)

each-operand : (vars : List StVar) (op : Operator) (es : List StExpr) → to.same_steps op (map (operand_placed vars) es) ≡ placed_exprs vars op (view_exprs es)
each-operand vars op [] = refl
each-operand vars op (e ∷ es) = ap (to.steps op (placed vars (view_expr e))) (each-operand vars op es)

pub operands-placed : (vars : List StVar) (op : Operator) (es : List StExpr) (found : List to.Expr) → found ≡ map (operand_placed vars) es → to.same_steps op found ≡ placed_exprs vars op (view_exprs es)
operands-placed vars op es found is = ap (to.same_steps op) is ∙ each-operand vars op es

each-factor : (vars : List StVar) (fs : List StFactor) → to.steps_of (map (factor_placed vars) fs) ≡ placed_factors vars (view_factors fs)
each-factor vars [] = refl
each-factor vars (f ∷ fs) = ap (to.steps (of_factor (view_factor f).0) (placed vars (view_factor f).1)) (each-factor vars fs)

pub factors-placed : (vars : List StVar) (fs : List StFactor) (found : List (Operator × to.Expr)) → found ≡ map (factor_placed vars) fs → to.steps_of found ≡ placed_factors vars (view_factors fs)
factors-placed vars fs found is = ap to.steps_of is ∙ each-factor vars fs

each-term : (vars : List StVar) (ts : List StTerm) → to.steps_of (map (term_placed vars) ts) ≡ placed_terms vars (view_terms ts)
each-term vars [] = refl
each-term vars (t ∷ ts) = ap (to.steps (of_term (view_term t).0) (placed vars (view_term t).1)) (each-term vars ts)

pub terms-placed : (vars : List StVar) (ts : List StTerm) (found : List (Operator × to.Expr)) → found ≡ map (term_placed vars) ts → to.steps_of found ≡ placed_terms vars (view_terms ts)
terms-placed vars ts found is = ap to.steps_of is ∙ each-term vars ts

each-stmt : (vars : List StVar) (ss : List Stmt) → to.stms_of (map (stmt_placed vars) ss) ≡ placed_stms vars (view_stmts ss)
each-stmt vars [] = refl
each-stmt vars (s ∷ ss) = ap (to.stms (stmt_placed vars s)) (each-stmt vars ss)

pub stmts-placed : (vars : List StVar) (ss : List Stmt) (found : List to.Stm) → found ≡ map (stmt_placed vars) ss → to.stms_of found ≡ placed_stms vars (view_stmts ss)
stmts-placed vars ss found is = ap to.stms_of is ∙ each-stmt vars ss

each-branch : (vars : List StVar) (bs : List StBranch) → branches_of (map (branch_placed vars) bs) ≡ placed_branches vars (view_branches bs)
each-branch vars [] = refl
each-branch vars (b ∷ bs) = ap (to.branches (placed vars (view_branch b).0) (placed_stms vars (view_branch b).1)) (each-branch vars bs)

pub branches-placed : (vars : List StVar) (bs : List StBranch) (found : List (to.Expr × to.Stms)) → found ≡ map (branch_placed vars) bs → branches_of found ≡ placed_branches vars (view_branches bs)
branches-placed vars bs found is = ap branches_of is ∙ each-branch vars bs

-- one operand after another is as asked
pub and_later : (a b c : Bool) → ((a && b) && c) ≡ (a && (b && c))
and_later true b c = refl
and_later false b c = refl
