-- What tree of plain data the parts of a program stand for. Each step sees one level, with its parts seen. What a program
-- keeps stands on these, so no function here names its type.
use Rattle.std.specs.Prelude.{Bool, List, [], ◌∷◌, map, Option, Some, None}
use Rattle.grammar.specs.Pieces.{Text}
use Rattle.st_ast.specs.Tree.{Expr, Exprs, Factors, Terms, truth, number, named, paren, negation, complement, product, sum, order, equal, all_of, odd_of, any_of, absolute, least, greatest, selection, exprs_of, no_factors, factors, no_terms, terms, Stm, Stms, Branches, Other, assign, choice, loop, stms_of, no_branches, branches, no_other, other}
use Rattle.st_ast.specs.Tree as tree
use Rattle.st_ast.specs.declared.tree.StExpr.{StExpr}
use Rattle.st_ast.specs.declared.tree.StExpr.TheOpen.{StExpr-F, StFactor-F, StTerm-F}
use Rattle.st_ast.specs.declared.tree.StExpr.TheOpen as E
use Rattle.st_ast.specs.declared.tree.StExpr.TheFolds.{fold-StExpr, fold-StFactor, fold-StTerm}
use Rattle.st_ast.specs.declared.tree.StFactor.{StFactor}
use Rattle.st_ast.specs.declared.tree.StMul.{StMul}
use Rattle.st_ast.specs.declared.tree.StTerm.{StTerm}
use Rattle.st_ast.specs.declared.tree.Stmt.{Stmt}
use Rattle.st_ast.specs.declared.tree.Stmt.TheOpen.{Stmt-F, StBranch-F}
use Rattle.st_ast.specs.declared.tree.Stmt.TheOpen as S
use Rattle.st_ast.specs.declared.tree.Stmt.TheFolds.{fold-Stmt, fold-StBranch}
use Rattle.st_ast.specs.declared.tree.StBranch.{StBranch}
use Rattle.st_ast.specs.declared.tree.StVar.{StVar}

abbrev pub terms_of : List (Bool × Expr) → Terms
terms_of [] = no_terms
terms_of (t ∷ ts) = terms t.0 t.1 (terms_of ts)

abbrev pub factors_of : List (StMul × Expr) → Factors
factors_of [] = no_factors
factors_of (f ∷ fs) = factors f.0 f.1 (factors_of fs)

abbrev pub expr_step : StExpr-F Expr (StMul × Expr) (Bool × Expr) → Expr
expr_step (E.Bool b) = truth b
expr_step (E.Int z) = number z
expr_step (E.Named x) = named x
expr_step (E.Paren e) = paren e
expr_step (E.Neg e) = negation e
expr_step (E.Not e) = complement e
expr_step (E.Product e rest) = product e (factors_of rest)
expr_step (E.Sum e rest) = sum e (terms_of rest)
expr_step (E.Order a op b) = order a op b
expr_step (E.Equal a same b) = equal a same b
expr_step (E.And es) = all_of (exprs_of es)
expr_step (E.Xor es) = odd_of (exprs_of es)
expr_step (E.Or es) = any_of (exprs_of es)
expr_step (E.Abs e) = absolute e
expr_step (E.Min a b) = least a b
expr_step (E.Max a b) = greatest a b
expr_step (E.Sel g a b) = selection g a b

abbrev pub factor_step : StFactor-F Expr (StMul × Expr) (Bool × Expr) → StMul × Expr
factor_step f = (f.op, f.value)

abbrev pub term_step : StTerm-F Expr (StMul × Expr) (Bool × Expr) → Bool × Expr
term_step t = (t.minus, t.value)

abbrev pub view_expr : StExpr → Expr
view_expr = fold-StExpr _ _ _ expr_step factor_step term_step

abbrev pub view_factor : StFactor → StMul × Expr
view_factor = fold-StFactor _ _ _ expr_step factor_step term_step

abbrev pub view_factors : List StFactor → Factors
view_factors fs = factors_of (map view_factor fs)

abbrev pub view_term : StTerm → Bool × Expr
view_term = fold-StTerm _ _ _ expr_step factor_step term_step

abbrev pub view_terms : List StTerm → Terms
view_terms ts = terms_of (map view_term ts)

abbrev pub view_exprs : List StExpr → Exprs
view_exprs es = exprs_of (map view_expr es)

abbrev pub branches_of : List (Expr × Stms) → Branches
branches_of [] = no_branches
branches_of (b ∷ bs) = branches b.0 b.1 (branches_of bs)

abbrev pub other_of : Option (List Stm) → Other
other_of None = no_other
other_of (Some ss) = other (stms_of ss)

abbrev pub stmt_step : Stmt-F Stm (Expr × Stms) → Stm
stmt_step (S.Assign x e) = assign x (view_expr e)
stmt_step (S.If bs o) = choice (branches_of bs) (other_of o)
stmt_step (S.While c ss) = loop (view_expr c) (stms_of ss)

abbrev pub branch_step : StBranch-F Stm (Expr × Stms) → Expr × Stms
branch_step b = (view_expr b.cond, stms_of b.body)

abbrev pub view_stmt : Stmt → Stm
view_stmt = fold-Stmt _ _ stmt_step branch_step

abbrev pub view_branch : StBranch → Expr × Stms
view_branch = fold-StBranch _ _ stmt_step branch_step

abbrev pub view_stmts : List Stmt → Stms
view_stmts ss = stms_of (map view_stmt ss)

abbrev pub view_branches : List StBranch → Branches
view_branches bs = branches_of (map view_branch bs)

-- the program that has these parts
abbrev pub program_of_parts : Text → List StVar → List Stmt → tree.Program
program_of_parts name vars body = record { name = name; vars = vars; body = view_stmts body }
