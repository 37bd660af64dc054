-- Helper of the code: what tree of plain data a value of the types of `src/placed.rt` stands for. Each step sees one
-- level, with its parts seen.
use Rattle.std.specs.Prelude.{List, [], ◌∷◌, map}
use Rattle.st_ast.specs.Values.{of_bool}
use Rattle.st_check.specs.PlacedTree as op
use Rattle.st_check.specs.PlacedTree.{Operator, of_term, of_factor, of_join, of_extreme, joined_none, Expr, Steps, number, placed, single, pair, chain, selected, steps_of, same_steps, Stm, Stms, Branches, assign, choice, loop, stms_of, no_branches, branches}
use Rattle.st_check.specs.declared.placed.Join.{Join}
use Rattle.st_check.specs.declared.placed.PlacedExpr.{PlacedExpr}
use Rattle.st_check.specs.declared.placed.PlacedExpr.TheOpen.{PlacedExpr-F, PlacedSum-F, PlacedTerm-F, PlacedProduct-F, PlacedFactor-F, PlacedOperands-F, PlacedPair-F, PlacedSelection-F}
use Rattle.st_check.specs.declared.placed.PlacedExpr.TheOpen as E
use Rattle.st_check.specs.declared.placed.PlacedExpr.TheFolds.{fold-PlacedExpr, fold-PlacedTerm, fold-PlacedFactor, fold-PlacedPair}
use Rattle.st_check.specs.declared.placed.PlacedTerm.{PlacedTerm}
use Rattle.st_check.specs.declared.placed.PlacedFactor.{PlacedFactor}
use Rattle.st_check.specs.declared.placed.PlacedPair.{PlacedPair}
use Rattle.st_check.specs.PlacedTests.{Test, Tests, compare, flag, contrary, all_of, any_of, no_tests, tests, expr_of}
use Rattle.st_check.specs.declared.placed.PlacedTest.{PlacedTest}
use Rattle.st_check.specs.declared.placed.PlacedTest.TheOpen.{PlacedTest-F}
use Rattle.st_check.specs.declared.placed.PlacedTest.TheOpen as T
use Rattle.st_check.specs.declared.placed.PlacedTest.TheFolds.{fold-PlacedTest}
use Rattle.st_check.specs.declared.placed.PlacedCond.{PlacedCond}
use Rattle.st_check.specs.declared.placed.PlacedCond.TheVariants as cond
use Rattle.st_check.specs.declared.placed.PlacedStmt.{PlacedStmt}
use Rattle.st_check.specs.declared.placed.PlacedStmt.TheOpen.{PlacedStmt-F, PlacedBranch-F}
use Rattle.st_check.specs.declared.placed.PlacedStmt.TheOpen as S
use Rattle.st_check.specs.declared.placed.PlacedStmt.TheFolds.{fold-PlacedStmt, fold-PlacedBranch}
use Rattle.st_check.specs.declared.placed.PlacedBranch.{PlacedBranch}

abbrev pub expr_step : PlacedExpr-F Expr (Operator × Expr) (List Expr) (Expr × Expr) Expr Expr Expr (Operator × Expr) → Expr
expr_step (E.Number z) = number z
expr_step (E.Place k) = placed k
expr_step (E.Single f e) = single f e
expr_step (E.Sum e) = e
expr_step (E.Product e) = e
expr_step (E.Joined j es) = chain (number (of_bool (joined_none j))) (same_steps (of_join j) es)
expr_step (E.Related r holds es) = pair es.0 (op.is r holds) es.1
expr_step (E.Extreme larger es) = pair es.0 (of_extreme larger) es.1
expr_step (E.Select e) = e

abbrev pub sum_step : PlacedSum-F Expr (Operator × Expr) (List Expr) (Expr × Expr) Expr Expr Expr (Operator × Expr) → Expr
sum_step s = chain s.first (steps_of s.rest)

abbrev pub term_step : PlacedTerm-F Expr (Operator × Expr) (List Expr) (Expr × Expr) Expr Expr Expr (Operator × Expr) → Operator × Expr
term_step t = (of_term t.minus, t.value)

abbrev pub product_step : PlacedProduct-F Expr (Operator × Expr) (List Expr) (Expr × Expr) Expr Expr Expr (Operator × Expr) → Expr
product_step p = chain p.first (steps_of p.rest)

abbrev pub factor_step : PlacedFactor-F Expr (Operator × Expr) (List Expr) (Expr × Expr) Expr Expr Expr (Operator × Expr) → Operator × Expr
factor_step f = (of_factor f.op, f.value)

abbrev pub operands_step : PlacedOperands-F Expr (Operator × Expr) (List Expr) (Expr × Expr) Expr Expr Expr (Operator × Expr) → List Expr
operands_step es = es.all

abbrev pub pair_step : PlacedPair-F Expr (Operator × Expr) (List Expr) (Expr × Expr) Expr Expr Expr (Operator × Expr) → Expr × Expr
pair_step p = (p.first, p.second)

abbrev pub selection_step : PlacedSelection-F Expr (Operator × Expr) (List Expr) (Expr × Expr) Expr Expr Expr (Operator × Expr) → Expr
selection_step s = selected s.condition s.otherwise s.then

abbrev pub expr_view : PlacedExpr → Expr
expr_view = fold-PlacedExpr _ _ _ _ _ _ _ _ expr_step factor_step operands_step pair_step product_step selection_step sum_step term_step

abbrev pub pair_view : PlacedPair → Expr × Expr
pair_view = fold-PlacedPair _ _ _ _ _ _ _ _ expr_step factor_step operands_step pair_step product_step selection_step sum_step term_step

abbrev pub term_view : PlacedTerm → Operator × Expr
term_view = fold-PlacedTerm _ _ _ _ _ _ _ _ expr_step factor_step operands_step pair_step product_step selection_step sum_step term_step

abbrev pub factor_view : PlacedFactor → Operator × Expr
factor_view = fold-PlacedFactor _ _ _ _ _ _ _ _ expr_step factor_step operands_step pair_step product_step selection_step sum_step term_step

abbrev pub terms_view : List PlacedTerm → Steps
terms_view ts = steps_of (map term_view ts)

abbrev pub factors_view : List PlacedFactor → Steps
factors_view fs = steps_of (map factor_view fs)

abbrev pub operands_view : Join → List PlacedExpr → Steps
operands_view j es = same_steps (of_join j) (map expr_view es)

abbrev pub tests_of : List Test → Tests
tests_of [] = no_tests
tests_of (t ∷ ts) = tests t (tests_of ts)

abbrev pub test_step : PlacedTest-F Test → Test
test_step (T.Compare r holds turned k z) = compare r holds turned k z
test_step (T.Flag turned k) = flag turned k
test_step (T.Not t) = contrary t
test_step (T.All ts) = all_of (tests_of ts)
test_step (T.Any ts) = any_of (tests_of ts)

abbrev pub test_view : PlacedTest → Test
test_view = fold-PlacedTest _ test_step

abbrev pub tests_view : List PlacedTest → Tests
tests_view ts = tests_of (map test_view ts)

abbrev pub cond_view : PlacedCond → Expr
cond_view (cond.Test t) = expr_of (test_view t)
cond_view (cond.Value e) = expr_view e

abbrev pub branches_of : List (Expr × Stms) → Branches
branches_of [] = no_branches
branches_of (b ∷ bs) = branches b.0 b.1 (branches_of bs)

abbrev pub stmt_step : PlacedStmt-F Stm (Expr × Stms) → Stm
stmt_step (S.Assign k t e) = assign k t (expr_view e)
stmt_step (S.If bs o) = choice (branches_of bs) (stms_of o)
stmt_step (S.While c ss) = loop (cond_view c) (stms_of ss)

abbrev pub branch_step : PlacedBranch-F Stm (Expr × Stms) → Expr × Stms
branch_step b = (cond_view b.cond, stms_of b.body)

abbrev pub stmt_view : PlacedStmt → Stm
stmt_view = fold-PlacedStmt _ _ stmt_step branch_step

abbrev pub branch_view : PlacedBranch → Expr × Stms
branch_view = fold-PlacedBranch _ _ stmt_step branch_step

abbrev pub stmts_view : List PlacedStmt → Stms
stmts_view ss = stms_of (map stmt_view ss)

abbrev pub branches_view : List PlacedBranch → Branches
branches_view bs = branches_of (map branch_view bs)
