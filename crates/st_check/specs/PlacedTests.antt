-- Helper of the code: tests of variables as plain data, and the expressions that they are.
use Rattle.std.specs.Prelude.{ℕ, ℤ, pos, Bool, true, false, List, [], ◌∷◌}
use Rattle.st_check.specs.PlacedTree.{Expr, number, placed, single, pair, chain, same_steps}
use Rattle.st_check.specs.PlacedTree as op
use Rattle.st_check.specs.declared.placed.Relation.{Relation}
use Rattle.st_check.specs.declared.placed.Single.TheVariants as one

mutual
  pub data Test : Type 0 where
    -- the variable at a place beside a number, and a BOOL by itself; where `turned` is TRUE, under NOT
    compare : Relation → (holds turned : Bool) → ℕ → ℤ → Test
    flag : (turned : Bool) → ℕ → Test
    contrary : Test → Test
    all_of any_of : Tests → Test

  pub data Tests : Type 0 where
    no_tests : Tests
    tests : Test → Tests → Tests

abbrev pub under_not : Bool → Expr → Expr
under_not true e = single one.Not e
under_not false e = e

abbrev mutual
  pub expr_of : Test → Expr
  expr_of (compare r holds turned k z) = under_not turned (pair (placed k) (op.is r holds) (number z))
  expr_of (flag turned k) = under_not turned (placed k)
  expr_of (contrary t) = single one.Not (expr_of t)
  expr_of (all_of ts) = chain (number (pos 1)) (same_steps op.all (exprs_of ts))
  expr_of (any_of ts) = chain (number (pos 0)) (same_steps op.any (exprs_of ts))

  pub exprs_of : Tests → List Expr
  exprs_of no_tests = []
  exprs_of (tests t ts) = expr_of t ∷ exprs_of ts
