-- Helper of the code: statements whose names are resolved, as plain data. `PlacedView` ties it to the types of `src/`.
use Rattle.std.specs.Prelude.{ℕ, ℤ, Bool, true, false, List, [], ◌∷◌}
use Rattle.st_ast.specs.declared.tree.StMul.{StMul}
use Rattle.st_ast.specs.declared.tree.StMul.TheVariants as mul
use Rattle.st_ast.specs.declared.tree.StTy.{StTy}
use Rattle.st_check.specs.declared.placed.Join.{Join}
use Rattle.st_check.specs.declared.placed.Join.TheVariants as join
use Rattle.st_check.specs.declared.placed.Relation.{Relation}
use Rattle.st_check.specs.declared.placed.Single.{Single}

-- an operation on two operands
pub data Operator : Type 0 where
  add subtract multiply divide remainder all odd any smaller larger : Operator
  -- whether a relation holds, or whether it doesn't
  is : Relation → (holds : Bool) → Operator

abbrev pub of_term : Bool → Operator
of_term false = add
of_term true = subtract

abbrev pub of_factor : StMul → Operator
of_factor mul.Times = multiply
of_factor mul.Div = divide
of_factor mul.Mod = remainder

abbrev pub of_join : Join → Operator
of_join join.And = all
of_join join.Xor = odd
of_join join.Or = any

abbrev pub of_extreme : Bool → Operator
of_extreme true = larger
of_extreme false = smaller

-- what no operand comes to
abbrev pub joined_none : Join → Bool
joined_none join.And = true
joined_none join.Xor = false
joined_none join.Or = false

mutual
  pub data Expr : Type 0 where
    number : ℤ → Expr
    placed : ℕ → Expr
    single : Single → Expr → Expr
    pair : Expr → Operator → Expr → Expr
    -- operations one after the other, from left to right
    chain : Expr → Steps → Expr
    -- a condition, the value where it is FALSE, and the one where it is TRUE
    selected : Expr → Expr → Expr → Expr

  pub data Steps : Type 0 where
    no_steps : Steps
    steps : Operator → Expr → Steps → Steps

mutual
  -- An assignment has the place and the type of its variable. Where there is no ELSE, nothing stands after it.
  pub data Stm : Type 0 where
    assign : ℕ → StTy → Expr → Stm
    choice : Branches → Stms → Stm
    loop : Expr → Stms → Stm

  pub data Stms : Type 0 where
    no_stms : Stms
    stms : Stm → Stms → Stms

  pub data Branches : Type 0 where
    no_branches : Branches
    branches : Expr → Stms → Branches → Branches

abbrev pub steps_of : List (Operator × Expr) → Steps
steps_of [] = no_steps
steps_of (s ∷ ss) = steps s.0 s.1 (steps_of ss)

-- each operand with the same operation before it
abbrev pub same_steps : Operator → List Expr → Steps
same_steps f [] = no_steps
same_steps f (e ∷ es) = steps f e (same_steps f es)

abbrev pub stms_of : List Stm → Stms
stms_of [] = no_stms
stms_of (s ∷ ss) = stms s (stms_of ss)
