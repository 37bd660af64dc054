-- The tree of a program as plain data, on which all definitions stand. `View` ties it to the types of `src/`.
use Rattle.std.specs.Prelude.{ℤ, Bool, List, [], ◌∷◌}
use Rattle.grammar.specs.Pieces.{Text}
use Rattle.st_ast.specs.declared.tree.StMul.{StMul}
use Rattle.st_ast.specs.declared.tree.StOrder.{StOrder}
use Rattle.st_ast.specs.declared.tree.StVar.{StVar}

mutual
  pub data Expr : Type 0 where
    truth : Bool → Expr
    number : ℤ → Expr
    named : Text → Expr
    paren : Expr → Expr
    -- unary minus
    negation : Expr → Expr
    -- NOT
    complement : Expr → Expr
    product : Expr → Factors → Expr
    sum : Expr → Terms → Expr
    order : Expr → StOrder → Expr → Expr
    equal : Expr → Bool → Expr → Expr
    -- AND, XOR, OR
    all_of : Exprs → Expr
    odd_of : Exprs → Expr
    any_of : Exprs → Expr
    -- ABS, MIN, MAX
    absolute : Expr → Expr
    least : Expr → Expr → Expr
    greatest : Expr → Expr → Expr
    -- SEL: the condition, the value where it is FALSE, and the one where it is TRUE
    selection : Expr → Expr → Expr → Expr

  pub data Exprs : Type 0 where
    no_exprs : Exprs
    exprs : Expr → Exprs → Exprs

  pub data Factors : Type 0 where
    no_factors : Factors
    factors : StMul → Expr → Factors → Factors

  -- true: subtracted
  pub data Terms : Type 0 where
    no_terms : Terms
    terms : Bool → Expr → Terms → Terms

mutual
  pub data Stm : Type 0 where
    assign : Text → Expr → Stm
    choice : Branches → Other → Stm
    loop : Expr → Stms → Stm

  pub data Stms : Type 0 where
    no_stms : Stms
    stms : Stm → Stms → Stms

  pub data Branches : Type 0 where
    no_branches : Branches
    branches : Expr → Stms → Branches → Branches

  -- what stands after ELSE
  pub data Other : Type 0 where
    no_other : Other
    other : Stms → Other

pub record Program : Type 0 where
  pub name : Text
  pub vars : List StVar
  pub body : Stms

-- one list of statements after the other
abbrev pub append : Stms → Stms → Stms
append no_stms more = more
append (stms s ss) more = stms s (append ss more)

abbrev pub stms_of : List Stm → Stms
stms_of [] = no_stms
stms_of (s ∷ ss) = stms s (stms_of ss)

abbrev pub exprs_of : List Expr → Exprs
exprs_of [] = no_exprs
exprs_of (e ∷ es) = exprs e (exprs_of es)
