-- Helper of the code: a function value that reads operands, so deep.
use Rattle.std.specs.Prelude.{ℕ, List, Result}
use Rattle.std.specs.declared.alloc.Global.{Global}
use Rattle.st_ast.specs.Tokens.{Token}
use Rattle.st_ast.specs.View.{view_expr}
use Rattle.st_ast.specs.declared.tree.StExpr.{StExpr}
use Rattle.st_read.specs.declared.error.Stop.{Stop}
use Rattle.st_read.specs.Gives.{Gives}
use Rattle.st_read.specs.Reading.{unary_at}

pub record ReadsUnary (fuel : ℕ) (pre : Global → List Token → ℕ → Type 0)
    (post : Global → List Token → ℕ → Result ((StExpr × ℕ) × List Token) Stop → Type 0) : Type 0 where
  pub callable : (alloc : Global) (tokens : List Token) → pre alloc tokens fuel
  pub reads : (alloc : Global) (tokens : List Token) (r : Result ((StExpr × ℕ) × List Token) Stop) → post alloc tokens fuel r
      → Gives (λ x. ((view_expr x.0.0, x.0.1), x.1)) r (unary_at fuel tokens)
