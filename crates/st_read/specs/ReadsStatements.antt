-- Helper of the code: a function value that reads statements, each so deep.
use Rattle.std.specs.Prelude.{ℕ, List, map, Result}
use Rattle.std.specs.declared.alloc.Global.{Global}
use Rattle.st_ast.specs.Tokens.{Token}
use Rattle.st_ast.specs.View.{view_stmt}
use Rattle.st_ast.specs.declared.tree.Stmt.{Stmt}
use Rattle.st_read.specs.declared.error.Stop.{Stop}
use Rattle.st_read.specs.Gives.{Gives}
use Rattle.st_read.specs.Reading.{statements_at}

pub record ReadsStatements (depth : ℕ) (pre : Global → List Token → ℕ → Type 0)
    (post : Global → List Token → ℕ → Result (List Stmt × List Token) Stop → Type 0) : Type 0 where
  pub callable : (alloc : Global) (tokens : List Token) → pre alloc tokens depth
  pub reads : (alloc : Global) (tokens : List Token) (r : Result (List Stmt × List Token) Stop) → post alloc tokens depth r
      → Gives (λ x. (map view_stmt x.0, x.1)) r (statements_at depth tokens)
