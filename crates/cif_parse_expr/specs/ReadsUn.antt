-- Helper of the code: a function value that reads operands with a sign, so deep.
use Rattle.std.specs.Prelude.{ℕ, List, Result}
use Rattle.std.specs.declared.alloc.Global.{Global}
use denote.Ref.{Bor}
use Rattle.grammar.specs.Pieces.{Text}
use Rattle.cif_lex.specs.declared.token.Token.{Token}
use Rattle.cif_ast.specs.declared.expressions.Expr.{Expr}
use Rattle.cif_parse_expr.specs.declared.error.ReadError.{ReadError}
use Rattle.cif_parse_expr.specs.Gives.{Gives}
use Rattle.cif_parse_expr.specs.Reading.{un_at}

pub record ReadsUn (text : Bor Text) (fuel : ℕ) (pre : Global → Bor Text → Bor (List Token) → ℕ → Type 0)
    (post : Global → Bor Text → Bor (List Token) → ℕ → Result ((Expr × ℕ) × Bor (List Token)) ReadError → Type 0) : Type 0 where
  pub callable : (alloc : Global) (tokens : Bor (List Token)) → pre alloc text tokens fuel
  pub reads : (alloc : Global) (tokens : Bor (List Token)) (r : Result ((Expr × ℕ) × Bor (List Token)) ReadError) → post alloc text tokens fuel r
      → Gives (λ x. (x.0, x.1.now)) r (un_at text.now fuel tokens.now)
