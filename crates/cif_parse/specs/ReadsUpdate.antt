-- Helper of the code: a function value that reads an update, so deep.
use Rattle.std.specs.Prelude.{ℕ, List, Result}
use Rattle.std.specs.declared.alloc.Global.{Global}
use denote.Ref.{Bor}
use Rattle.grammar.specs.Pieces.{Text}
use Rattle.cif_lex.specs.declared.token.Token.{Token}
use Rattle.cif_ast.specs.declared.edges.Update.{Update}
use Rattle.cif_parse_expr.specs.declared.error.ReadError.{ReadError}
use Rattle.cif_parse_expr.specs.Gives.{Gives}
use Rattle.cif_parse.specs.Reading.{one_update_at}

pub record ReadsUpdate (text : Bor Text) (depth : ℕ) (pre : Global → Bor Text → Bor (List Token) → ℕ → Type 0)
    (post : Global → Bor Text → Bor (List Token) → ℕ → Result (Update × Bor (List Token)) ReadError → Type 0) : Type 0 where
  pub callable : (alloc : Global) (tokens : Bor (List Token)) → pre alloc text tokens depth
  pub reads : (alloc : Global) (tokens : Bor (List Token)) (r : Result (Update × Bor (List Token)) ReadError) → post alloc text tokens depth r
      → Gives (λ x. (x.0, x.1.now)) r (one_update_at text.now depth tokens.now)
