-- Helper of the code: reading names and expressions with one token of sight.
use Rattle.std.specs.Prelude.{ℕ, zero, suc, true, false, Option, List, [], ◌∷◌}
use Rattle.grammar.specs.Pieces.{Text}
use Rattle.grammar.specs.Reader.{Reader, Deep, one_at, none_at, both_at, map_at, such_at, either_at, optional_at, list_at, flat_at, deep_both, deep_map, deep_list, inside, chain_at, suffix_at}
use Rattle.cif_lex.specs.declared.token.Token.{Token}
use Rattle.cif_lex.specs.declared.token.TokenKind.{TokenKind}
use Rattle.cif_lex.specs.declared.token.TokenKind.TheVariants.{Id, Reserved, Number, Sign}
use Rattle.cif_lex.specs.declared.token.Word.{Word}
use Rattle.cif_lex.specs.declared.token.Word.TheVariants as w
use Rattle.cif_lex.specs.declared.token.Mark.{Mark}
use Rattle.cif_lex.specs.declared.token.Mark.TheVariants as m
use Rattle.cif_ast.specs.declared.names.Ident.{Ident}
use Rattle.cif_ast.specs.declared.names.Name.{Name}
use Rattle.cif_ast.specs.declared.expressions.Expr.{Expr}
use Rattle.cif_ast.specs.declared.expressions.Term.{Term}
use Rattle.cif_ast.specs.declared.expressions.Factor.{Factor}
use Rattle.cif_ast.specs.declared.expressions.Branch.{Branch}
use Rattle.cif_parse_expr.specs.TokenKinds.{sort, codes_of}
use Rattle.cif_parse_expr.specs.Spelling.{is_small}
use Rattle.cif_parse_expr.specs.Trees as tree
use Rattle.cif_parse_expr.specs.Grammar.{max_depth}

-- ---- one token

abbrev pub any_at : List TokenKind → Reader Token Token
any_at kinds = one_at sort (codes_of kinds)

abbrev pub kind_at : TokenKind → Reader Token Token
kind_at k = any_at (k ∷ [])

abbrev pub word_at : Word → Reader Token Token
word_at name = kind_at (Reserved name)

abbrev pub sign_at : Mark → Reader Token Token
sign_at mark = kind_at (Sign mark)

abbrev pub flat_word : Word → Deep Token Token
flat_word name = flat_at (word_at name)

abbrev pub flat_sign : Mark → Deep Token Token
flat_sign mark = flat_at (sign_at mark)

-- a sign and a part
unfoldable pub after_sign_at : {A : Type 0} → Mark → Reader Token A → Reader Token A
after_sign_at mark r = map_at tree.second (both_at (sign_at mark) r)

-- parts with a sign between them
unfoldable pub separated_at : {A : Type 0} → Mark → Reader Token A → Reader Token (List A)
separated_at mark r = list_at sort (codes_of (Sign mark ∷ [])) r (after_sign_at mark r)

-- what begins with a token of this kind
abbrev pub first : TokenKind → List ℕ
first k = codes_of (k ∷ [])

abbrev pub first_word : Word → List ℕ
first_word name = first (Reserved name)

abbrev pub first_sign : Mark → List ℕ
first_sign mark = first (Sign mark)

abbrev pub mul_signs : List ℕ
mul_signs = codes_of (Sign m.Star ∷ Reserved w.Div ∷ Reserved w.Mod ∷ [])

abbrev pub sum_signs : List ℕ
sum_signs = codes_of (Sign m.Plus ∷ Sign m.Minus ∷ [])

abbrev pub cmp_signs : List ℕ
cmp_signs = codes_of (Sign m.Equal ∷ Sign m.NotEqual ∷ Sign m.Less ∷ Sign m.LessEqual ∷ Sign m.Greater ∷ Sign m.GreaterEqual ∷ [])

abbrev pub arrows : List ℕ
arrows = codes_of (Sign m.Implies ∷ Sign m.Iff ∷ [])

module _ (text : Text) where
  -- ---- names

  unfoldable pub ident_at : Reader Token Ident
  ident_at = map_at (tree.ident text) (kind_at Id)

unfoldable pub dot_at : Reader Token (Option Token)
dot_at = optional_at sort (first_sign m.Dot) (sign_at m.Dot)

module _ (text : Text) where
  unfoldable pub name_at : Reader Token Name
  name_at = map_at tree.name (both_at dot_at (separated_at m.Dot (ident_at text)))

  unfoldable pub number_at : Reader Token Expr
  number_at = map_at (tree.number text) (such_at (is_small text) (kind_at Number))

unfoldable pub signed_at : Deep Token Expr → TokenKind → (Token × Expr → Expr) → Deep Token Expr
signed_at operand k make = deep_map make (deep_both (flat_at (kind_at k)) operand)

-- The reader of whole expressions and that of operands with a sign, as they stand inside a form.
module _ (whole : Deep Token Expr) where
  -- after a comma
  unfoldable pub next_at : Deep Token Expr
  next_at = deep_map tree.second (deep_both (flat_sign m.Comma) whole)

  unfoldable pub exprs_at : Deep Token (List Expr)
  exprs_at = deep_list sort (first_sign m.Comma) whole next_at

  unfoldable pub branch_at : Deep Token Branch
  branch_at = deep_map tree.branch (deep_both exprs_at (deep_both (flat_sign m.Colon) whole))

  unfoldable pub paren_at : Deep Token Expr
  paren_at = deep_map tree.paren (deep_both (flat_sign m.OpenParen) (deep_both whole (flat_sign m.CloseParen)))

  unfoldable pub abs_at : Deep Token Expr
  abs_at = deep_map tree.abs (deep_both (flat_word w.Abs) (deep_both (flat_sign m.OpenParen) (deep_both whole (flat_sign m.CloseParen))))

  unfoldable pub two_at : Word → (Token × (Token × (Expr × (Token × (Expr × Token)))) → Expr) → Deep Token Expr
  two_at name make = deep_map make (deep_both (flat_word name) (deep_both (flat_sign m.OpenParen) (deep_both whole (deep_both (flat_sign m.Comma) (deep_both whole (flat_sign m.CloseParen))))))

  -- after `elif`
  unfoldable pub other_at : Deep Token Branch
  other_at = deep_map tree.second (deep_both (flat_word w.Elif) branch_at)

  unfoldable pub branches_at : Deep Token (List Branch)
  branches_at = deep_list sort (first_word w.Elif) branch_at other_at

  unfoldable pub otherwise_at : Deep Token Expr
  otherwise_at = deep_map tree.middle (deep_both (flat_word w.Else) (deep_both whole (flat_word w.End)))

  unfoldable pub choice_at : Deep Token Expr
  choice_at = deep_map tree.choice (deep_both (flat_word w.If) (deep_both branches_at otherwise_at))

  unfoldable pub prim_at : Text → Deep Token Expr
  prim_at text = either_at sort (first_word w.True) (deep_map (tree.boolean true) (flat_word w.True))
      (either_at sort (first_word w.False) (deep_map (tree.boolean false) (flat_word w.False))
      (either_at sort (first Number) (flat_at (number_at text))
      (either_at sort (codes_of (Sign m.Dot ∷ Id ∷ [])) (deep_map tree.named (flat_at (name_at text)))
      (either_at sort (first_sign m.Question) (deep_map tree.received (flat_sign m.Question))
      (either_at sort (first_sign m.OpenParen) paren_at
      (either_at sort (first_word w.Abs) abs_at
      (either_at sort (first_word w.Min) (two_at w.Min tree.least)
      (either_at sort (first_word w.Max) (two_at w.Max tree.greatest)
      choice_at))))))))

  unfoldable pub un_from : Text → Deep Token Expr → Deep Token Expr
  un_from text operand = either_at sort (first_sign m.Minus) (signed_at operand (Sign m.Minus) tree.negative)
      (either_at sort (first_sign m.Plus) (signed_at operand (Sign m.Plus) tree.positive)
      (either_at sort (first_word w.Not) (signed_at operand (Reserved w.Not) tree.negation)
      (prim_at text)))

-- The levels over the reader of operands with a sign.
module _ (un : Deep Token Expr) where
  unfoldable pub factor_at : Deep Token Factor
  factor_at = deep_map tree.factor (deep_both (flat_at (any_at (Sign m.Star ∷ Reserved w.Div ∷ Reserved w.Mod ∷ []))) (inside max_depth un))

  unfoldable pub prod_from : Deep Token Expr
  prod_from = chain_at sort mul_signs max_depth tree.product un factor_at

  unfoldable pub term_at : Deep Token Term
  term_at = deep_map tree.term (deep_both (flat_at (any_at (Sign m.Plus ∷ Sign m.Minus ∷ []))) (inside max_depth prod_from))

  unfoldable pub sum_from : Deep Token Expr
  sum_from = chain_at sort sum_signs max_depth tree.sum prod_from term_at

  unfoldable pub compared_at : Deep Token (Token × Expr)
  compared_at = deep_both (flat_at (any_at (Sign m.Equal ∷ Sign m.NotEqual ∷ Sign m.Less ∷ Sign m.LessEqual ∷ Sign m.Greater ∷ Sign m.GreaterEqual ∷ []))) (inside max_depth sum_from)

  unfoldable pub cmp_from : Deep Token Expr
  cmp_from = suffix_at sort cmp_signs max_depth tree.comparison sum_from compared_at

  unfoldable pub and_next_at : Deep Token Expr
  and_next_at = deep_map tree.second (deep_both (flat_word w.And) (inside max_depth cmp_from))

  unfoldable pub and_from : Deep Token Expr
  and_from = chain_at sort (first_word w.And) max_depth tree.conjunction cmp_from and_next_at

  unfoldable pub or_next_at : Deep Token Expr
  or_next_at = deep_map tree.second (deep_both (flat_word w.Or) (inside max_depth and_from))

  unfoldable pub or_from : Deep Token Expr
  or_from = chain_at sort (first_word w.Or) max_depth tree.disjunction and_from or_next_at

  unfoldable pub implied_at : Deep Token (Token × Expr)
  implied_at = deep_both (flat_at (any_at (Sign m.Implies ∷ Sign m.Iff ∷ []))) (inside max_depth or_from)

  unfoldable pub expr_from : Deep Token Expr
  expr_from = suffix_at sort arrows max_depth tree.implication or_from implied_at

-- The number bounds how deep the calls go.
unfoldable pub un_at : Text → ℕ → Deep Token Expr
un_at text zero = none_at
un_at text (suc n) = un_from (inside max_depth (expr_from (un_at text n))) text (inside max_depth (un_at text n))

abbrev pub whole_at : Text → ℕ → Deep Token Expr
whole_at text n = inside max_depth (expr_from (un_at text n))

-- an expression at the front
unfoldable pub expr_at : Text → Reader Token Expr
expr_at text = map_at (λ v. v.0) (expr_from (un_at text 101))
