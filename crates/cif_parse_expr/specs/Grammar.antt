-- The grammar of names and expressions, a line for each production (CIF 3 language reference, "Expressions").
use Rattle.std.specs.Prelude.{ℕ, zero, suc, true, false, List, [], ◌∷◌}
use Rattle.grammar.specs.Pieces.{Text}
use Rattle.grammar.specs.Lang.{Lang, ◌&◌, ◌∣◌, ◌<$>◌, some, list, optional, such_that}
use Rattle.cif_lex.specs.declared.token.Token.{Token}
use Rattle.cif_lex.specs.declared.token.TokenKind.TheVariants.{Id, Reserved, Number, Sign}
use Rattle.cif_lex.specs.declared.token.Word.TheVariants as w
use Rattle.cif_lex.specs.declared.token.Mark.{Mark}
use Rattle.cif_lex.specs.declared.token.Mark.TheVariants as m
use Rattle.cif_ast.specs.declared.names.Ident.{Ident}
use Rattle.cif_ast.specs.declared.names.Name.{Name}
use Rattle.cif_ast.specs.declared.expressions.Expr.{Expr}
use Rattle.cif_ast.specs.declared.expressions.Branch.{Branch}
use Rattle.cif_parse_expr.specs.TokenKinds.{kind, word, sign, any_of}
use Rattle.cif_parse_expr.specs.Spelling.{is_small}
use Rattle.cif_parse_expr.specs.Trees as tree

-- ID
abbrev pub ident : Text → Lang Token Ident
ident text = tree.ident text <$> kind Id

-- ["."] ID {"." ID}
abbrev pub name : Text → Lang Token Name
name text = tree.name <$> optional (sign m.Dot) & list (ident text) (tree.second <$> sign m.Dot & ident text)

-- NUMBER
abbrev pub number : Text → Lang Token Expr
number text = tree.number text <$> such_that (is_small text) (kind Number)

pub data Level : Type 0 where
  at_expr at_or at_and at_cmp at_sum at_prod at_un : Level

-- Each level over the languages of what stands inside a form.
module _ (text : Text) (inner : Level → Lang Token Expr) where
  -- expr {"," expr}
  abbrev pub exprs : Lang Token (List Expr)
  exprs = list (inner at_expr) (tree.second <$> sign m.Comma & inner at_expr)

  -- exprs ":" expr
  abbrev pub branch : Lang Token Branch
  branch = tree.branch <$> exprs & sign m.Colon & inner at_expr

  -- "else" expr "end"
  abbrev pub otherwise : Lang Token Expr
  otherwise = tree.middle <$> word w.Else & inner at_expr & word w.End

  abbrev pub prim : Lang Token Expr
  prim = tree.boolean true <$> word w.True
      ∣ tree.boolean false <$> word w.False
      ∣ number text
      ∣ tree.named <$> name text
      ∣ tree.received <$> sign m.Question
      ∣ tree.paren <$> sign m.OpenParen & inner at_expr & sign m.CloseParen
      ∣ tree.abs <$> word w.Abs & sign m.OpenParen & inner at_expr & sign m.CloseParen
      ∣ tree.least <$> word w.Min & sign m.OpenParen & inner at_expr & sign m.Comma & inner at_expr & sign m.CloseParen
      ∣ tree.greatest <$> word w.Max & sign m.OpenParen & inner at_expr & sign m.Comma & inner at_expr & sign m.CloseParen
      ∣ tree.choice <$> word w.If & list branch (tree.second <$> word w.Elif & branch) & otherwise

  abbrev pub un : Lang Token Expr
  un = tree.negative <$> sign m.Minus & inner at_un
      ∣ tree.positive <$> sign m.Plus & inner at_un
      ∣ tree.negation <$> word w.Not & inner at_un
      ∣ prim

  abbrev pub prod : Lang Token Expr
  prod = un ∣ (λ v. tree.product v.0 v.1) <$> inner at_un & some (tree.factor <$> any_of (Sign m.Star ∷ Reserved w.Div ∷ Reserved w.Mod ∷ []) & inner at_un)

  abbrev pub sum : Lang Token Expr
  sum = prod ∣ (λ v. tree.sum v.0 v.1) <$> inner at_prod & some (tree.term <$> any_of (Sign m.Plus ∷ Sign m.Minus ∷ []) & inner at_prod)

  abbrev pub cmp : Lang Token Expr
  cmp = sum ∣ (λ v. tree.comparison v.0 v.1) <$> inner at_sum
      & any_of (Sign m.Equal ∷ Sign m.NotEqual ∷ Sign m.Less ∷ Sign m.LessEqual ∷ Sign m.Greater ∷ Sign m.GreaterEqual ∷ []) & inner at_sum

  abbrev pub and : Lang Token Expr
  and = cmp ∣ (λ v. tree.conjunction v.0 v.1) <$> inner at_cmp & some (tree.second <$> word w.And & inner at_cmp)

  abbrev pub or : Lang Token Expr
  or = and ∣ (λ v. tree.disjunction v.0 v.1) <$> inner at_and & some (tree.second <$> word w.Or & inner at_and)

  abbrev pub expr : Lang Token Expr
  expr = or ∣ (λ v. tree.implication v.0 v.1) <$> inner at_or & any_of (Sign m.Implies ∷ Sign m.Iff ∷ []) & inner at_or

abbrev pub level : Text → (Level → Lang Token Expr) → Level → Lang Token Expr
level text inner at_expr = expr text inner
level text inner at_or = or text inner
level text inner at_and = and text inner
level text inner at_cmp = cmp text inner
level text inner at_sum = sum text inner
level text inner at_prod = prod text inner
level text inner at_un = un text inner

-- The trees of a level whose depth is below the number: what stands inside a form is one less deep.
unfoldable pub below : Text → ℕ → Level → Lang Token Expr
below text zero l e ts = ⊥
below text (suc n) l e ts = level text (below text n) l e ts

abbrev pub max_depth : ℕ
max_depth = 100

-- what derives the tree, whose depth is at most 100
unfoldable pub IsExpr : Text → Expr → List Token → Type 0
IsExpr text e ts = expr text (below text max_depth) e ts

-- p {mark p}
abbrev pub separated : {A : Type 0} → Mark → Lang Token A → Lang Token (List A)
separated mark p = list p (tree.second <$> sign mark & p)

-- ID {"," ID}
abbrev pub ids : Text → Lang Token (List Ident)
ids text = separated m.Comma (ident text)

-- name {"," name}
abbrev pub names : Text → Lang Token (List Name)
names text = separated m.Comma (name text)

-- expr {"," expr}, each of depth at most 100
abbrev pub expr_list : Text → Lang Token (List Expr)
expr_list text = separated m.Comma (IsExpr text)
