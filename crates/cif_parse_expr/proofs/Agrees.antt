-- What is read is what the grammar derives.
use Rattle.std.proofs.Common.{ℕ, zero, suc, ◌+◌, ◌≤◌, List, [], ◌∷◌, ◌++◌, true, false, refl, arith}
use Rattle.grammar.specs.Pieces.{Text}
use Rattle.grammar.specs.Lang.{Lang, ◌&◌, ◌<$>◌, list}
use Rattle.grammar.specs.Reader.{Deep, inside}
use Rattle.grammar.proofs.Laws.{Takes}
use Rattle.grammar.proofs.Plain.{one_takes, map_takes, both_takes, optional_takes, list_takes, such_takes, wider}
use Rattle.grammar.proofs.Depth.{Nests, IsBelow, flat_nests, deep_map_nests, deep_both_nests, deep_either_nests, deep_list_nests, deep_wider, inside_nests, none_nests, chain_nests, suffix_nests}
use Rattle.cif_lex.specs.declared.token.Token.{Token}
use Rattle.cif_lex.specs.declared.token.TokenKind.{TokenKind}
use Rattle.cif_lex.specs.declared.token.TokenKind.TheVariants.{Id, Reserved, Number, Sign}
use Rattle.cif_lex.specs.declared.token.Word.{Word}
use Rattle.cif_lex.specs.declared.token.Word.TheVariants as w
use Rattle.cif_lex.specs.declared.token.Mark.{Mark}
use Rattle.cif_lex.specs.declared.token.Mark.TheVariants as m
use Rattle.cif_ast.specs.declared.expressions.Expr.{Expr}
use Rattle.cif_parse_expr.specs.TokenKinds.{sort, codes_of, kind, word, sign}
use Rattle.cif_parse_expr.specs.Spelling.{is_small}
use Rattle.cif_parse_expr.specs.Trees as tree
use Rattle.cif_parse_expr.specs.Grammar.{Level, at_expr, at_or, at_and, at_cmp, at_sum, at_prod, at_un, ident, name, number, exprs, branch, otherwise, prim, un, prod, sum, cmp, and, or, expr, level, below, max_depth}
use Rattle.cif_parse_expr.specs.Reading.{first, first_word, first_sign, ident_at, after_sign_at, separated_at, dot_at, name_at, number_at, mul_signs, sum_signs, cmp_signs, arrows, next_at, exprs_at, other_at, compared_at, and_next_at, or_next_at, implied_at, branch_at, branches_at, otherwise_at, paren_at, abs_at, two_at, choice_at, prim_at, signed_at, un_from, factor_at, prod_from, term_at, sum_from, cmp_from, and_from, or_from, expr_from, un_at, flat_word, flat_sign}

-- ---- what each level begins with, and what makes it go on

abbrev prim_first : List ℕ
prim_first = codes_of (Reserved w.True ∷ Reserved w.False ∷ Number ∷ Sign m.Dot ∷ Id ∷ Sign m.Question ∷ Sign m.OpenParen ∷ Reserved w.Abs ∷ Reserved w.Min ∷ Reserved w.Max ∷ Reserved w.If ∷ [])

abbrev pub un_first : List ℕ
un_first = codes_of (Sign m.Minus ∷ Sign m.Plus ∷ Reserved w.Not ∷ []) ++ prim_first

abbrev pub un_goes : List ℕ
un_goes = first_sign m.Dot

abbrev prod_goes : List ℕ
prod_goes = mul_signs ++ un_goes

abbrev sum_goes : List ℕ
sum_goes = sum_signs ++ prod_goes

abbrev cmp_goes : List ℕ
cmp_goes = cmp_signs ++ sum_goes

abbrev and_goes : List ℕ
and_goes = first_word w.And ++ cmp_goes

abbrev or_goes : List ℕ
or_goes = first_word w.Or ++ and_goes

abbrev pub expr_goes : List ℕ
expr_goes = arrows ++ or_goes

-- ---- names

module _ (text : Text) where
  pub ident_takes : Takes sort false (first Id) [] (ident text) (ident_at text)
  unfolding ident_at
  ident_takes = map_takes (tree.ident text) (one_takes sort (first Id))

  pub part_takes : Takes sort false (first_sign m.Dot) [] (tree.second <$> sign m.Dot & ident text) (after_sign_at m.Dot (ident_at text))
  unfolding after_sign_at
  part_takes = map_takes tree.second (both_takes (one_takes sort (first_sign m.Dot)) refl ident_takes)

  pub name_takes : Takes sort false (codes_of (Sign m.Dot ∷ Id ∷ [])) un_goes (name text) (name_at text)
  unfolding name_at dot_at separated_at
  name_takes = wider (codes_of (Sign m.Dot ∷ Id ∷ [])) un_goes refl refl (map_takes tree.name
      (both_takes (optional_takes (one_takes sort (first_sign m.Dot))) refl (list_takes ident_takes refl refl part_takes)))

  number_takes : Takes sort false (first Number) [] (number text) (number_at text)
  unfolding number_at
  number_takes = map_takes (tree.number text) (such_takes (is_small text) (one_takes sort (first Number)))

-- ---- what stands alone or in brackets

module _ (text : Text) (bound : ℕ) where
  abbrev pub Level_law : List ℕ → (ℕ → Lang Token Expr) → Deep Token Expr → Type 0
  Level_law goes_on p r = Nests sort max_depth bound false un_first goes_on p r

  word_nests : (name : Word) → Nests sort max_depth bound false (first_word name) [] (λ n. word name) (flat_word name)
  word_nests name = flat_nests (one_takes sort (first_word name))

  sign_nests : (mark : Mark) → Nests sort max_depth bound false (first_sign mark) [] (λ n. sign mark) (flat_sign mark)
  sign_nests mark = flat_nests (one_takes sort (first_sign mark))

  module _ (whole : Deep Token Expr) (h : Level_law expr_goes (λ n. below text n at_expr) whole) where
    exprs_nests : Nests sort max_depth bound false un_first (first_sign m.Comma ++ expr_goes) (λ n. exprs text (below text n)) (exprs_at whole)
    unfolding exprs_at next_at
    exprs_nests = deep_wider un_first (first_sign m.Comma ++ expr_goes) refl refl
        (deep_list_nests h refl refl (deep_map_nests tree.second (deep_both_nests (sign_nests m.Comma) refl h)))

    branch_nests : Nests sort max_depth bound false un_first expr_goes (λ n. branch text (below text n)) (branch_at whole)
    unfolding branch_at
    branch_nests = deep_map_nests tree.branch (deep_both_nests exprs_nests refl (deep_both_nests (sign_nests m.Colon) refl h))

    paren_nests : Nests sort max_depth bound false (first_sign m.OpenParen) [] (λ n. tree.paren <$> sign m.OpenParen & below text n at_expr & sign m.CloseParen) (paren_at whole)
    unfolding paren_at
    paren_nests = deep_map_nests tree.paren (deep_both_nests (sign_nests m.OpenParen) refl (deep_both_nests h refl (sign_nests m.CloseParen)))

    abs_nests : Nests sort max_depth bound false (first_word w.Abs) [] (λ n. tree.abs <$> word w.Abs & sign m.OpenParen & below text n at_expr & sign m.CloseParen) (abs_at whole)
    unfolding abs_at
    abs_nests = deep_map_nests tree.abs (deep_both_nests (word_nests w.Abs) refl (deep_both_nests (sign_nests m.OpenParen) refl (deep_both_nests h refl (sign_nests m.CloseParen))))

    two_nests : (name : Word) (make : Token × (Token × (Expr × (Token × (Expr × Token)))) → Expr)
        → Nests sort max_depth bound false (first_word name) [] (λ n. make <$> word name & sign m.OpenParen & below text n at_expr & sign m.Comma & below text n at_expr & sign m.CloseParen) (two_at whole name make)
    unfolding two_at
    two_nests name make = deep_map_nests make (deep_both_nests (word_nests name) refl (deep_both_nests (sign_nests m.OpenParen) refl
        (deep_both_nests h refl (deep_both_nests (sign_nests m.Comma) refl (deep_both_nests h refl (sign_nests m.CloseParen))))))

    branches_nests : Nests sort max_depth bound false un_first (first_word w.Elif ++ expr_goes) (λ n. list (branch text (below text n)) (tree.second <$> word w.Elif & branch text (below text n))) (branches_at whole)
    unfolding branches_at other_at
    branches_nests = deep_wider un_first (first_word w.Elif ++ expr_goes) refl refl
        (deep_list_nests branch_nests refl refl (deep_map_nests tree.second (deep_both_nests (word_nests w.Elif) refl branch_nests)))

    otherwise_nests : Nests sort max_depth bound false (first_word w.Else) [] (λ n. otherwise text (below text n)) (otherwise_at whole)
    unfolding otherwise_at
    otherwise_nests = deep_map_nests tree.middle (deep_both_nests (word_nests w.Else) refl (deep_both_nests h refl (word_nests w.End)))

    choice_nests : Nests sort max_depth bound false (first_word w.If) [] (λ n. tree.choice <$> word w.If & list (branch text (below text n)) (tree.second <$> word w.Elif & branch text (below text n)) & otherwise text (below text n)) (choice_at whole)
    unfolding choice_at
    choice_nests = deep_map_nests tree.choice (deep_both_nests (word_nests w.If) refl (deep_both_nests branches_nests refl otherwise_nests))

    prim_nests : Nests sort max_depth bound false prim_first un_goes (λ n. prim text (below text n)) (prim_at whole text)
    unfolding prim_at
    prim_nests = deep_either_nests (deep_map_nests (tree.boolean true) (word_nests w.True)) refl
        (deep_either_nests (deep_map_nests (tree.boolean false) (word_nests w.False)) refl
        (deep_either_nests (flat_nests (number_takes text)) refl
        (deep_either_nests (deep_map_nests tree.named (flat_nests (name_takes text))) refl
        (deep_either_nests (deep_map_nests tree.received (sign_nests m.Question)) refl
        (deep_either_nests paren_nests refl
        (deep_either_nests abs_nests refl
        (deep_either_nests (two_nests w.Min tree.least) refl
        (deep_either_nests (two_nests w.Max tree.greatest) refl
        choice_nests))))))))

    module _ (operand : Deep Token Expr) (u : Level_law un_goes (λ n. below text n at_un) operand) where
      signed_nests : (k : TokenKind) (make : Token × Expr → Expr) → Nests sort max_depth bound false (first k) un_goes (λ n. make <$> kind k & below text n at_un) (signed_at operand k make)
      unfolding signed_at
      signed_nests k make = deep_map_nests make (deep_both_nests (flat_nests (one_takes sort (first k))) refl u)

      pub un_nests : Level_law un_goes (λ n. un text (below text n)) (un_from whole text operand)
      unfolding un_from
      un_nests = deep_wider un_first un_goes refl refl
          (deep_either_nests (signed_nests (Sign m.Minus) tree.negative) refl
          (deep_either_nests (signed_nests (Sign m.Plus) tree.positive) refl
          (deep_either_nests (signed_nests (Reserved w.Not) tree.negation) refl
          prim_nests)))

-- ---- the levels of operators

below_is : (text : Text) (l : Level) → IsBelow (λ n. level text (below text n) l) (λ n. below text n l)
unfolding below
below_is text l = record { nothing = λ a x d. d; opens = λ m a x d. d; closes = λ m a x d. d }

module _ (text : Text) (bound : ℕ) (c : bound ≤ max_depth + 1) where
  deeper : (l : Level) (goes_on : List ℕ) (r : Deep Token Expr) → Level_law text bound goes_on (λ n. level text (below text n) l) r → Level_law text bound goes_on (λ n. below text n l) (inside max_depth r)
  deeper l goes_on r h = inside_nests bound (λ n. below text n l) (below_is text l) (omega arith) c h

  module _ (u : Deep Token Expr) (h : Level_law text bound un_goes (λ n. un text (below text n)) u) where
    prod_nests : Level_law text bound prod_goes (λ n. prod text (below text n)) (prod_from u)
    unfolding prod_from factor_at
    prod_nests = chain_nests tree.product (λ n. below text n at_un) prod_goes (below_is text at_un) c h refl refl
        (deep_map_nests tree.factor (deep_both_nests (flat_nests (one_takes sort mul_signs)) refl (deeper at_un un_goes u h))) refl refl

    sum_nests : Level_law text bound sum_goes (λ n. sum text (below text n)) (sum_from u)
    unfolding sum_from term_at
    sum_nests = chain_nests tree.sum (λ n. below text n at_prod) sum_goes (below_is text at_prod) c prod_nests refl refl
        (deep_map_nests tree.term (deep_both_nests (flat_nests (one_takes sort sum_signs)) refl (deeper at_prod prod_goes (prod_from u) prod_nests))) refl refl

    cmp_nests : Level_law text bound cmp_goes (λ n. cmp text (below text n)) (cmp_from u)
    unfolding cmp_from compared_at
    cmp_nests = suffix_nests tree.comparison (λ n. below text n at_sum) cmp_goes (below_is text at_sum) c sum_nests refl
        (deep_both_nests (flat_nests (one_takes sort cmp_signs)) refl (deeper at_sum sum_goes (sum_from u) sum_nests)) refl refl

    and_nests : Level_law text bound and_goes (λ n. and text (below text n)) (and_from u)
    unfolding and_from and_next_at
    and_nests = chain_nests tree.conjunction (λ n. below text n at_cmp) and_goes (below_is text at_cmp) c cmp_nests refl refl
        (deep_map_nests tree.second (deep_both_nests (word_nests text bound w.And) refl (deeper at_cmp cmp_goes (cmp_from u) cmp_nests))) refl refl

    or_nests : Level_law text bound or_goes (λ n. or text (below text n)) (or_from u)
    unfolding or_from or_next_at
    or_nests = chain_nests tree.disjunction (λ n. below text n at_and) or_goes (below_is text at_and) c and_nests refl refl
        (deep_map_nests tree.second (deep_both_nests (word_nests text bound w.Or) refl (deeper at_and and_goes (and_from u) and_nests))) refl refl

    pub expr_nests : Level_law text bound expr_goes (λ n. expr text (below text n)) (expr_from u)
    unfolding expr_from implied_at
    expr_nests = suffix_nests tree.implication (λ n. below text n at_or) expr_goes (below_is text at_or) c or_nests refl
        (deep_both_nests (flat_nests (one_takes sort arrows)) refl (deeper at_or or_goes (or_from u) or_nests)) refl refl

pub un_at_nests : (text : Text) (bound : ℕ) → bound ≤ max_depth + 1 → Level_law text bound un_goes (λ n. un text (below text n)) (un_at text bound)
unfolding un_at
un_at_nests text zero c = none_nests (λ n. un text (below text n))
un_at_nests text (suc n) c =
    let less : n ≤ max_depth + 1 = omega arith in
    let h = un_at_nests text n less in
    un_nests text (suc n) (inside max_depth (expr_from (un_at text n))) (inside_nests (suc n) (λ n. below text n at_expr) (below_is text at_expr) (omega arith) c (expr_nests text n less (un_at text n) h))
    (inside max_depth (un_at text n)) (inside_nests (suc n) (λ n. below text n at_un) (below_is text at_un) (omega arith) c h)
