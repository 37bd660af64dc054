-- Which programs have a spelling, by their structure: names are identifiers, numbers have literals, each operand is of the level
-- that its place asks for, no list is empty where the grammar wants an item, nothing nests too deep, and no variable has an address.
use Rattle.std.specs.Prelude.{◌==◌, ℕ, zero, suc, nat_le, ℤ, pos, negsuc, Bool, true, false, ◌&&◌, List, [], ◌∷◌, Option, Some, None}
use Rattle.std.specs.List.{list_all}
use Rattle.grammar.specs.Pieces.{Text}
use Rattle.grammar.specs.Bytes.{begins_word, is_wordy}
use Rattle.st_ast.specs.Tokens.{kind_of_word, greatest}
use Rattle.st_ast.specs.Grammar.{code, Level, at_or, at_xor, at_and, at_equal, at_order, at_sum, at_product, at_unary, max_depth}
use Rattle.st_ast.specs.Tree.{Expr, Exprs, Factors, Terms, truth, number, named, paren, negation, complement, product, sum, order, equal, all_of, odd_of, any_of, absolute, least, greatest as larger, selection, no_exprs, exprs, no_factors, factors, no_terms, terms, Stm, Stms, Branches, Other, assign, choice, loop, no_stms, stms, no_branches, branches, no_other, other, Program}
use Rattle.st_ast.specs.declared.kinds.TokenKind.TheVariants as kinds
use Rattle.st_ast.specs.declared.tree.Address.{Address}
use Rattle.st_ast.specs.declared.tree.StVar.{StVar}
use Rattle.st_ast.specs.declared.tree.StTy.{StTy}
use Rattle.st_ast.specs.declared.tree.StTy.TheVariants as ty
use Rattle.st_ast.specs.declared.tree.StLit.{StLit}
use Rattle.st_ast.specs.declared.tree.StLit.TheVariants as lit

-- ---- names and numbers

-- a letter or an underscore, and then letters, digits and underscores
abbrev pub is_word_text : Text → Bool
is_word_text [] = false
is_word_text (b ∷ t) = begins_word b && list_all is_wordy t

-- an identifier that is no reserved word
abbrev pub is_name : Text → Bool
is_name w = is_word_text w && code kinds.Name == code (kind_of_word w)

-- in an expression a minus is a form of its own
abbrev pub has_literal : ℤ → Bool
has_literal (pos n) = nat_le n greatest
has_literal (negsuc n) = false

-- a bound and a first value may have a minus before the literal
abbrev pub has_signed_literal : ℤ → Bool
has_signed_literal (pos n) = nat_le n greatest
has_signed_literal (negsuc n) = nat_le (suc n) greatest

-- ---- expressions

-- the levels by number, the one with all expressions first
abbrev pub place_of_level : Level → ℕ
place_of_level at_or = 0
place_of_level at_xor = 1
place_of_level at_and = 2
place_of_level at_equal = 3
place_of_level at_order = 4
place_of_level at_sum = 5
place_of_level at_product = 6
place_of_level at_unary = 7

-- whether the expressions of the second level are expressions of the first
abbrev pub holds_level : Level → Level → Bool
holds_level l own = nat_le (place_of_level l) (place_of_level own)

-- what is asked of the parts of a form that may have at most that depth
abbrev pub inside : ℕ → (ℕ → Bool) → Bool
inside zero parts = false
inside (suc n) parts = parts n

abbrev pub has_factors : Factors → Bool
has_factors no_factors = false
has_factors (factors op e fs) = true

abbrev pub has_terms : Terms → Bool
has_terms no_terms = false
has_terms (terms minus e ts) = true

abbrev pub has_two : Exprs → Bool
has_two no_exprs = false
has_two (exprs e no_exprs) = false
has_two (exprs d (exprs e es)) = true

abbrev mutual
  -- an expression of a level, with at most that depth
  pub is_expr : ℕ → Level → Expr → Bool
  is_expr n l (truth b) = true
  is_expr n l (number z) = has_literal z
  is_expr n l (named x) = is_name x
  is_expr n l (paren e) = inside n (λ k. is_expr k at_or e)
  is_expr n l (negation e) = inside n (λ k. is_expr k at_unary e)
  is_expr n l (complement e) = inside n (λ k. is_expr k at_unary e)
  is_expr n l (product e rest) = holds_level l at_product && inside n (λ k. has_factors rest && (is_expr k at_unary e && are_factors k rest))
  is_expr n l (sum e rest) = holds_level l at_sum && inside n (λ k. has_terms rest && (is_expr k at_product e && are_terms k rest))
  is_expr n l (order a op b) = holds_level l at_order && inside n (λ k. is_expr k at_sum a && is_expr k at_sum b)
  is_expr n l (equal a same b) = holds_level l at_equal && inside n (λ k. is_expr k at_order a && is_expr k at_order b)
  is_expr n l (all_of es) = holds_level l at_and && inside n (λ k. has_two es && are_exprs k at_equal es)
  is_expr n l (odd_of es) = holds_level l at_xor && inside n (λ k. has_two es && are_exprs k at_and es)
  is_expr n l (any_of es) = holds_level l at_or && inside n (λ k. has_two es && are_exprs k at_xor es)
  is_expr n l (absolute e) = inside n (λ k. is_expr k at_or e)
  is_expr n l (least a b) = inside n (λ k. is_expr k at_or a && is_expr k at_or b)
  is_expr n l (larger a b) = inside n (λ k. is_expr k at_or a && is_expr k at_or b)
  is_expr n l (selection g a b) = inside n (λ k. is_expr k at_or g && (is_expr k at_or a && is_expr k at_or b))

  pub are_factors : ℕ → Factors → Bool
  are_factors n no_factors = true
  are_factors n (factors op e fs) = is_expr n at_unary e && are_factors n fs

  pub are_terms : ℕ → Terms → Bool
  are_terms n no_terms = true
  are_terms n (terms minus e ts) = is_expr n at_product e && are_terms n ts

  pub are_exprs : ℕ → Level → Exprs → Bool
  are_exprs n l no_exprs = true
  are_exprs n l (exprs e es) = is_expr n l e && are_exprs n l es

-- an expression as it stands in a statement
abbrev pub is_whole_expr : Expr → Bool
is_whole_expr e = is_expr max_depth at_or e

-- ---- statements

abbrev pub has_branches : Branches → Bool
has_branches no_branches = false
has_branches (branches c ss bs) = true

abbrev mutual
  -- a statement with at most that depth
  pub is_stm : ℕ → Stm → Bool
  is_stm n (assign x e) = is_name x && is_whole_expr e
  is_stm n (choice bs o) = has_branches bs && inside n (λ k. are_branches k bs && is_other k o)
  is_stm n (loop c ss) = is_whole_expr c && inside n (λ k. are_stms k ss)

  pub are_stms : ℕ → Stms → Bool
  are_stms n no_stms = true
  are_stms n (stms s ss) = is_stm n s && are_stms n ss

  pub are_branches : ℕ → Branches → Bool
  are_branches n no_branches = true
  are_branches n (branches c ss bs) = is_whole_expr c && (are_stms n ss && are_branches n bs)

  pub is_other : ℕ → Other → Bool
  is_other n no_other = true
  is_other n (other ss) = are_stms n ss

-- ---- declarations

abbrev pub is_type_spelled : StTy → Bool
is_type_spelled ty.Bool = true
is_type_spelled ty.Lint = true
is_type_spelled (ty.Range lo hi) = has_signed_literal lo && has_signed_literal hi

abbrev pub is_first_spelled : Option StLit → Bool
is_first_spelled None = true
is_first_spelled (Some (lit.Bool b)) = true
is_first_spelled (Some (lit.Int z)) = has_signed_literal z

abbrev pub is_without_address : Option Address → Bool
is_without_address None = true
is_without_address (Some a) = false

abbrev pub is_declaration : StVar → Bool
is_declaration v = is_name v.name && (is_type_spelled v.ty && (is_first_spelled v.init && is_without_address v.at))

abbrev pub are_declarations : List StVar → Bool
are_declarations [] = true
are_declarations (v ∷ vs) = is_declaration v && are_declarations vs

-- ---- programs

abbrev pub is_spelled : Program → Bool
is_spelled p = is_name p.name && (are_declarations p.vars && are_stms max_depth p.body)
