-- Helper of the code: reading Structured Text with one token of sight: a reader for each production of the grammar.
use Rattle.std.specs.Prelude.{ℕ, zero, suc, ◌+◌, nat_eq, ℤ, pos, neg_ℤ, Bool, true, false, ◌||◌, List, [], ◌∷◌, length, map, Option, Some, None, if◌then◌else◌}
use Rattle.grammar.specs.Lang.{has}
use Rattle.grammar.specs.Pieces.{Text}
use Rattle.grammar.specs.Reader.{Read, Reader, Deep, and_then, one_at, none_at, both_at, map_at, either_at, optional_at, many_at, list_at, flat_at, deep_both, deep_map, deep_from, inside, chained}
use Rattle.st_ast.specs.Tokens.{Token, number_of}
use Rattle.st_ast.specs.declared.kinds.TokenKind.{TokenKind}
use Rattle.st_ast.specs.declared.kinds.TokenKind.TheVariants as kinds
use Rattle.st_ast.specs.Tree.{Expr, truth, number, named, paren, negation, complement, absolute, least, greatest, selection, order, equal, Stm, Stms, assign, choice, loop, stms_of, Program}
use Rattle.st_ast.specs.Parts.{branches_of, other_of}
use Rattle.st_ast.specs.Grammar.{code, sort, second, middle, text_of, products, sums, orders, equalities, order_of, is_equality, Others, product_of, sum_of, all_from, odd_from, any_from, after_kind, max_depth, without_word, subrange_of, value_of_init}
use Rattle.grammar.specs.Loops.{flat_after}
use Rattle.st_ast.specs.declared.tree.StVar.{StVar}
use Rattle.st_ast.specs.declared.tree.StTy.{StTy}
use Rattle.st_ast.specs.declared.tree.StTy.TheVariants as ty
use Rattle.st_ast.specs.declared.tree.StLit.{StLit}
use Rattle.st_ast.specs.declared.tree.StLit.TheVariants as lit
use Rattle.st_ast.specs.declared.tree.StClass.{StClass}
use Rattle.st_ast.specs.declared.tree.StClass.TheVariants as class

abbrev pub codes_of : List TokenKind → List ℕ
codes_of = map code

abbrev pub first : TokenKind → List ℕ
first kind = code kind ∷ []

abbrev pub word_at : TokenKind → Reader Token Token
word_at kind = one_at sort (first kind)

abbrev pub flat_word : TokenKind → Deep Token Token
flat_word kind = flat_at (word_at kind)

unfoldable pub identifier_at : Reader Token Text
identifier_at = map_at text_of (word_at kinds.Name)

abbrev pub natural_of : Token → ℤ
natural_of t = pos (number_of t.text)

unfoldable pub natural_at : Reader Token ℤ
natural_at = map_at natural_of (word_at kinds.Literal)

-- ---- what an expression is made of

abbrev pub truth_of : Bool → Token → Expr
truth_of b t = truth b

abbrev pub negation_of : Token × Expr → Expr
negation_of (w, e) = negation e

abbrev pub complement_of : Token × Expr → Expr
complement_of (w, e) = complement e

abbrev pub absolute_of : Token × Expr → Expr
absolute_of (w, e) = absolute e

abbrev pub least_of : Token × (Expr × Expr) → Expr
least_of (w, (a, b)) = least a b

abbrev pub greatest_of : Token × (Expr × Expr) → Expr
greatest_of (w, (a, b)) = greatest a b

abbrev pub selection_of : Token × (Expr × (Expr × Expr)) → Expr
selection_of (w, (g, (a, b))) = selection g a b

abbrev pub two_of : Token × (Expr × (Token × (Expr × Token))) → Expr × Expr
two_of (opening, (a, (s, (b, closing)))) = (a, b)

abbrev pub three_of : Token × (Expr × (Token × (Expr × (Token × (Expr × Token))))) → Expr × (Expr × Expr)
three_of (opening, (a, (s, (b, (t, (c, closing)))))) = (a, (b, c))

-- the operand before an order or an equality and the last one after it
abbrev pub ordered_of : Expr → Others → Expr
ordered_of a [] = a
ordered_of a (o ∷ []) = order a (order_of o.0) o.1
ordered_of a (o ∷ p ∷ more) = ordered_of a (p ∷ more)

abbrev pub equated_of : Expr → Others → Expr
equated_of a [] = a
equated_of a (o ∷ []) = equal a (is_equality o.0) o.1
equated_of a (o ∷ p ∷ more) = equated_of a (p ∷ more)

-- ---- expressions, with their depth

-- The reader of whole expressions as they stand inside a form.
module _ (within : Deep Token Expr) where
  unfoldable pub one_argument_at : Deep Token Expr
  one_argument_at = deep_map middle (deep_both (flat_word kinds.Open) (deep_both within (flat_word kinds.Close)))

  unfoldable pub two_arguments_at : Deep Token (Expr × Expr)
  two_arguments_at = deep_map two_of (deep_both (flat_word kinds.Open) (deep_both within (deep_both (flat_word kinds.Comma) (deep_both within (flat_word kinds.Close)))))

  unfoldable pub three_arguments_at : Deep Token (Expr × (Expr × Expr))
  three_arguments_at = deep_map three_of (deep_both (flat_word kinds.Open) (deep_both within (deep_both (flat_word kinds.Comma)
      (deep_both within (deep_both (flat_word kinds.Comma) (deep_both within (flat_word kinds.Close)))))))

  unfoldable pub function_at : Deep Token Expr
  function_at = either_at sort (first kinds.Abs) (deep_map absolute_of (deep_both (flat_word kinds.Abs) one_argument_at))
      (either_at sort (first kinds.Min) (deep_map least_of (deep_both (flat_word kinds.Min) two_arguments_at))
      (either_at sort (first kinds.Max) (deep_map greatest_of (deep_both (flat_word kinds.Max) two_arguments_at))
      (deep_map selection_of (deep_both (flat_word kinds.Sel) three_arguments_at))))

  unfoldable pub prim_at : Deep Token Expr
  prim_at = either_at sort (first kinds.True) (deep_map (truth_of true) (flat_word kinds.True))
      (either_at sort (first kinds.False) (deep_map (truth_of false) (flat_word kinds.False))
      (either_at sort (first kinds.Literal) (deep_map number (flat_at natural_at))
      (either_at sort (first kinds.Name) (deep_map named (flat_at identifier_at))
      (either_at sort (first kinds.Open) (deep_map paren one_argument_at)
      function_at))))

  -- over the reader of the operand after `-` or NOT
  unfoldable pub unary_from : Deep Token Expr → Deep Token Expr
  unary_from operand = either_at sort (first kinds.Dash) (deep_map negation_of (deep_both (flat_word kinds.Dash) operand))
      (either_at sort (first kinds.Not) (deep_map complement_of (deep_both (flat_word kinds.Not) operand)) prim_at)

-- The levels of operators are numbered from that which binds most.
abbrev pub operators : ℕ → List TokenKind
operators zero = products
operators (suc zero) = sums
operators (suc (suc zero)) = orders
operators (suc (suc (suc zero))) = equalities
operators (suc (suc (suc (suc zero)))) = kinds.And ∷ []
operators (suc (suc (suc (suc (suc zero))))) = kinds.Xor ∷ []
operators (suc (suc (suc (suc (suc (suc n)))))) = kinds.Or ∷ []

-- whether a level has one operand after the first at the most: orders and equalities have
abbrev pub has_pairs : ℕ → Bool
has_pairs l = nat_eq l 2 || nat_eq l 3

-- the most operands after the first, of so many tokens
abbrev pub most_others : ℕ → ℕ → ℕ
most_others l n = if has_pairs l then 1 else n

abbrev pub made_at : ℕ → Expr → Others → Expr
made_at zero = product_of
made_at (suc zero) = sum_of
made_at (suc (suc zero)) = ordered_of
made_at (suc (suc (suc zero))) = equated_of
made_at (suc (suc (suc (suc zero)))) = all_from
made_at (suc (suc (suc (suc (suc zero))))) = odd_from
made_at (suc (suc (suc (suc (suc (suc n)))))) = any_from

-- an operator of the level, and an operand by the reader of the level below
unfoldable pub other_at : ℕ → Deep Token Expr → Deep Token (TokenKind × Expr)
other_at l r = deep_map after_kind (deep_both (flat_at (one_at sort (codes_of (operators l)))) (inside max_depth r))

unfoldable pub others_at : ℕ → Deep Token Expr → Deep Token Others
others_at l r ts = deep_from sort (codes_of (operators l)) (other_at l r) (most_others l (length ts)) ts

-- a first operand of a level as one form with those after it
abbrev pub form_at : ℕ → Deep Token Expr → Expr × ℕ → Reader Token (Expr × ℕ)
form_at l r first us = and_then (others_at l r us) (λ more vs. chained max_depth (made_at l) first more vs)

unfoldable pub joined_at : ℕ → Deep Token Expr → Deep Token Expr
joined_at l r ts = and_then (r ts) (form_at l r)

-- so many levels over the reader of operands
unfoldable pub level_at : ℕ → Deep Token Expr → Deep Token Expr
level_at zero unary = unary
level_at (suc l) unary = joined_at l (level_at l unary)

abbrev pub levels : ℕ
levels = 7

-- of so many levels from one on, the lowest that has operators of the kind with this number, or the one after them
abbrev pub lowest_of : ℕ → ℕ → ℕ → ℕ
lowest_of zero l c = l
lowest_of (suc n) l c = if has (codes_of (operators l)) c then l else lowest_of n (suc l) c

abbrev pub next_kind : List Token → Option TokenKind
next_kind [] = None
next_kind (t ∷ ts) = Some t.kind

-- the lowest level of which an operator comes next, or the number of levels
abbrev pub level_of_kind : Option TokenKind → ℕ
level_of_kind None = levels
level_of_kind (Some kind) = lowest_of levels 0 (code kind)

abbrev pub next_level : List Token → ℕ
next_level ts = level_of_kind (next_kind ts)

-- The number bounds how deep the calls go.
unfoldable pub unary_at : ℕ → Deep Token Expr
unary_at zero = none_at
unary_at (suc n) = unary_from (inside max_depth (level_at levels (unary_at n))) (inside max_depth (unary_at n))

-- a whole expression inside a form
abbrev pub within_at : ℕ → Deep Token Expr
within_at n = inside max_depth (level_at levels (unary_at n))

-- one more than the deepest expression
abbrev pub max_calls : ℕ
max_calls = max_depth + 1

unfoldable pub expression_at : Reader Token Expr
expression_at = map_at (λ (e, depth). e) (level_at levels (unary_at max_calls))

-- ---- statements

abbrev pub assign_of : Text × (Token × (Expr × Token)) → Stm
assign_of (x, (s, (e, end))) = assign x e

unfoldable pub assignment_at : Reader Token Stm
assignment_at = map_at assign_of (both_at identifier_at (both_at (word_at kinds.Assigns) (both_at expression_at (word_at kinds.Semicolon))))

abbrev pub guarded_of : Expr × (Token × List Stm) → Expr × Stms
guarded_of (c, (w, ss)) = (c, stms_of ss)

abbrev pub choice_of : Token × (List (Expr × Stms) × (Option (List Stm) × (Token × Token))) → Stm
choice_of (w, (bs, (o, end))) = choice (branches_of bs) (other_of o)

abbrev pub loop_of : Token × ((Expr × Stms) × (Token × Token)) → Stm
loop_of (w, ((c, ss), end)) = loop c ss

-- The reader of the statements between an opening word and its end.
module _ (body : Reader Token (List Stm)) where
  unfoldable pub guarded_at : TokenKind → Reader Token (Expr × Stms)
  guarded_at kind = map_at guarded_of (both_at expression_at (both_at (word_at kind) body))

  unfoldable pub elsif_at : Reader Token (Expr × Stms)
  elsif_at = map_at second (both_at (word_at kinds.Elsif) (guarded_at kinds.Then))

  abbrev pub elsifs_at : Reader Token (List (Expr × Stms))
  elsifs_at = many_at sort (first kinds.Elsif) elsif_at

  -- the branches after IF
  unfoldable pub branches_at : Reader Token (List (Expr × Stms))
  branches_at = list_at sort (first kinds.Elsif) (guarded_at kinds.Then) elsif_at

  unfoldable pub else_at : Reader Token (Option (List Stm))
  else_at = map_at without_word (optional_at sort (first kinds.Else) (both_at (word_at kinds.Else) body))

  unfoldable pub conditional_at : Reader Token Stm
  conditional_at = map_at choice_of (both_at (word_at kinds.If) (both_at branches_at (both_at else_at (both_at (word_at kinds.EndIf) (word_at kinds.Semicolon)))))

  unfoldable pub repetition_at : Reader Token Stm
  repetition_at = map_at loop_of (both_at (word_at kinds.While) (both_at (guarded_at kinds.Do) (both_at (word_at kinds.EndWhile) (word_at kinds.Semicolon))))

  -- the form of a statement is known at its first token
  abbrev pub statement_from : Reader Token Stm
  statement_from = either_at sort (first kinds.Name) assignment_at (either_at sort (first kinds.If) conditional_at repetition_at)

-- what begins a statement
abbrev pub statement_first : List ℕ
statement_first = codes_of (kinds.Name ∷ kinds.If ∷ kinds.While ∷ [])

-- The statements whose depth is at most the number.
unfoldable pub statement_at : ℕ → Reader Token Stm
statement_at zero = assignment_at
statement_at (suc n) = statement_from (many_at sort statement_first (statement_at n))

abbrev pub statements_at : ℕ → Reader Token (List Stm)
statements_at n = many_at sort statement_first (statement_at n)

-- ---- declarations

abbrev pub opposite_of : Token × ℤ → ℤ
opposite_of (s, z) = neg_ℤ z

unfoldable pub signed_at : Reader Token ℤ
signed_at = either_at sort (first kinds.Dash) (map_at opposite_of (both_at (word_at kinds.Dash) natural_at)) natural_at

abbrev pub bool_of : Bool → Token → StLit
bool_of b t = lit.Bool b

unfoldable pub first_value_at : Reader Token StLit
first_value_at = either_at sort (first kinds.True) (map_at (bool_of true) (word_at kinds.True))
    (either_at sort (first kinds.False) (map_at (bool_of false) (word_at kinds.False))
    (map_at lit.Int signed_at))

abbrev pub bool_type : Token → StTy
bool_type t = ty.Bool

abbrev pub number_type : Token × Option (Token × (ℤ × (Token × (ℤ × Token)))) → StTy
number_type (w, o) = subrange_of o

unfoldable pub subrange_at : Reader Token (Option (Token × (ℤ × (Token × (ℤ × Token)))))
subrange_at = optional_at sort (first kinds.Open) (both_at (word_at kinds.Open) (both_at signed_at (both_at (word_at kinds.Dots) (both_at signed_at (word_at kinds.Close)))))

unfoldable pub type_at : Reader Token StTy
type_at = either_at sort (first kinds.Bool) (map_at bool_type (word_at kinds.Bool)) (map_at number_type (both_at (word_at kinds.Lint) subrange_at))

abbrev pub variable_of : StClass → Text × (Token × (StTy × (Option StLit × Token))) → StVar
variable_of k (x, (s, (t, (v, end)))) = record { name = x; class = k; ty = t; init = v; at = None }

unfoldable pub init_at : Reader Token (Option StLit)
init_at = map_at value_of_init (optional_at sort (first kinds.Assigns) (both_at (word_at kinds.Assigns) first_value_at))

unfoldable pub declaration_at : StClass → Reader Token StVar
declaration_at k = map_at (variable_of k) (both_at identifier_at (both_at (word_at kinds.Colon) (both_at type_at (both_at init_at (word_at kinds.Semicolon)))))

abbrev pub ended_variables : List StVar × Token → List StVar
ended_variables (vars, end) = vars

-- a block after its first word
unfoldable pub rest_at : StClass → Reader Token (List StVar)
rest_at k = map_at ended_variables (both_at (many_at sort (first kinds.Name) (declaration_at k)) (word_at kinds.EndVar))

unfoldable pub block_of_at : TokenKind → StClass → Reader Token (List StVar)
block_of_at kind k = map_at second (both_at (word_at kind) (rest_at k))

-- what stands after VAR
unfoldable pub plain_at : Reader Token (List StVar)
plain_at = either_at sort (first kinds.Constant) (block_of_at kinds.Constant class.Constant) (rest_at class.Plain)

unfoldable pub block_at : Reader Token (List StVar)
block_at = either_at sort (first kinds.Var) (map_at second (both_at (word_at kinds.Var) plain_at))
    (either_at sort (first kinds.VarInput) (block_of_at kinds.VarInput class.Input) (block_of_at kinds.VarOutput class.Output))

-- what begins a block of declarations
abbrev pub block_first : List ℕ
block_first = codes_of (kinds.Var ∷ kinds.VarInput ∷ kinds.VarOutput ∷ [])

-- ---- programs

-- the declarations of all blocks as one list
unfoldable pub variables_at : Reader Token (List StVar)
variables_at ts = flat_after [] (many_at sort block_first block_at ts)

abbrev pub made_of : Token × (Text × (List StVar × (List Stm × Token))) → Program
made_of (w, (x, (vars, (ss, end)))) = record { name = x; vars = vars; body = stms_of ss }

unfoldable pub program_at : Reader Token Program
program_at = map_at made_of (both_at (word_at kinds.Program) (both_at identifier_at (both_at variables_at
    (both_at (statements_at max_depth) (word_at kinds.EndProgram)))))

-- where nothing is left
abbrev pub ended : Program → List Token → Option Program
ended p [] = Some p
ended p (t ∷ ts) = None

abbrev pub finished : Read Token Program → Option Program
finished None = None
finished (Some q) = ended q.0 q.1

-- the program that the tokens derive, all of them
unfoldable pub program_of : List Token → Option Program
program_of ts = finished (program_at ts)
