-- The grammar of Structured Text, a line for each production (IEC 61131-3, "Structured Text").
--
--   program = "PROGRAM" ID {block} {stmt} "END_PROGRAM"
--   block   = ("VAR" ["CONSTANT"] | "VAR_INPUT" | "VAR_OUTPUT") {vardecl} "END_VAR"
--   vardecl = ID ":" type [":=" literal] ";"
--   type    = "BOOL" | "LINT" ["(" signed ".." signed ")"]
--   signed  = ["-"] NUMBER
--   literal = "TRUE" | "FALSE" | signed
--   stmt    = ID ":=" e ";"
--           | "IF" e "THEN" {stmt} {"ELSIF" e "THEN" {stmt}} ["ELSE" {stmt}] "END_IF" ";"
--           | "WHILE" e "DO" {stmt} "END_WHILE" ";"
--   e       = x {"OR" x}
--   x       = a {"XOR" a}
--   a       = q {("AND" | "&") q}
--   q       = o [("=" | "<>") o]
--   o       = s [("<" | ">" | "<=" | ">=") s]
--   s       = p {("+" | "-") p}
--   p       = u {("*" | "/" | "MOD") u}
--   u       = ("-" | "NOT") u | prim
--   prim    = "TRUE" | "FALSE" | NUMBER | ID | "(" e ")" | "ABS" "(" e ")"
--           | ("MIN" | "MAX") "(" e "," e ")" | "SEL" "(" e "," e "," e ")"
use Rattle.std.specs.Prelude.{ℕ, zero, suc, ℤ, pos, neg_ℤ, Bool, true, false, List, [], ◌∷◌, map, Option, Some, None}
use Rattle.grammar.specs.Pieces.{Text}
use Rattle.grammar.specs.Lang.{Lang, one, ◌&◌, ◌∣◌, ◌<$>◌, many, some, optional, flat}
use Rattle.st_ast.specs.Tokens.{Token, number_of}
use Rattle.st_ast.specs.declared.kinds.TokenKind.{TokenKind}
use Rattle.st_ast.specs.declared.kinds.TokenKind.TheVariants as kinds
use Rattle.st_ast.specs.Tree.{Expr, truth, number, named, paren, negation, complement, product, sum, order, equal, all_of, odd_of, any_of, absolute, least, greatest, selection, exprs_of, Stm, Stms, assign, choice, loop, stms_of, Program}
use Rattle.st_ast.specs.Parts.{factors_of, terms_of, branches_of, other_of}
use Rattle.st_ast.specs.declared.tree.StMul.{StMul}
use Rattle.st_ast.specs.declared.tree.StMul.TheVariants as mul
use Rattle.st_ast.specs.declared.tree.StOrder.{StOrder}
use Rattle.st_ast.specs.declared.tree.StOrder.TheVariants as cmp
use Rattle.st_ast.specs.declared.tree.StVar.{StVar}
use Rattle.st_ast.specs.declared.tree.StTy.{StTy}
use Rattle.st_ast.specs.declared.tree.StTy.TheVariants as ty
use Rattle.st_ast.specs.declared.tree.StLit.{StLit}
use Rattle.st_ast.specs.declared.tree.StLit.TheVariants as lit
use Rattle.st_ast.specs.declared.tree.StClass.{StClass}
use Rattle.st_ast.specs.declared.tree.StClass.TheVariants as class

-- the number of a kind, in the order of declaration
abbrev pub code : TokenKind → ℕ
code kinds.Name = 0
code kinds.Literal = 1
code kinds.Program = 2
code kinds.EndProgram = 3
code kinds.Var = 4
code kinds.Constant = 5
code kinds.VarInput = 6
code kinds.VarOutput = 7
code kinds.EndVar = 8
code kinds.Bool = 9
code kinds.Lint = 10
code kinds.True = 11
code kinds.False = 12
code kinds.If = 13
code kinds.Then = 14
code kinds.Elsif = 15
code kinds.Else = 16
code kinds.EndIf = 17
code kinds.While = 18
code kinds.Do = 19
code kinds.EndWhile = 20
code kinds.Not = 21
code kinds.And = 22
code kinds.Xor = 23
code kinds.Or = 24
code kinds.Mod = 25
code kinds.Abs = 26
code kinds.Min = 27
code kinds.Max = 28
code kinds.Sel = 29
code kinds.Semicolon = 30
code kinds.Colon = 31
code kinds.Assigns = 32
code kinds.Dots = 33
code kinds.Open = 34
code kinds.Close = 35
code kinds.Comma = 36
code kinds.Plus = 37
code kinds.Dash = 38
code kinds.Times = 39
code kinds.Slash = 40
code kinds.Equals = 41
code kinds.Differs = 42
code kinds.Less = 43
code kinds.Greater = 44
code kinds.AtMost = 45
code kinds.AtLeast = 46
code kinds.Outside = 47

abbrev pub sort : Token → ℕ
sort t = code t.kind

-- a token of this kind
abbrev pub word : TokenKind → Lang Token Token
word kind = one sort (code kind ∷ [])

-- a token of one of these kinds
abbrev pub word_of : List TokenKind → Lang Token Token
word_of ks = one sort (map code ks)

abbrev pub second : {A B : Type 0} → A × B → B
second (a, b) = b

-- a part with a token before it and one after it
abbrev pub middle : {A : Type 0} → Token × (A × Token) → A
middle (opening, (a, closing)) = a

abbrev pub text_of : Token → Text
text_of t = t.text

abbrev pub identifier : Lang Token Text
identifier = text_of <$> word kinds.Name

abbrev pub natural : Lang Token ℤ
natural = (λ t. pos (number_of t.text)) <$> word kinds.Literal

-- ---- operators

abbrev pub products : List TokenKind
products = kinds.Times ∷ kinds.Slash ∷ kinds.Mod ∷ []

abbrev pub sums : List TokenKind
sums = kinds.Plus ∷ kinds.Dash ∷ []

abbrev pub orders : List TokenKind
orders = kinds.Less ∷ kinds.Greater ∷ kinds.AtMost ∷ kinds.AtLeast ∷ []

abbrev pub equalities : List TokenKind
equalities = kinds.Equals ∷ kinds.Differs ∷ []

-- which operator a token of one of the kinds above is
abbrev pub mul_of : TokenKind → StMul
mul_of kinds.Slash = mul.Div
mul_of kinds.Mod = mul.Mod
mul_of _ = mul.Times

abbrev pub is_minus : TokenKind → Bool
is_minus kinds.Dash = true
is_minus _ = false

abbrev pub order_of : TokenKind → StOrder
order_of kinds.Greater = cmp.Gt
order_of kinds.AtMost = cmp.Le
order_of kinds.AtLeast = cmp.Ge
order_of _ = cmp.Lt

abbrev pub is_equality : TokenKind → Bool
is_equality kinds.Equals = true
is_equality _ = false

-- ---- expressions

-- the levels of expressions, from e down to u
pub data Level : Type 0 where
  at_or at_xor at_and at_equal at_order at_sum at_product at_unary : Level

-- what the operands of a level are made into, from the first and the others, each after the kind of its operator
abbrev pub Others : Type 0
Others = List (TokenKind × Expr)

abbrev pub product_of : Expr → Others → Expr
product_of e more = product e (factors_of (map (λ (o : TokenKind × Expr). (mul_of o.0, o.1)) more))

abbrev pub sum_of : Expr → Others → Expr
sum_of e more = sum e (terms_of (map (λ (o : TokenKind × Expr). (is_minus o.0, o.1)) more))

abbrev pub all_from : Expr → Others → Expr
all_from e more = all_of (exprs_of (e ∷ map second more))

abbrev pub odd_from : Expr → Others → Expr
odd_from e more = odd_of (exprs_of (e ∷ map second more))

abbrev pub any_from : Expr → Others → Expr
any_from e more = any_of (exprs_of (e ∷ map second more))

-- an operand after a token, with the kind of that
abbrev pub after_kind : Token × Expr → TokenKind × Expr
after_kind (t, e) = (t.kind, e)

-- each level over the languages of what stands inside a form
module _ (inner : Level → Lang Token Expr) where
  -- the arguments of a function
  abbrev pub one_argument : Lang Token Expr
  one_argument = middle <$> word kinds.Open & inner at_or & word kinds.Close

  abbrev pub two_arguments : Lang Token (Expr × Expr)
  two_arguments = (λ ((opening, (a, (s, (b, closing)))) : Token × (Expr × (Token × (Expr × Token)))). (a, b))
      <$> word kinds.Open & inner at_or & word kinds.Comma & inner at_or & word kinds.Close

  abbrev pub three_arguments : Lang Token (Expr × (Expr × Expr))
  three_arguments = (λ ((opening, (a, (s, (b, (t, (c, closing)))))) : Token × (Expr × (Token × (Expr × (Token × (Expr × Token)))))). (a, (b, c)))
      <$> word kinds.Open & inner at_or & word kinds.Comma & inner at_or & word kinds.Comma & inner at_or & word kinds.Close

  abbrev pub prim : Lang Token Expr
  prim = (λ (t : Token). truth true) <$> word kinds.True
      ∣ (λ (t : Token). truth false) <$> word kinds.False
      ∣ number <$> natural
      ∣ named <$> identifier
      ∣ paren <$> one_argument
      ∣ (λ ((w, e) : Token × Expr). absolute e) <$> word kinds.Abs & one_argument
      ∣ (λ ((w, (a, b)) : Token × (Expr × Expr)). least a b) <$> word kinds.Min & two_arguments
      ∣ (λ ((w, (a, b)) : Token × (Expr × Expr)). greatest a b) <$> word kinds.Max & two_arguments
      ∣ (λ ((w, (g, (a, b))) : Token × (Expr × (Expr × Expr))). selection g a b) <$> word kinds.Sel & three_arguments

  abbrev pub unary : Lang Token Expr
  unary = (λ ((w, e) : Token × Expr). negation e) <$> word kinds.Dash & inner at_unary
      ∣ (λ ((w, e) : Token × Expr). complement e) <$> word kinds.Not & inner at_unary ∣ prim

  -- operands of a level, with at least one operator
  abbrev pub operands : Level → List TokenKind → Lang Token (Expr × List (Token × Expr))
  operands l ks = inner l & some (word_of ks & inner l)

  abbrev pub made : (Expr → Others → Expr) → Expr × List (Token × Expr) → Expr
  made make (e, more) = make e (map after_kind more)

  abbrev pub multiplied : Lang Token Expr
  multiplied = unary ∣ made product_of <$> operands at_unary products

  abbrev pub summed : Lang Token Expr
  summed = multiplied ∣ made sum_of <$> operands at_product sums

  abbrev pub ordered : Lang Token Expr
  ordered = summed ∣ (λ ((a, (s, b)) : Expr × (Token × Expr)). order a (order_of s.kind) b) <$> inner at_sum & word_of orders & inner at_sum

  abbrev pub equated : Lang Token Expr
  equated = ordered ∣ (λ ((a, (s, b)) : Expr × (Token × Expr)). equal a (is_equality s.kind) b) <$> inner at_order & word_of equalities & inner at_order

  abbrev pub conjunction : Lang Token Expr
  conjunction = equated ∣ made all_from <$> operands at_equal (kinds.And ∷ [])

  abbrev pub exclusion : Lang Token Expr
  exclusion = conjunction ∣ made odd_from <$> operands at_and (kinds.Xor ∷ [])

  abbrev pub disjunction : Lang Token Expr
  disjunction = exclusion ∣ made any_from <$> operands at_xor (kinds.Or ∷ [])

  abbrev pub level : Level → Lang Token Expr
  level at_or = disjunction
  level at_xor = exclusion
  level at_and = conjunction
  level at_equal = equated
  level at_order = ordered
  level at_sum = summed
  level at_product = multiplied
  level at_unary = unary

-- the deepest expression and the deepest statement that are read
abbrev pub max_depth : ℕ
max_depth = 400

-- The expressions of a level whose depth is below the number. A name and a literal have depth 0, and every other form,
-- parentheses included, one more than its deepest part.
unfoldable pub below : ℕ → Level → Lang Token Expr
below zero l e ts = ⊥
below (suc n) l e ts = level (below n) l e ts

-- the tokens derive the expression, whose depth is at most 400
unfoldable pub expression : Lang Token Expr
expression e ts = disjunction (below max_depth) e ts

-- ---- statements

abbrev pub assignment : Lang Token Stm
assignment = (λ ((x, (s, (e, end))) : Text × (Token × (Expr × Token))). assign x e) <$> identifier & word kinds.Assigns & expression & word kinds.Semicolon

-- what stands after ELSE
abbrev pub without_word : Option (Token × List Stm) → Option (List Stm)
without_word None = None
without_word (Some (w, ss)) = Some ss

-- what stands between an opening word and its end
module _ (body : Lang Token (List Stm)) where
  -- a condition, its closing word and its statements
  abbrev pub guarded : TokenKind → Lang Token (Expr × Stms)
  guarded kind = (λ ((c, (w, ss)) : Expr × (Token × List Stm)). (c, stms_of ss)) <$> expression & word kind & body

  abbrev pub conditional : Lang Token Stm
  conditional =
      (λ ((w, (b, (bs, (o, end)))) : Token × ((Expr × Stms) × (List (Token × (Expr × Stms)) × (Option (Token × List Stm) × (Token × Token))))).
      choice (branches_of (b ∷ map second bs)) (other_of (without_word o)))
      <$> word kinds.If & guarded kinds.Then & many (word kinds.Elsif & guarded kinds.Then) & optional (word kinds.Else & body) & word kinds.EndIf & word kinds.Semicolon

  abbrev pub repetition : Lang Token Stm
  repetition =
      (λ ((w, ((c, ss), end)) : Token × ((Expr × Stms) × (Token × Token))). loop c ss)
      <$> word kinds.While & guarded kinds.Do & word kinds.EndWhile & word kinds.Semicolon

-- The statements whose depth is at most the number. An assignment has depth 0, and IF and WHILE one more than their
-- deepest statement, and 1 where they hold none.
unfoldable pub statement : ℕ → Lang Token Stm
statement zero s ts = assignment s ts
statement (suc n) s ts = (assignment ∣ conditional (many (statement n)) ∣ repetition (many (statement n))) s ts

-- ---- declarations

abbrev pub signed : Lang Token ℤ
signed = (λ ((s, z) : Token × ℤ). neg_ℤ z) <$> word kinds.Dash & natural ∣ natural

abbrev pub first_value : Lang Token StLit
first_value = (λ (t : Token). lit.Bool true) <$> word kinds.True ∣ (λ (t : Token). lit.Bool false) <$> word kinds.False ∣ lit.Int <$> signed

abbrev pub subrange_of : Option (Token × (ℤ × (Token × (ℤ × Token)))) → StTy
subrange_of None = ty.Lint
subrange_of (Some (opening, (lo, (s, (hi, closing))))) = ty.Range lo hi

abbrev pub type_use : Lang Token StTy
type_use = (λ (t : Token). ty.Bool) <$> word kinds.Bool
    ∣ (λ ((w, o) : Token × Option (Token × (ℤ × (Token × (ℤ × Token))))). subrange_of o) <$> word kinds.Lint & optional (word kinds.Open & signed & word kinds.Dots & signed & word kinds.Close)

abbrev pub value_of_init : Option (Token × StLit) → Option StLit
value_of_init None = None
value_of_init (Some (s, v)) = Some v

-- a declaration, of the class of its block
abbrev pub declaration : StClass → Lang Token StVar
declaration k =
    (λ ((x, (s, (t, (o, end)))) : Text × (Token × (StTy × (Option (Token × StLit) × Token)))). record { name = x; class = k; ty = t; init = value_of_init o; at = None })
    <$> identifier & word kinds.Colon & type_use & optional (word kinds.Assigns & first_value) & word kinds.Semicolon

abbrev pub block_of : TokenKind → StClass → Lang Token (List StVar)
block_of kind k = middle <$> word kind & many (declaration k) & word kinds.EndVar

-- the variables after CONSTANT
abbrev pub constants : Lang Token (List StVar)
constants = second <$> word kinds.Var & block_of kinds.Constant class.Constant

abbrev pub block : Lang Token (List StVar)
block = block_of kinds.Var class.Plain ∣ constants ∣ block_of kinds.VarInput class.Input ∣ block_of kinds.VarOutput class.Output

-- ---- programs

unfoldable pub whole : Lang Token Program
whole =
    (λ ((w, (x, (blocks, (ss, end)))) : Token × (Text × (List (List StVar) × (List Stm × Token)))). record { name = x; vars = flat blocks; body = stms_of ss })
    <$> word kinds.Program & identifier & many block & many (statement max_depth) & word kinds.EndProgram
