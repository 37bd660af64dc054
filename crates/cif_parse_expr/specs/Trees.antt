-- The tree that each form stands for.
use Rattle.std.specs.Prelude.{ℕ, Bool, true, false, ◌==◌, List, [], ◌∷◌, Option, Some, None, pos, if◌then◌else◌}
use Rattle.grammar.specs.Pieces.{Text}
use Rattle.cif_lex.specs.declared.token.Token.{Token}
use Rattle.cif_lex.specs.declared.token.TokenKind.{TokenKind}
use Rattle.cif_lex.specs.declared.token.TokenKind.TheVariants.{Reserved, Sign}
use Rattle.cif_lex.specs.declared.token.Word.TheVariants as w
use Rattle.cif_lex.specs.declared.token.Mark.TheVariants as m
use Rattle.cif_ast.specs.declared.names.Ident.{Ident}
use Rattle.cif_ast.specs.declared.names.Name.{Name}
use Rattle.cif_ast.specs.declared.expressions.MulOp.{MulOp}
use Rattle.cif_ast.specs.declared.expressions.MulOp.TheVariants as mul
use Rattle.cif_ast.specs.declared.expressions.CmpOp.{CmpOp}
use Rattle.cif_ast.specs.declared.expressions.CmpOp.TheVariants as cmp
use Rattle.cif_ast.specs.declared.expressions.Form.{Form}
use Rattle.cif_ast.specs.declared.expressions.Form.TheVariants as f
use Rattle.cif_ast.specs.declared.expressions.Expr.{Expr, out-Expr, roll-Expr}
use Rattle.cif_ast.specs.declared.expressions.Term.{Term, roll-Term}
use Rattle.cif_ast.specs.declared.expressions.Factor.{Factor, roll-Factor}
use Rattle.cif_ast.specs.declared.expressions.Branch.{Branch, roll-Branch}
use Rattle.cif_parse_expr.specs.TokenKinds.{code}
use Rattle.cif_parse_expr.specs.Spelling.{spelling, value}

abbrev pub node : ℕ → Form → Expr
node at form = roll-Expr (record { form = form; at = at })

-- where an expression begins
unfoldable pub place : Expr → ℕ
place e = (out-Expr e).at

abbrev pub second : {A B : Type 0} → A × B → B
second (before, kept) = kept

abbrev pub middle : {A B C : Type 0} → A × (B × C) → B
middle (before, (kept, after)) = kept

-- ---- names

abbrev pub ident : Text → Token → Ident
ident text t = record { text = spelling text t; at = t.span.from }

-- the place of a name is that of its first token
abbrev pub name_place : Option Token → List Ident → ℕ
name_place None [] = 0
name_place None (first ∷ more) = first.at
name_place (Some dot) parts = dot.span.from

abbrev pub from_root : Option Token → Bool
from_root None = false
from_root (Some dot) = true

abbrev pub name : Option Token × List Ident → Name
name (dot, parts) = record { from_root = from_root dot; parts = parts; at = name_place dot parts }

-- ---- what stands alone or in brackets

abbrev pub boolean : Bool → Token → Expr
boolean b t = node t.span.from (f.Bool b)

abbrev pub number : Text → Token → Expr
number text t = node t.span.from (f.Int (pos (value text t)))

abbrev pub named : Name → Expr
named n = node n.at (f.Named n)

abbrev pub received : Token → Expr
received t = node t.span.from f.Received

abbrev pub paren : Token × (Expr × Token) → Expr
paren (left, (e, right)) = node left.span.from (f.Paren e)

abbrev pub abs : Token × (Token × (Expr × Token)) → Expr
abs (word, (left, (e, right))) = node word.span.from (f.Abs e)

abbrev pub least : Token × (Token × (Expr × (Token × (Expr × Token)))) → Expr
least (word, (left, (a, (comma, (b, right))))) = node word.span.from (f.Min a b)

abbrev pub greatest : Token × (Token × (Expr × (Token × (Expr × Token)))) → Expr
greatest (word, (left, (a, (comma, (b, right))))) = node word.span.from (f.Max a b)

abbrev pub branch_of : List Expr → Expr → Branch
branch_of conditions value = roll-Branch (record { conds = conditions; value = value })

abbrev pub branch : List Expr × (Token × Expr) → Branch
branch (conditions, (colon, value)) = branch_of conditions value

abbrev pub choice : Token × (List Branch × Expr) → Expr
choice (word, (branches, other)) = node word.span.from (f.If branches other)

-- ---- operands with a sign

abbrev pub negative : Token × Expr → Expr
negative (sign, e) = node sign.span.from (f.Neg e)

abbrev pub positive : Token × Expr → Expr
positive (sign, e) = node sign.span.from (f.Plus e)

abbrev pub negation : Token × Expr → Expr
negation (word, e) = node word.span.from (f.Not e)

-- ---- operators between operands

abbrev pub mul_op : TokenKind → MulOp
mul_op k = if code k == code (Reserved w.Div) then mul.Div else (if code k == code (Reserved w.Mod) then mul.Mod else mul.Times)

abbrev pub factor_of : MulOp → Expr → Factor
factor_of op e = roll-Factor (record { op = op; value = e })

abbrev pub factor : Token × Expr → Factor
factor (sign, e) = factor_of (mul_op sign.kind) e

abbrev pub product : Expr → List Factor → Expr
product first rest = node (place first) (f.Product first rest)

abbrev pub is_minus : TokenKind → Bool
is_minus k = code k == code (Sign m.Minus)

abbrev pub term_of : Bool → Expr → Term
term_of minus e = roll-Term (record { minus = minus; value = e })

abbrev pub term : Token × Expr → Term
term (sign, e) = term_of (is_minus sign.kind) e

abbrev pub sum : Expr → List Term → Expr
sum first rest = node (place first) (f.Sum first rest)

abbrev pub cmp_op : TokenKind → CmpOp
cmp_op k =
    if code k == code (Sign m.Equal) then cmp.Eq else (if code k == code (Sign m.NotEqual) then cmp.Ne
    else (if code k == code (Sign m.Less) then cmp.Lt else (if code k == code (Sign m.LessEqual) then cmp.Le
    else (if code k == code (Sign m.Greater) then cmp.Gt else cmp.Ge))))

abbrev pub comparison : Expr → Token × Expr → Expr
comparison left (sign, right) = node (place left) (f.Compare left (cmp_op sign.kind) right)

abbrev pub conjunction : Expr → List Expr → Expr
conjunction first rest = node (place first) (f.And (first ∷ rest))

abbrev pub disjunction : Expr → List Expr → Expr
disjunction first rest = node (place first) (f.Or (first ∷ rest))

abbrev pub implied : TokenKind → Expr → Expr → Form
implied k left right = if code k == code (Sign m.Implies) then f.Implies left right else f.Iff left right

abbrev pub implication : Expr → Token × Expr → Expr
implication left (sign, right) = node (place left) (implied sign.kind left right)
