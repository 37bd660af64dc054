-- How a program is printed. Keywords are in capitals. Each declaration, statement head, ELSIF, ELSE and closing word has a
-- line of its own, indented by two blanks for each nesting. Tokens are separated by one blank, with none before `;` `,` `:`
-- `)`, none after `(`, none after a unary minus, and none between a function's name and its `(`.
use Rattle.std.specs.Prelude.{ℕ, ◌+◌, ◌*◌, ℤ, pos, negsuc, Bool, true, false, ◌||◌, List, [], ◌∷◌, ◌++◌, codes, decimal, replicate, Option, Some, None, if◌then◌else◌}
use Rattle.grammar.specs.Pieces.{Text, same}
use Rattle.st_ast.specs.Tree.{Expr, Exprs, Factors, Terms, truth, number, named, paren, negation, complement, product, sum, order, equal, all_of, odd_of, any_of, absolute, least, greatest, selection, no_exprs, exprs, no_factors, factors, no_terms, terms, Stm, Stms, Branches, Other, assign, choice, loop, no_stms, stms, no_branches, branches, no_other, other, Program}
use Rattle.st_ast.specs.declared.tree.StMul.{StMul}
use Rattle.st_ast.specs.declared.tree.StMul.TheVariants as mul
use Rattle.st_ast.specs.declared.tree.StOrder.{StOrder}
use Rattle.st_ast.specs.declared.tree.StOrder.TheVariants as cmp
use Rattle.st_ast.specs.declared.tree.StVar.{StVar}
use Rattle.st_ast.specs.declared.tree.StTy.{StTy}
use Rattle.st_ast.specs.declared.tree.StTy.TheVariants as ty
use Rattle.st_ast.specs.declared.tree.StLit.{StLit}
use Rattle.st_ast.specs.declared.tree.StLit.TheVariants as lit
use Rattle.st_ast.specs.declared.tree.StClass.{StClass}
use Rattle.st_ast.specs.declared.tree.StClass.TheVariants as class

-- what is printed: a line break before a line with that indentation, a word, digits, a sign, a minus joined to its operand,
-- a `*`, a `(` joined to the function's name before it
pub data Mark : Type 0 where
  line : ℕ → Mark
  word : Text → Mark
  digits : ℕ → Mark
  sign : Text → Mark
  dash : Mark
  times : Mark
  call : Mark

-- a blank, where one is due
abbrev pub gap : Bool → Text
gap true = []
gap false = 32 ∷ []

-- no blank stands before these
abbrev pub closes : Text → Bool
closes s = same s (codes ";") || same s (codes ",") || same s (codes ":") || same s (codes ")")

-- no blank stands after this one
abbrev pub opens : Text → Bool
opens s = same s (codes "(")

-- The bytes of a mark; true: no blank is due before it. A `*` always has one, since after `(` it would begin a comment.
abbrev pub spelled : Bool → Mark → Text
spelled fresh (line n) = 10 ∷ replicate (2 * n) 32
spelled fresh (word w) = gap fresh ++ w
spelled fresh (digits n) = gap fresh ++ decimal n
spelled fresh (sign s) = gap (fresh || closes s) ++ s
spelled fresh dash = gap fresh ++ (45 ∷ [])
spelled fresh times = 32 ∷ 42 ∷ []
spelled fresh call = 40 ∷ []

-- whether no blank is due after a mark
abbrev pub fresh_after : Mark → Bool
fresh_after (line n) = true
fresh_after (word w) = false
fresh_after (digits n) = false
fresh_after (sign s) = opens s
fresh_after dash = true
fresh_after times = false
fresh_after call = true

-- the text of marks
abbrev pub text_of : Bool → List Mark → Text
text_of fresh [] = []
text_of fresh (m ∷ ms) = spelled fresh m ++ text_of (fresh_after m) ms

-- ---- expressions. Each function puts its marks before those that follow.

abbrev pub number_marks : ℤ → List Mark → List Mark
number_marks (pos n) ms = digits n ∷ ms
number_marks (negsuc n) ms = dash ∷ digits (n + 1) ∷ ms

abbrev pub truth_marks : Bool → List Mark → List Mark
truth_marks true ms = word (codes "TRUE") ∷ ms
truth_marks false ms = word (codes "FALSE") ∷ ms

abbrev pub order_text : StOrder → Text
order_text cmp.Lt = codes "<"
order_text cmp.Gt = codes ">"
order_text cmp.Le = codes "<="
order_text cmp.Ge = codes ">="

abbrev pub equal_text : Bool → Text
equal_text true = codes "="
equal_text false = codes "<>"

abbrev pub plus_text : Bool → Text
plus_text false = codes "+"
plus_text true = codes "-"

abbrev pub mul_mark : StMul → Mark
mul_mark mul.Times = times
mul_mark mul.Div = sign (codes "/")
mul_mark mul.Mod = word (codes "MOD")

abbrev mutual
  pub expr_marks : Expr → List Mark → List Mark
  expr_marks (truth b) ms = truth_marks b ms
  expr_marks (number z) ms = number_marks z ms
  expr_marks (named x) ms = word x ∷ ms
  expr_marks (paren e) ms = sign (codes "(") ∷ expr_marks e (sign (codes ")") ∷ ms)
  expr_marks (negation e) ms = dash ∷ expr_marks e ms
  expr_marks (complement e) ms = word (codes "NOT") ∷ expr_marks e ms
  expr_marks (product e rest) ms = expr_marks e (factors_marks rest ms)
  expr_marks (sum e rest) ms = expr_marks e (terms_marks rest ms)
  expr_marks (order a op b) ms = expr_marks a (sign (order_text op) ∷ expr_marks b ms)
  expr_marks (equal a same b) ms = expr_marks a (sign (equal_text same) ∷ expr_marks b ms)
  expr_marks (all_of es) ms = operands_marks (codes "AND") es ms
  expr_marks (odd_of es) ms = operands_marks (codes "XOR") es ms
  expr_marks (any_of es) ms = operands_marks (codes "OR") es ms
  expr_marks (absolute e) ms = word (codes "ABS") ∷ call ∷ expr_marks e (sign (codes ")") ∷ ms)
  expr_marks (least a b) ms = word (codes "MIN") ∷ call ∷ expr_marks a (sign (codes ",") ∷ expr_marks b (sign (codes ")") ∷ ms))
  expr_marks (greatest a b) ms = word (codes "MAX") ∷ call ∷ expr_marks a (sign (codes ",") ∷ expr_marks b (sign (codes ")") ∷ ms))
  expr_marks (selection g a b) ms =
      word (codes "SEL") ∷ call ∷ expr_marks g (sign (codes ",") ∷ expr_marks a (sign (codes ",") ∷ expr_marks b (sign (codes ")") ∷ ms)))

  pub factors_marks : Factors → List Mark → List Mark
  factors_marks no_factors ms = ms
  factors_marks (factors op e fs) ms = mul_mark op ∷ expr_marks e (factors_marks fs ms)

  pub terms_marks : Terms → List Mark → List Mark
  terms_marks no_terms ms = ms
  terms_marks (terms minus e ts) ms = sign (plus_text minus) ∷ expr_marks e (terms_marks ts ms)

  -- operands with a word between them
  pub operands_marks : Text → Exprs → List Mark → List Mark
  operands_marks w no_exprs ms = ms
  operands_marks w (exprs e es) ms = expr_marks e (more_marks w es ms)

  pub more_marks : Text → Exprs → List Mark → List Mark
  more_marks w no_exprs ms = ms
  more_marks w (exprs e es) ms = word w ∷ expr_marks e (more_marks w es ms)

-- ---- statements, from an indentation

abbrev mutual
  pub stm_marks : ℕ → Stm → List Mark → List Mark
  stm_marks k (assign x e) ms = line k ∷ word x ∷ sign (codes ":=") ∷ expr_marks e (sign (codes ";") ∷ ms)
  stm_marks k (choice bs o) ms = branches_marks (codes "IF") k bs (other_marks k o (line k ∷ word (codes "END_IF") ∷ sign (codes ";") ∷ ms))
  stm_marks k (loop c ss) ms =
      line k ∷ word (codes "WHILE") ∷ expr_marks c (word (codes "DO") ∷ stms_marks (k + 1) ss (line k ∷ word (codes "END_WHILE") ∷ sign (codes ";") ∷ ms))

  pub stms_marks : ℕ → Stms → List Mark → List Mark
  stms_marks k no_stms ms = ms
  stms_marks k (stms s ss) ms = stm_marks k s (stms_marks k ss ms)

  -- the first branch has the given word, and the others ELSIF
  pub branches_marks : Text → ℕ → Branches → List Mark → List Mark
  branches_marks w k no_branches ms = ms
  branches_marks w k (branches c ss bs) ms =
      line k ∷ word w ∷ expr_marks c (word (codes "THEN") ∷ stms_marks (k + 1) ss (branches_marks (codes "ELSIF") k bs ms))

  pub other_marks : ℕ → Other → List Mark → List Mark
  other_marks k no_other ms = ms
  other_marks k (other ss) ms = line k ∷ word (codes "ELSE") ∷ stms_marks (k + 1) ss ms

-- ---- declarations

abbrev pub type_marks : StTy → List Mark → List Mark
type_marks ty.Bool ms = word (codes "BOOL") ∷ ms
type_marks ty.Lint ms = word (codes "LINT") ∷ ms
type_marks (ty.Range lo hi) ms =
    word (codes "LINT") ∷ sign (codes "(") ∷ number_marks lo (sign (codes "..") ∷ number_marks hi (sign (codes ")") ∷ ms))

abbrev pub literal_marks : StLit → List Mark → List Mark
literal_marks (lit.Bool b) ms = truth_marks b ms
literal_marks (lit.Int z) ms = number_marks z ms

abbrev pub init_marks : Option StLit → List Mark → List Mark
init_marks None ms = ms
init_marks (Some v) ms = sign (codes ":=") ∷ literal_marks v ms

abbrev pub declaration_marks : StVar → List Mark → List Mark
declaration_marks v ms = line 1 ∷ word v.name ∷ sign (codes ":") ∷ type_marks v.ty (init_marks v.init (sign (codes ";") ∷ ms))

abbrev pub block_marks : StClass → List Mark → List Mark
block_marks class.Plain ms = line 0 ∷ word (codes "VAR") ∷ ms
block_marks class.Constant ms = line 0 ∷ word (codes "VAR") ∷ word (codes "CONSTANT") ∷ ms
block_marks class.Input ms = line 0 ∷ word (codes "VAR_INPUT") ∷ ms
block_marks class.Output ms = line 0 ∷ word (codes "VAR_OUTPUT") ∷ ms

abbrev pub same_class : StClass → StClass → Bool
same_class class.Plain class.Plain = true
same_class class.Constant class.Constant = true
same_class class.Input class.Input = true
same_class class.Output class.Output = true
same_class _ _ = false

abbrev pub end_marks : List Mark → List Mark
end_marks ms = line 0 ∷ word (codes "END_VAR") ∷ ms

-- the further variables of an open block of a class: one of another class ends it and begins its own
abbrev pub further_marks : StClass → List StVar → List Mark → List Mark
further_marks k [] ms = end_marks ms
further_marks k (v ∷ vs) ms =
    if same_class k v.class then declaration_marks v (further_marks k vs ms)
    else end_marks (block_marks v.class (declaration_marks v (further_marks v.class vs ms)))

-- one block for each longest run of variables of one class
abbrev pub variables_marks : List StVar → List Mark → List Mark
variables_marks [] ms = ms
variables_marks (v ∷ vs) ms = block_marks v.class (declaration_marks v (further_marks v.class vs ms))

-- ---- programs

abbrev pub program_marks : Program → List Mark
program_marks p =
    word (codes "PROGRAM") ∷ word p.name ∷ variables_marks p.vars (stms_marks 0 p.body (line 0 ∷ word (codes "END_PROGRAM") ∷ line 0 ∷ []))

-- the printed text
abbrev pub printed : Program → Text
printed p = text_of true (program_marks p)
