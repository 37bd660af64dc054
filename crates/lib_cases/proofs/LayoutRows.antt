-- Worked examples of the layout of programs, by computation.
use Rattle.std.proofs.Common.{◌≡◌, ℕ, pos, negsuc, true, false, List, [], ◌∷◌, ◌++◌, Some, None, refl}
use Rattle.std.specs.Prelude.{codes, decimal, flat_map, map, Option}
use Rattle.grammar.specs.Pieces.{Text}
use Rattle.st_ast.specs.declared.tree.StVar.{StVar}
use Rattle.st_ast.specs.declared.tree.StTy.{StTy}
use Rattle.st_ast.specs.declared.tree.StTy.TheVariants as ty
use Rattle.st_ast.specs.declared.tree.StLit.{StLit}
use Rattle.st_ast.specs.declared.tree.StLit.TheVariants as lit
use Rattle.st_ast.specs.declared.tree.StClass.{StClass}
use Rattle.st_ast.specs.declared.tree.StClass.TheVariants as class
use Rattle.st_ast.specs.declared.tree.StMul.TheVariants as mul
use Rattle.st_ast.specs.declared.tree.StOrder.TheVariants as cmp
use Rattle.st_ast.specs.Tree.{Expr, truth, number, named, paren, negation, complement, product, sum, order, equal, all_of, odd_of, any_of, absolute, least, greatest, selection, exprs, no_exprs, factors, no_factors, terms, no_terms, Stm, assign, choice, loop, stms_of, branches, no_branches, no_other, other, Program}
use Rattle.st_print.specs.Layout.{text_of, expr_marks, stm_marks, declaration_marks, printed}

abbrev rows : List Text → Text
rows ls = flat_map (λ l. l ++ 10 ∷ []) ls

abbrev x : Expr
x = named (codes "x")

abbrev y : Expr
y = named (codes "y")

abbrev shown : Expr → Text
shown e = text_of true (expr_marks e [])

-- behind a line break
abbrev written : Stm → Text
written s = text_of true (stm_marks 0 s [])

-- ---- blanks

minus_is_joined_to_its_operand : shown (sum x (terms true (negation y) no_terms)) ≡ codes "x - -y"
minus_is_joined_to_its_operand = refl

negative_number : shown (product (number (negsuc 0)) (factors mul.Times x (factors mul.Mod y no_factors))) ≡ 45 ∷ (decimal 1 ++ codes " * x MOD y")
negative_number = refl

parentheses_are_joined : shown (product (paren (sum x (terms false y no_terms))) (factors mul.Div y no_factors)) ≡ codes "(x + y) / y"
parentheses_are_joined = refl

function_is_joined_to_its_parenthesis : shown (least x (absolute (negation x))) ≡ codes "MIN(x, ABS(-x))"
function_is_joined_to_its_parenthesis = refl

three_operands : shown (selection (order x cmp.Le y) (truth true) (truth false)) ≡ codes "SEL(x <= y, TRUE, FALSE)"
three_operands = refl

words_stand_apart : shown (all_of (exprs (complement x) (exprs (equal x false y) no_exprs))) ≡ codes "NOT x AND x <> y"
words_stand_apart = refl

signs_stand_apart : map shown (equal x true y ∷ order x cmp.Gt y ∷ order x cmp.Ge y ∷ []) ≡ codes "x = y" ∷ codes "x > y" ∷ codes "x >= y" ∷ []
signs_stand_apart = refl

one_word_for_each_operand : shown (any_of (exprs x (exprs (odd_of (exprs x (exprs y (exprs x no_exprs)))) (exprs y no_exprs)))) ≡ codes "x OR x XOR y XOR x OR y"
one_word_for_each_operand = refl

two_operands : shown (greatest x (sum y (terms false x no_terms))) ≡ codes "MAX(x, y + x)"
two_operands = refl

-- ---- lines

assignment : written (assign (codes "x") y) ≡ 10 ∷ codes "x := y;"
assignment = refl

nested_statements :
    written (choice (branches (order x cmp.Lt y) (stms_of (loop x (stms_of (assign (codes "x") y ∷ [])) ∷ [])) (branches x (stms_of []) no_branches))
    (other (stms_of (assign (codes "x") x ∷ []))))
    ≡ 10 ∷ (rows (codes "IF x < y THEN" ∷ codes "  WHILE x DO" ∷ codes "    x := y;" ∷ codes "  END_WHILE;" ∷ codes "ELSIF x THEN" ∷ codes "ELSE"
    ∷ codes "  x := x;" ∷ []) ++ codes "END_IF;")
nested_statements = refl

-- ---- declarations: a block for each longest run of variables of a class

abbrev variable : Text → StClass → StTy → Option StLit → StVar
variable n k t v = record { name = n; class = k; ty = t; init = v; at = None }

range_and_first_value :
    text_of false (declaration_marks (variable (codes "a") class.Plain (ty.Range (negsuc 0) (pos 3)) (Some (lit.Int (pos 2)))) [])
    ≡ 10 ∷ (codes "  a: LINT (-" ++ (decimal 1 ++ (codes " .. " ++ (decimal 3 ++ (codes ") := " ++ (decimal 2 ++ codes ";"))))))
range_and_first_value = refl

blocks :
    printed (record {
      name = codes "p";
      vars = variable (codes "a") class.Plain ty.Lint None ∷ variable (codes "b") class.Plain ty.Bool None
          ∷ variable (codes "c") class.Constant ty.Bool (Some (lit.Bool false)) ∷ variable (codes "d") class.Input ty.Bool None
          ∷ variable (codes "e") class.Plain ty.Bool (Some (lit.Bool true)) ∷ variable (codes "f") class.Output ty.Lint None ∷ [];
      body = stms_of [];
    })
    ≡ rows (codes "PROGRAM p" ∷ codes "VAR" ∷ codes "  a: LINT;" ∷ codes "  b: BOOL;" ∷ codes "END_VAR" ∷ codes "VAR CONSTANT"
    ∷ codes "  c: BOOL := FALSE;" ∷ codes "END_VAR" ∷ codes "VAR_INPUT" ∷ codes "  d: BOOL;" ∷ codes "END_VAR" ∷ codes "VAR"
    ∷ codes "  e: BOOL := TRUE;" ∷ codes "END_VAR" ∷ codes "VAR_OUTPUT" ∷ codes "  f: LINT;" ∷ codes "END_VAR" ∷ codes "END_PROGRAM" ∷ [])
blocks = refl

-- a name is spelled as it stands at its place, also where that is not as it is declared
spellings :
    printed (record {
      name = codes "Press";
      vars = variable (codes "Level") class.Plain ty.Lint None ∷ [];
      body = stms_of (assign (codes "LEVEL") (sum (named (codes "level")) (terms true (named (codes "leveL")) no_terms)) ∷ []);
    })
    ≡ rows (codes "PROGRAM Press" ∷ codes "VAR" ∷ codes "  Level: LINT;" ∷ codes "END_VAR" ∷ codes "LEVEL := level - leveL;" ∷ codes "END_PROGRAM" ∷ [])
spellings = refl
