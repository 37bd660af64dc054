-- Worked examples of what has a spelling, by computation.
use Rattle.std.proofs.Common.{◌≡◌, ℕ, zero, suc, pos, negsuc, true, false, [], ◌∷◌, Some, None, refl}
use Rattle.std.specs.Prelude.{codes, map}
use Rattle.st_ast.specs.Tree.{Expr, number, named, paren, negation, complement, product, sum, order, equal, all_of, odd_of, any_of, absolute, selection, exprs, no_exprs, factors, no_factors, terms, no_terms, Stm, assign, choice, loop, no_stms, stms, no_branches, branches, no_other, other, stms_of, Program}
use Rattle.st_ast.specs.Grammar.{at_or, at_equal, at_sum, at_unary, max_depth}
use Rattle.st_ast.specs.Spelled.{is_name, has_literal, has_signed_literal, is_expr, is_whole_expr, is_stm, is_declaration, is_spelled}
use Rattle.st_ast.specs.declared.tree.Size.TheVariants as size
use Rattle.st_ast.specs.declared.tree.StClass.TheVariants as class
use Rattle.st_ast.specs.declared.tree.StMul.TheVariants as mul
use Rattle.st_ast.specs.declared.tree.StOrder.TheVariants as cmp
use Rattle.st_ast.specs.declared.tree.StTy.{StTy}
use Rattle.st_ast.specs.declared.tree.StTy.TheVariants as ty
use Rattle.st_ast.specs.declared.tree.StLit.TheVariants as lit
use Rattle.st_ast.specs.declared.tree.StVar.{StVar}

-- a, a_1, _a, and no name: a_, a__b, 1a, a b, if, Case, nothing
names : map is_name (codes "a" ∷ codes "a_1" ∷ codes "_a" ∷ codes "a_" ∷ codes "a__b" ∷ codes "1a" ∷ codes "a b" ∷ codes "if" ∷ codes "Case" ∷ [] ∷ [])
    ≡ true ∷ true ∷ true ∷ false ∷ false ∷ false ∷ false ∷ false ∷ false ∷ false ∷ []
names = refl

literals : map has_literal (pos 0 ∷ pos 9223372036854775807 ∷ pos 9223372036854775808 ∷ negsuc 0 ∷ []) ≡ true ∷ true ∷ false ∷ false ∷ []
literals = refl

-- the least number of 64 bits has none
signed_literals : map has_signed_literal (pos 9223372036854775807 ∷ negsuc 9223372036854775806 ∷ negsuc 9223372036854775807 ∷ []) ≡ true ∷ true ∷ false ∷ []
signed_literals = refl

abbrev x : Expr
x = named (codes "x")

-- x + 1
abbrev more : Expr
more = sum x (terms false (number (pos 1)) no_terms)

abbrev both : Expr
both = all_of (exprs x (exprs x no_exprs))

-- x + (x + 1), x + x + 1 as a sum of a sum, - (x + 1), - x + 1 as minus a sum, (x AND x) = x, x AND x = x as an equation
operands_of_their_level : map is_whole_expr (sum x (terms false (paren more) no_terms) ∷ sum x (terms false more no_terms) ∷ negation (paren more) ∷ negation more ∷ equal (paren both) true x ∷ equal both true x ∷ [])
    ≡ true ∷ false ∷ true ∷ false ∷ true ∷ false ∷ []
operands_of_their_level = refl

-- - - x, NOT - x, a product of a minus, ABS(x + 1), SEL(x OR x, x + 1, x)
deeper_forms : map is_whole_expr (negation (negation x) ∷ complement (negation x) ∷ product (negation x) (factors mul.Times (negation x) no_factors) ∷ absolute more ∷ selection (any_of (exprs x (exprs x no_exprs))) more x ∷ [])
    ≡ true ∷ true ∷ true ∷ true ∷ true ∷ []
deeper_forms = refl

-- a < b < c has no spelling without parentheses, and neither has a = b = c
no_chains : map is_whole_expr (order (order x cmp.Lt x) cmp.Lt x ∷ equal x true (equal x true x) ∷ equal (order x cmp.Lt x) false x ∷ []) ≡ false ∷ false ∷ true ∷ []
no_chains = refl

-- a sum of one operand, a conjunction of one, an exclusion of none
too_few_operands : map is_whole_expr (sum x no_terms ∷ product x no_factors ∷ all_of (exprs x no_exprs) ∷ odd_of no_exprs ∷ any_of (exprs x (exprs x no_exprs)) ∷ []) ≡ false ∷ false ∷ false ∷ false ∷ true ∷ []
too_few_operands = refl

of_a_level : is_expr 3 at_or both ∷ is_expr 3 at_equal both ∷ is_expr 3 at_sum more ∷ is_expr 3 at_unary more ∷ [] ≡ true ∷ false ∷ true ∷ false ∷ []
of_a_level = refl

-- ---- depths

-- that many parentheses, or minuses, around x
abbrev wrapped : (Expr → Expr) → ℕ → Expr
wrapped wrap zero = x
wrapped wrap (suc n) = wrap (wrapped wrap n)

depth_400_and_401 : is_whole_expr (wrapped (λ e. paren e) 400) ∷ is_whole_expr (wrapped (λ e. paren e) 401) ∷ is_whole_expr (wrapped (λ e. negation e) 400) ∷ is_whole_expr (wrapped (λ e. negation e) 401) ∷ [] ≡ true ∷ false ∷ true ∷ false ∷ []
depth_400_and_401 = refl

sets : Stm
sets = assign (codes "x") (number (pos 1))

-- that many loops, one in the other, round nothing
abbrev nested : ℕ → Stm
nested zero = loop x no_stms
nested (suc n) = loop x (stms (nested n) no_stms)

loops_400_and_401 : is_stm max_depth (nested 399) ∷ is_stm max_depth (nested 400) ∷ [] ≡ true ∷ false ∷ []
loops_400_and_401 = refl

-- ---- statements, declarations and programs

empty_choices : map (is_stm max_depth) (choice no_branches no_other ∷ choice (branches x no_stms no_branches) no_other ∷ choice (branches x no_stms no_branches) (other no_stms) ∷ []) ≡ false ∷ true ∷ true ∷ []
empty_choices = refl

-- an IF has a depth of 1 where it holds no statement
no_depth_left : map (is_stm 0) (assign (codes "x") more ∷ choice (branches x no_stms no_branches) no_other ∷ loop x no_stms ∷ []) ≡ true ∷ false ∷ false ∷ []
no_depth_left = refl

abbrev variable : StTy → StVar
variable t = record { name = codes "x"; class = class.Plain; ty = t; init = None; at = None }

ranges : map (λ t. is_declaration (variable t)) (ty.Bool ∷ ty.Lint ∷ ty.Range (negsuc 2) (pos 5) ∷ ty.Range (negsuc 9223372036854775807) (pos 5) ∷ ty.Range (pos 5) (pos 0) ∷ []) ≡ true ∷ true ∷ true ∷ false ∷ true ∷ []
ranges = refl

no_address : is_declaration (record (variable ty.Bool) { at = Some (record { input = true; size = size.Bit; byte = 0; bit = 0 }) }) ≡ false
no_address = refl

least_first_value : is_declaration (record (variable ty.Lint) { init = Some (lit.Int (negsuc 9223372036854775807)) }) ≡ false
least_first_value = refl

abbrev program : Program
program = record { name = codes "p"; vars = variable ty.Lint ∷ []; body = stms_of (assign (codes "x") more ∷ []) }

programs : map is_spelled (program ∷ record program { name = codes "program" } ∷ record program { vars = variable (ty.Range (pos 9223372036854775808) (pos 0)) ∷ [] } ∷ record program { body = stms_of (assign (codes "x") (negation more) ∷ []) } ∷ []) ≡ true ∷ false ∷ false ∷ false ∷ []
programs = refl
