-- What is asked of an expression as an operand follows from its shape.
use Rattle.std.proofs.lemmas.List.{append-nil, map-append}
use Rattle.std.specs.Prelude.{IsTrue, ◌↔◌}
use Rattle.std.proofs.Common.{◌≡◌, ◌++◌, map, sym, ap, ◌∙◌, arith, Bool, true, false, not, List, [], ◌∷◌, Option, Some, None, if◌then◌else◌, refl}
use Rattle.st_ast.specs.Tree.{Expr, truth, number, named, paren, negation, complement, product, sum, order, equal, all_of, odd_of, any_of, absolute, least, greatest, selection}
use Rattle.st_ast.specs.View.{view_expr, view_factors, view_terms}
use Rattle.st_ast.specs.declared.tree.StExpr.{StExpr}
use Rattle.st_ast.specs.declared.tree.StTerm.{StTerm}
use Rattle.st_ast.specs.declared.tree.StFactor.{StFactor}
use Rattle.plc_expr.specs.Texts.{said, said_or, all_said, all_said_or, disjunction, implication, sum_text, product_text, factor, negated, operand, side, term, wrapped, says, says_or}
use Rattle.plc_expr.specs.Shapes.{literal_in, shape_of}
use Rattle.plc_expr.specs.declared.shapes.Shape.{Shape}
use Rattle.plc_expr.specs.declared.shapes.Shape.TheVariants as shape

abbrev pub joined_in : Shape → Bool
joined_in shape.Joined = true
joined_in _ = false

abbrev pub test_in : Shape → Bool
test_in shape.Test = true
test_in shape.Joined = true
test_in _ = false

abbrev pub factor_in : Shape → Bool
factor_in (shape.Truth b) = true
factor_in shape.Name = true
factor_in shape.Factor = true
factor_in _ = false

abbrev pub term_in : Shape → Bool
term_in (shape.Truth b) = true
term_in shape.Name = true
term_in shape.Factor = true
term_in shape.Product = true
term_in _ = false

pub operand_by : (e : Expr) → operand e ≡ wrapped (joined_in (shape_of e)) e
operand_by (truth b) = refl
operand_by (number z) = refl
operand_by (named x) = refl
operand_by (paren d) = refl
operand_by (negation d) = refl
operand_by (complement d) = refl
operand_by (product d fs) = refl
operand_by (sum d ts) = refl
operand_by (order a op b) = refl
operand_by (equal a same b) = refl
operand_by (all_of es) = refl
operand_by (odd_of es) = refl
operand_by (any_of es) = refl
operand_by (absolute d) = refl
operand_by (least a b) = refl
operand_by (greatest a b) = refl
operand_by (selection g a b) = refl

pub side_by : (e : Expr) → side e ≡ wrapped (test_in (shape_of e)) e
side_by (truth b) = refl
side_by (number z) = refl
side_by (named x) = refl
side_by (paren d) = refl
side_by (negation d) = refl
side_by (complement d) = refl
side_by (product d fs) = refl
side_by (sum d ts) = refl
side_by (order a op b) = refl
side_by (equal a same b) = refl
side_by (all_of es) = refl
side_by (odd_of es) = refl
side_by (any_of es) = refl
side_by (absolute d) = refl
side_by (least a b) = refl
side_by (greatest a b) = refl
side_by (selection g a b) = refl

pub factor_by : (e : Expr) → factor e ≡ wrapped (not (factor_in (shape_of e))) e
factor_by (truth b) = refl
factor_by (number z) = refl
factor_by (named x) = refl
factor_by (paren d) = refl
factor_by (negation d) = refl
factor_by (complement d) = refl
factor_by (product d fs) = refl
factor_by (sum d ts) = refl
factor_by (order a op b) = refl
factor_by (equal a same b) = refl
factor_by (all_of es) = refl
factor_by (odd_of es) = refl
factor_by (any_of es) = refl
factor_by (absolute d) = refl
factor_by (least a b) = refl
factor_by (greatest a b) = refl
factor_by (selection g a b) = refl

pub term_by : (e : Expr) → term e ≡ wrapped (not (term_in (shape_of e))) e
term_by (truth b) = refl
term_by (number z) = refl
term_by (named x) = refl
term_by (paren d) = refl
term_by (negation d) = refl
term_by (complement d) = refl
term_by (product d fs) = refl
term_by (sum d ts) = refl
term_by (order a op b) = refl
term_by (equal a same b) = refl
term_by (all_of es) = refl
term_by (odd_of es) = refl
term_by (any_of es) = refl
term_by (absolute d) = refl
term_by (least a b) = refl
term_by (greatest a b) = refl
term_by (selection g a b) = refl

abbrev pub negated_of : Shape → Expr → Expr
negated_of (shape.Truth b) e = truth (not b)
negated_of shape.Name e = complement e
negated_of _ e = complement (paren e)

pub negated_by : (e : Expr) → negated e ≡ negated_of (shape_of e) e
negated_by (truth b) = refl
negated_by (named x) = refl
negated_by (number z) = refl
negated_by (paren d) = refl
negated_by (negation d) = refl
negated_by (complement d) = refl
negated_by (product d fs) = refl
negated_by (sum d ts) = refl
negated_by (order a op b) = refl
negated_by (equal a same b) = refl
negated_by (all_of es) = refl
negated_by (odd_of es) = refl
negated_by (any_of es) = refl
negated_by (absolute d) = refl
negated_by (least a b) = refl
negated_by (greatest a b) = refl
negated_by (selection g a b) = refl

abbrev pub literal_of : Shape → Option Bool
literal_of (shape.Truth b) = Some b
literal_of _ = None

pub literal_by : (e : Expr) → literal_in e ≡ literal_of (shape_of e)
literal_by (truth b) = refl
literal_by (number z) = refl
literal_by (named x) = refl
literal_by (paren d) = refl
literal_by (negation d) = refl
literal_by (complement d) = refl
literal_by (product d fs) = refl
literal_by (sum d ts) = refl
literal_by (order a op b) = refl
literal_by (equal a same b) = refl
literal_by (all_of es) = refl
literal_by (odd_of es) = refl
literal_by (any_of es) = refl
literal_by (absolute d) = refl
literal_by (least a b) = refl
literal_by (greatest a b) = refl
literal_by (selection g a b) = refl

abbrev pub says_of : Shape → Bool
says_of (shape.Truth b) = not b
says_of _ = true

pub says_by : (e : Expr) → says e ≡ says_of (shape_of e)
says_by (truth b) = refl
says_by (number z) = refl
says_by (named x) = refl
says_by (paren d) = refl
says_by (negation d) = refl
says_by (complement d) = refl
says_by (product d fs) = refl
says_by (sum d ts) = refl
says_by (order a op b) = refl
says_by (equal a same b) = refl
says_by (all_of es) = refl
says_by (odd_of es) = refl
says_by (any_of es) = refl
says_by (absolute d) = refl
says_by (least a b) = refl
says_by (greatest a b) = refl
says_by (selection g a b) = refl

abbrev pub says_or_of : Shape → Bool
says_or_of (shape.Truth b) = b
says_or_of _ = true

pub says_or_by : (e : Expr) → says_or e ≡ says_or_of (shape_of e)
says_or_by (truth b) = refl
says_or_by (number z) = refl
says_or_by (named x) = refl
says_or_by (paren d) = refl
says_or_by (negation d) = refl
says_or_by (complement d) = refl
says_or_by (product d fs) = refl
says_or_by (sum d ts) = refl
says_or_by (order a op b) = refl
says_or_by (equal a same b) = refl
says_or_by (all_of es) = refl
says_or_by (odd_of es) = refl
says_or_by (any_of es) = refl
says_or_by (absolute d) = refl
says_or_by (least a b) = refl
says_or_by (greatest a b) = refl
says_or_by (selection g a b) = refl

-- where the first isn't `FALSE`, and where it is
pub implication_by : (a b : Expr) → implication a b ≡ elim (literal_in a) [ None ↦ disjunction (all_said_or (negated a ∷ b ∷ [])) | Some t ↦ if t then disjunction (all_said_or (negated a ∷ b ∷ [])) else truth true ]
implication_by (truth true) b = refl
implication_by (truth false) b = refl
implication_by (number z) e = refl
implication_by (named x) e = refl
implication_by (paren d) e = refl
implication_by (negation d) e = refl
implication_by (complement d) e = refl
implication_by (product d fs) e = refl
implication_by (sum d ts) e = refl
implication_by (order a op b) e = refl
implication_by (equal a same b) e = refl
implication_by (all_of es) e = refl
implication_by (odd_of es) e = refl
implication_by (any_of es) e = refl
implication_by (absolute d) e = refl
implication_by (least a b) e = refl
implication_by (greatest a b) e = refl
implication_by (selection g a b) e = refl

-- a sum of more than one term
pub sum_by : (e : Expr) (ts : List StTerm) → (ts ≡ [] → ⊥) → sum_text e (view_terms ts) ≡ sum (term e) (view_terms ts)
sum_by e [] h = absurd (h refl)
sum_by e (t ∷ ts) h = refl

pub product_by : (e : Expr) (fs : List StFactor) → (fs ≡ [] → ⊥) → product_text e (view_factors fs) ≡ product (factor e) (view_factors fs)
product_by e [] h = absurd (h refl)
product_by e (f ∷ fs) h = refl

pub not-empty : {A : Type 0} {xs : List A} {b : Bool} → IsTrue b ↔ (xs ≡ []) → b ≡ false → xs ≡ [] → ⊥
not-empty i f e = grind (arith, i, f, e)

-- ---- one operand more

more-step : (b : Bool) (x : Expr) (es fs gs : List Expr) → es ≡ fs ++ gs → (if b then x ∷ es else es) ≡ (if b then x ∷ fs else fs) ++ gs
more-step true x es fs gs h = ap (λ zs. x ∷ zs) h
more-step false x es fs gs h = h

all_said-append : (xs : List Expr) (y : Expr) → all_said (xs ++ y ∷ []) ≡ all_said xs ++ said y []
all_said-append [] y = refl
all_said-append (x ∷ xs) y = more-step (says x) x (all_said (xs ++ y ∷ [])) (all_said xs) (said y []) (all_said-append xs y)

pub said_kept : (all new ys : List StExpr) (x : StExpr) → map view_expr all ≡ all_said (map view_expr ys) → new ≡ all ++ x ∷ [] → says (view_expr x) ≡ true → map view_expr new ≡ all_said (map view_expr (ys ++ x ∷ []))
said_kept all new ys x h e t =
    ap (map view_expr) e ∙ map-append view_expr all (x ∷ []) ∙ ap (λ zs. zs ++ view_expr x ∷ []) h
    ∙ ap (λ b. all_said (map view_expr ys) ++ (if b then view_expr x ∷ [] else [])) (sym t)
    ∙ sym (all_said-append (map view_expr ys) (view_expr x)) ∙ ap all_said (sym (map-append view_expr ys (x ∷ [])))

pub said_left : (all ys : List StExpr) (x : StExpr) → map view_expr all ≡ all_said (map view_expr ys) → says (view_expr x) ≡ false → map view_expr all ≡ all_said (map view_expr (ys ++ x ∷ []))
said_left all ys x h t =
    h ∙ sym (append-nil (all_said (map view_expr ys)))
    ∙ ap (λ b. all_said (map view_expr ys) ++ (if b then view_expr x ∷ [] else [])) (sym t)
    ∙ sym (all_said-append (map view_expr ys) (view_expr x)) ∙ ap all_said (sym (map-append view_expr ys (x ∷ [])))

all_said_or-append : (xs : List Expr) (y : Expr) → all_said_or (xs ++ y ∷ []) ≡ all_said_or xs ++ said_or y []
all_said_or-append [] y = refl
all_said_or-append (x ∷ xs) y = more-step (says_or x) x (all_said_or (xs ++ y ∷ [])) (all_said_or xs) (said_or y []) (all_said_or-append xs y)

pub said_or_kept : (all new ys : List StExpr) (x : StExpr) → map view_expr all ≡ all_said_or (map view_expr ys) → new ≡ all ++ x ∷ [] → says_or (view_expr x) ≡ true → map view_expr new ≡ all_said_or (map view_expr (ys ++ x ∷ []))
said_or_kept all new ys x h e t =
    ap (map view_expr) e ∙ map-append view_expr all (x ∷ []) ∙ ap (λ zs. zs ++ view_expr x ∷ []) h
    ∙ ap (λ b. all_said_or (map view_expr ys) ++ (if b then view_expr x ∷ [] else [])) (sym t)
    ∙ sym (all_said_or-append (map view_expr ys) (view_expr x)) ∙ ap all_said_or (sym (map-append view_expr ys (x ∷ [])))

pub said_or_left : (all ys : List StExpr) (x : StExpr) → map view_expr all ≡ all_said_or (map view_expr ys) → says_or (view_expr x) ≡ false → map view_expr all ≡ all_said_or (map view_expr (ys ++ x ∷ []))
said_or_left all ys x h t =
    h ∙ sym (append-nil (all_said_or (map view_expr ys)))
    ∙ ap (λ b. all_said_or (map view_expr ys) ++ (if b then view_expr x ∷ [] else [])) (sym t)
    ∙ sym (all_said_or-append (map view_expr ys) (view_expr x)) ∙ ap all_said_or (sym (map-append view_expr ys (x ∷ [])))
