-- Expressions by structure: the value of a translated expression is that of the expression.
use Rattle.std.proofs.Common.{◌≡◌, ℕ, ℤ, pos, neg_ℤ, nat_abs, Bool, true, false, not, refl, sym, ◌∙◌, ap}
use Rattle.std.specs.Prelude.{◌&&◌, ◌||◌, if◌then◌else◌}
use Rattle.std.specs.Int.{int_min, int_max}
use Rattle.std.specs.Ordering.{int_eq}
use Rattle.cif_ast.specs.Tree.{Tree, node, Shape, truth, number, named, received, paren, negative, positive, negation, absolute, least, greatest, sum, product, comparison, all_of, any_of, implication, equivalence, choice, Trees, no_trees, trees, Terms, no_terms, terms, Factors, no_factors, factors, Branches, no_branches, branches}
use Rattle.cif_ast.specs.declared.names.Name.{Name}
use Rattle.cif_ast.specs.declared.expressions.CmpOp.{CmpOp}
use Rattle.cif_ast.specs.declared.expressions.CmpOp.TheVariants as cmp
use Rattle.cif_ast.specs.declared.expressions.MulOp.{MulOp}
use Rattle.cif_ast.specs.declared.expressions.MulOp.TheVariants as mul
use Rattle.cif_system.specs.System.{State}
use Rattle.cif_net_expr.specs.Tree.{NetExpr, net_expr, NetExprs, no_net_exprs, net_exprs}
use Rattle.cif_net_model.specs.Value as net
use Rattle.cif_net_model.specs.Value.{net_value, net_sum, net_product, net_all, net_any, net_cases}
use Rattle.cif_source.specs.Value.{of_bool, is_true, compared, added, multiplied, value_with, shape_value, sum_value, product_value, all_true, any_true, branch_value}
use Rattle.cif_inst_model.specs.Translation.{net_comparison, net_factor, conjunction, net_with, net_form, net_exprs_of, net_terms_of, net_factors_of, net_branches_of}
use Rattle.cif_net_model.proofs.InlineLaws.{placed-value}

-- ---- operators

compared-same : (op : CmpOp) (a b : ℤ) → net.compared (net_comparison op) a b ≡ compared op a b
compared-same cmp.Eq a b = refl
compared-same cmp.Ne a b = refl
compared-same cmp.Lt a b = refl
compared-same cmp.Le a b = refl
compared-same cmp.Gt a b = refl
compared-same cmp.Ge a b = refl

multiplied-same : (op : MulOp) (a b : ℤ) → net.multiplied (net_factor op) a b ≡ multiplied op a b
multiplied-same mul.Times a b = refl
multiplied-same mul.Div a b = refl
multiplied-same mul.Mod a b = refl

-- ---- expressions by structure

true-of_bool : (b : Bool) → is_true (of_bool b) ≡ b
true-of_bool true = refl
true-of_bool false = refl

and-true : (b : Bool) → (b && true) ≡ b
and-true true = refl
and-true false = refl

module _ (alg : ℕ → ℤ) (s : State) (r : ℤ) where
  pub conjunction-value : (es : NetExprs) → is_true (net_value alg s r (conjunction es)) ≡ net_all alg s r es
  conjunction-value no_net_exprs = refl
  conjunction-value (net_exprs e no_net_exprs) = sym (and-true (is_true (net_value alg s r e)))
  conjunction-value (net_exprs (net_expr f at) (net_exprs e es)) = true-of_bool (net_all alg s r (net_exprs (net_expr f at) (net_exprs e es)))

module _ (alg : ℕ → ℤ) (s : State) (r : ℤ) (nname : Name → ℕ → NetExpr) (name : Name → ℤ) (names : (nm : Name) (at : ℕ) → net_value alg s r (nname nm at) ≡ name nm) where
  mutual
    pub expr-value : (e : Tree) → net_value alg s r (net_with nname e) ≡ value_with name r e
    expr-value (node f at) = form-value at f

    pub form-value : (at : ℕ) (f : Shape) → net_value alg s r (net_form nname at f) ≡ shape_value name r f
    form-value at (truth b) = refl
    form-value at (number z) = refl
    form-value at (named nm) = names nm at
    form-value at received = refl
    form-value at (paren e) = placed-value alg s r at (net_with nname e) ∙ expr-value e
    form-value at (negative e) = ap neg_ℤ (expr-value e)
    form-value at (positive e) = expr-value e
    form-value at (negation e) = ap (λ z. of_bool (not (is_true z))) (expr-value e)
    form-value at (absolute e) = ap (λ z. pos (nat_abs z)) (expr-value e)
    form-value at (least a b) = ap (λ z. int_min z (net_value alg s r (net_with nname b))) (expr-value a) ∙ ap (int_min (value_with name r a)) (expr-value b)
    form-value at (greatest a b) = ap (λ z. int_max z (net_value alg s r (net_with nname b))) (expr-value a) ∙ ap (int_max (value_with name r a)) (expr-value b)
    form-value at (sum e es) = ap (λ z. net_sum alg s r z (net_terms_of nname es)) (expr-value e) ∙ terms-value (value_with name r e) es
    form-value at (product e es) = ap (λ z. net_product alg s r z (net_factors_of nname es)) (expr-value e) ∙ factors-value (value_with name r e) es
    form-value at (comparison a op b) =
        ap (λ z. of_bool (net.compared (net_comparison op) z (net_value alg s r (net_with nname b)))) (expr-value a)
        ∙ ap (λ z. of_bool (net.compared (net_comparison op) (value_with name r a) z)) (expr-value b)
        ∙ ap of_bool (compared-same op (value_with name r a) (value_with name r b))
    form-value at (all_of es) = ap of_bool (all-value es)
    form-value at (any_of es) = ap of_bool (any-value es)
    form-value at (implication a b) = ap (λ z. of_bool (not (is_true z) || is_true (net_value alg s r (net_with nname b)))) (expr-value a) ∙ ap (λ z. of_bool (not (is_true (value_with name r a)) || is_true z)) (expr-value b)
    form-value at (equivalence a b) = ap (λ z. of_bool (int_eq z (net_value alg s r (net_with nname b)))) (expr-value a) ∙ ap (λ z. of_bool (int_eq (value_with name r a) z)) (expr-value b)
    form-value at (choice bs e) = ap (λ z. net_cases alg s r z (net_branches_of nname bs)) (expr-value e) ∙ cases-value (value_with name r e) bs

    pub all-value : (es : Trees) → net_all alg s r (net_exprs_of nname es) ≡ all_true name r es
    all-value no_trees = refl
    all-value (trees e es) = ap (λ z. is_true z && net_all alg s r (net_exprs_of nname es)) (expr-value e) ∙ ap (λ b. is_true (value_with name r e) && b) (all-value es)

    pub any-value : (es : Trees) → net_any alg s r (net_exprs_of nname es) ≡ any_true name r es
    any-value no_trees = refl
    any-value (trees e es) = ap (λ z. is_true z || net_any alg s r (net_exprs_of nname es)) (expr-value e) ∙ ap (λ b. is_true (value_with name r e) || b) (any-value es)

    pub terms-value : (z : ℤ) (es : Terms) → net_sum alg s r z (net_terms_of nname es) ≡ sum_value name r z es
    terms-value z no_terms = refl
    terms-value z (terms m e es) = ap (λ y. net_sum alg s r (added m z y) (net_terms_of nname es)) (expr-value e) ∙ terms-value (added m z (value_with name r e)) es

    pub factors-value : (z : ℤ) (es : Factors) → net_product alg s r z (net_factors_of nname es) ≡ product_value name r z es
    factors-value z no_factors = refl
    factors-value z (factors op e es) =
        ap (λ y. net_product alg s r (net.multiplied (net_factor op) z y) (net_factors_of nname es)) (expr-value e)
        ∙ ap (λ y. net_product alg s r y (net_factors_of nname es)) (multiplied-same op z (value_with name r e))
        ∙ factors-value (multiplied op z (value_with name r e)) es

    pub cases-value : (z : ℤ) (bs : Branches) → net_cases alg s r z (net_branches_of nname bs) ≡ branch_value name r z bs
    cases-value z no_branches = refl
    cases-value z (branches cs e bs) =
        ap (λ b. if b then net_value alg s r (net_with nname e) else net_cases alg s r z (net_branches_of nname bs)) (conjunction-value alg s r (net_exprs_of nname cs) ∙ all-value cs)
        ∙ ap (λ y. if all_true name r cs then y else net_cases alg s r z (net_branches_of nname bs)) (expr-value e)
        ∙ ap (λ y. if all_true name r cs then value_with name r e else y) (cases-value z bs)
