use Rattle.std.proofs.Common.{◌≡◌, pos, drop}
use Rattle.cif_net_expr.specs.View.{view_exprs, view_terms, view_factors, view_branches}
use Rattle.cif_net.specs.View.{state_tree}
use Rattle.cif_net_model.specs.Value.{net_sum, net_product, net_all, net_any, net_cases}
use Rattle.cif_net_model.specs.Safe.{AreSafeTerms, AreSafeFactors, AreSafeTruths, AreSafeBranches}
use Rattle.cif_value.specs.Settings.{told}
use Rattle.cif_value.proofs.values.+values.Given as goal

abbrev pub invariant-sum_value-loop-term : goal.invariant-sum_value-loop-term
invariant-sum_value-loop-term l =
    (net_sum (λ k. pos 0) (state_tree l.state) l.received l.sum (view_terms (drop l.term-index l.all)) ≡ net_sum (λ k. pos 0) (state_tree l.state) l.received l.fn.first (view_terms l.all))
    × AreSafeTerms (told l.state l.received) l.sum (view_terms (drop l.term-index l.all))

abbrev pub invariant-product_value-loop-factor : goal.invariant-product_value-loop-factor
invariant-product_value-loop-factor l =
    (net_product (λ k. pos 0) (state_tree l.state) l.received l.product (view_factors (drop l.factor-index l.all)) ≡ net_product (λ k. pos 0) (state_tree l.state) l.received l.fn.first (view_factors l.all))
    × AreSafeFactors (told l.state l.received) l.product (view_factors (drop l.factor-index l.all))

abbrev pub invariant-all_hold-loop-expr : goal.invariant-all_hold-loop-expr
invariant-all_hold-loop-expr l =
    (net_all (λ k. pos 0) (state_tree l.state) l.received (view_exprs (drop l.expr-index l.all)) ≡ net_all (λ k. pos 0) (state_tree l.state) l.received (view_exprs l.all))
    × AreSafeTruths (told l.state l.received) (view_exprs (drop l.expr-index l.all))

abbrev pub invariant-any_holds-loop-expr : goal.invariant-any_holds-loop-expr
invariant-any_holds-loop-expr l =
    (net_any (λ k. pos 0) (state_tree l.state) l.received (view_exprs (drop l.expr-index l.all)) ≡ net_any (λ k. pos 0) (state_tree l.state) l.received (view_exprs l.all))
    × AreSafeTruths (told l.state l.received) (view_exprs (drop l.expr-index l.all))

abbrev pub invariant-chosen_value-loop-branch : goal.invariant-chosen_value-loop-branch
invariant-chosen_value-loop-branch l =
    (net_cases (λ k. pos 0) (state_tree l.state) l.received l.other (view_branches (drop l.branch-index l.all))
    ≡ net_cases (λ k. pos 0) (state_tree l.state) l.received l.other (view_branches l.all))
    × AreSafeBranches (told l.state l.received) (view_branches (drop l.branch-index l.all))
