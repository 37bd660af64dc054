use Rattle.std.proofs.Common.{◌≡◌, drop}
use Rattle.cif_net_expr.specs.View.{view_exprs, view_terms, view_factors, view_branches}
use Rattle.cif_alg_measure.specs.Meanings.{ranges_of}
use Rattle.cif_alg_measure.specs.Checked.{checked_all, checked_sum, checked_product, checked_cases}
use Rattle.cif_alg_measure.proofs.intervals.+intervals.Given as goal

abbrev pub invariant-truths_of-loop-expr : goal.invariant-truths_of-loop-expr
invariant-truths_of-loop-expr l = checked_all (ranges_of l.ranges) (view_exprs (drop l.expr-index l.all)) ≡ checked_all (ranges_of l.ranges) (view_exprs l.all)

abbrev pub invariant-sum_interval-loop-term : goal.invariant-sum_interval-loop-term
invariant-sum_interval-loop-term l = checked_sum (ranges_of l.ranges) l.at l.sum (view_terms (drop l.term-index l.all)) ≡ checked_sum (ranges_of l.ranges) l.at l.fn.first (view_terms l.all)

abbrev pub invariant-product_interval-loop-factor : goal.invariant-product_interval-loop-factor
invariant-product_interval-loop-factor l = checked_product (ranges_of l.ranges) l.at l.product (view_factors (drop l.factor-index l.all)) ≡ checked_product (ranges_of l.ranges) l.at l.fn.first (view_factors l.all)

abbrev pub invariant-cases_interval-loop-branch : goal.invariant-cases_interval-loop-branch
invariant-cases_interval-loop-branch l = checked_cases (ranges_of l.ranges) l.join (view_branches (drop l.branch-index l.all)) ≡ checked_cases (ranges_of l.ranges) l.fn.first (view_branches l.all)
