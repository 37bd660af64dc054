use Rattle.std.proofs.Common.{◌≡◌, ◌++◌, drop}
use Rattle.cif_net_expr.specs.View.{view_exprs, view_terms, view_factors, view_branches}
use Rattle.cif_alg_order.specs.Names.{list_algs, term_algs, factor_algs, branch_algs}
use Rattle.cif_alg_order.proofs.naming.+names.Given as goal

abbrev pub invariant-add_list_names-loop-expr : goal.invariant-add_list_names-loop-expr
invariant-add_list_names-loop-expr l = l.found ++ list_algs (view_exprs (drop l.expr-index l.all)) ≡ l.fn.found ++ list_algs (view_exprs l.all)

abbrev pub invariant-add_term_names-loop-term : goal.invariant-add_term_names-loop-term
invariant-add_term_names-loop-term l = l.found ++ term_algs (view_terms (drop l.term-index l.all)) ≡ l.fn.found ++ term_algs (view_terms l.all)

abbrev pub invariant-add_factor_names-loop-factor : goal.invariant-add_factor_names-loop-factor
invariant-add_factor_names-loop-factor l = l.found ++ factor_algs (view_factors (drop l.factor-index l.all)) ≡ l.fn.found ++ factor_algs (view_factors l.all)

abbrev pub invariant-add_branch_names-loop-branch : goal.invariant-add_branch_names-loop-branch
invariant-add_branch_names-loop-branch l = l.found ++ branch_algs (view_branches (drop l.branch-index l.all)) ≡ l.fn.found ++ branch_algs (view_branches l.all)
