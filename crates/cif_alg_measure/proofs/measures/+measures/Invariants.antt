use Rattle.std.proofs.Common.{◌≡◌, drop}
use Rattle.cif_net_expr.specs.View.{view_exprs, view_terms, view_factors, view_branches}
use Rattle.cif_net_model.specs.Counts.{no_form}
use Rattle.cif_alg_measure.specs.Meanings.{stopped_measure, stopped_table}
use Rattle.cif_alg_measure.specs.Counted.{list_counted, terms_counted, factors_counted, branches_counted}
use Rattle.cif_alg_measure.proofs.measures.+measures.Given as goal

abbrev pub invariant-list_measure-loop-expr : goal.invariant-list_measure-loop-expr
invariant-list_measure-loop-expr l = list_counted (stopped_table l.algs) l.found (view_exprs (drop l.expr-index l.all)) ≡ list_counted (stopped_table l.algs) (stopped_measure no_form) (view_exprs l.all)

abbrev pub invariant-terms_measure-loop-term : goal.invariant-terms_measure-loop-term
invariant-terms_measure-loop-term l = terms_counted (stopped_table l.algs) l.found (view_terms (drop l.term-index l.all)) ≡ terms_counted (stopped_table l.algs) l.fn.first (view_terms l.all)

abbrev pub invariant-factors_measure-loop-factor : goal.invariant-factors_measure-loop-factor
invariant-factors_measure-loop-factor l = factors_counted (stopped_table l.algs) l.found (view_factors (drop l.factor-index l.all)) ≡ factors_counted (stopped_table l.algs) l.fn.first (view_factors l.all)

abbrev pub invariant-branches_measure-loop-branch : goal.invariant-branches_measure-loop-branch
invariant-branches_measure-loop-branch l = branches_counted (stopped_table l.algs) l.found (view_branches (drop l.branch-index l.all)) ≡ branches_counted (stopped_table l.algs) l.fn.other (view_branches l.all)
