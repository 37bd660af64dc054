use Rattle.std.proofs.Common.{◌≡◌, drop}
use Rattle.cif_net_expr.specs.View.{view_exprs, view_terms, view_factors, view_branches}
use Rattle.cif_value.specs.Inputs.{terms_have, factors_have, exprs_have, branches_have}
use Rattle.cif_value.proofs.inputs.+inputs.Given as goal

abbrev pub invariant-terms_have-loop-term : goal.invariant-terms_have-loop-term
invariant-terms_have-loop-term l = terms_have (view_terms (drop l.term-index l.all)) ≡ terms_have (view_terms l.all)

abbrev pub invariant-factors_have-loop-factor : goal.invariant-factors_have-loop-factor
invariant-factors_have-loop-factor l = factors_have (view_factors (drop l.factor-index l.all)) ≡ factors_have (view_factors l.all)

abbrev pub invariant-exprs_have-loop-expr : goal.invariant-exprs_have-loop-expr
invariant-exprs_have-loop-expr l = exprs_have (view_exprs (drop l.expr-index l.all)) ≡ exprs_have (view_exprs l.all)

abbrev pub invariant-branches_have-loop-branch : goal.invariant-branches_have-loop-branch
invariant-branches_have-loop-branch l = branches_have (view_branches (drop l.branch-index l.all)) ≡ branches_have (view_branches l.all)
