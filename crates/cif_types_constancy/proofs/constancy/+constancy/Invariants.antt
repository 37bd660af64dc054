use Rattle.std.proofs.Common.{◌≡◌, drop}
use Rattle.cif_ast.specs.View.{view_exprs, view_terms, view_factors, view_branches}
use Rattle.cif_types_constancy.specs.Constancy.{is_wrong_name, terms_unfit, factors_unfit, trees_unfit, branches_unfit}
use Rattle.cif_types_constancy.proofs.constancy.+constancy.Given as goal

abbrev pub invariant-terms_unfit-loop-term : goal.invariant-terms_unfit-loop-term
invariant-terms_unfit-loop-term l = terms_unfit (is_wrong_name l.scopes l.body) (view_terms (drop l.term-index l.all)) ≡ terms_unfit (is_wrong_name l.scopes l.body) (view_terms l.all)

abbrev pub invariant-factors_unfit-loop-factor : goal.invariant-factors_unfit-loop-factor
invariant-factors_unfit-loop-factor l = factors_unfit (is_wrong_name l.scopes l.body) (view_factors (drop l.factor-index l.all)) ≡ factors_unfit (is_wrong_name l.scopes l.body) (view_factors l.all)

abbrev pub invariant-all_unfit-loop-expr : goal.invariant-all_unfit-loop-expr
invariant-all_unfit-loop-expr l = trees_unfit (is_wrong_name l.scopes l.body) (view_exprs (drop l.expr-index l.all)) ≡ trees_unfit (is_wrong_name l.scopes l.body) (view_exprs l.all)

abbrev pub invariant-branches_unfit-loop-branch : goal.invariant-branches_unfit-loop-branch
invariant-branches_unfit-loop-branch l = branches_unfit (is_wrong_name l.scopes l.body) (view_branches (drop l.branch-index l.all)) ≡ branches_unfit (is_wrong_name l.scopes l.body) (view_branches l.all)
