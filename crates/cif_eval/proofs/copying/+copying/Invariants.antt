use Rattle.std.proofs.Common.{◌≡◌, drop}
use Rattle.cif_net_expr.specs.View.{view_exprs, view_terms, view_factors, view_branches}
use Rattle.cif_net.specs.View.{state_tree}
use Rattle.cif_eval.specs.Copies.{copied_exprs, copied_terms, copied_factors, copied_branches}
use Rattle.cif_eval.proofs.copying.+copying.Given as goal

abbrev pub invariant-copy_terms-loop-term : goal.invariant-copy_terms-loop-term
invariant-copy_terms-loop-term l = copied_terms (view_terms (drop l.term-index l.all)) (state_tree l.from) (state_tree l.to) ≡ copied_terms (view_terms l.all) (state_tree l.from) (state_tree l.initial.to)

abbrev pub invariant-copy_factors-loop-factor : goal.invariant-copy_factors-loop-factor
invariant-copy_factors-loop-factor l = copied_factors (view_factors (drop l.factor-index l.all)) (state_tree l.from) (state_tree l.to) ≡ copied_factors (view_factors l.all) (state_tree l.from) (state_tree l.initial.to)

abbrev pub invariant-copy_exprs-loop-expr : goal.invariant-copy_exprs-loop-expr
invariant-copy_exprs-loop-expr l = copied_exprs (view_exprs (drop l.expr-index l.all)) (state_tree l.from) (state_tree l.to) ≡ copied_exprs (view_exprs l.all) (state_tree l.from) (state_tree l.initial.to)

abbrev pub invariant-copy_branches-loop-branch : goal.invariant-copy_branches-loop-branch
invariant-copy_branches-loop-branch l = copied_branches (view_branches (drop l.branch-index l.all)) (state_tree l.from) (state_tree l.to) ≡ copied_branches (view_branches l.all) (state_tree l.from) (state_tree l.initial.to)
