use Rattle.std.proofs.Common.{◌≡◌, max, drop}
use Rattle.cif_ast.specs.View.{view_exprs, view_terms, view_factors, view_branches}
use Rattle.cif_ast.specs.Depth.{trees_depth, terms_depth, factors_depth, branches_depth}
use Rattle.cif_ast.proofs.depths.+depth.Given as goal

abbrev pub invariant-depth_of_branches-loop-branch : goal.invariant-depth_of_branches-loop-branch
invariant-depth_of_branches-loop-branch l = max l.deepest (branches_depth (view_branches (drop l.branch-index l.all))) ≡ branches_depth (view_branches l.all)

abbrev pub invariant-depth_of_exprs-loop-expr : goal.invariant-depth_of_exprs-loop-expr
invariant-depth_of_exprs-loop-expr l = max l.deepest (trees_depth (view_exprs (drop l.expr-index l.all))) ≡ trees_depth (view_exprs l.all)

abbrev pub invariant-depth_of_factors-loop-factor : goal.invariant-depth_of_factors-loop-factor
invariant-depth_of_factors-loop-factor l = max l.deepest (factors_depth (view_factors (drop l.factor-index l.all))) ≡ factors_depth (view_factors l.all)

abbrev pub invariant-depth_of_terms-loop-term : goal.invariant-depth_of_terms-loop-term
invariant-depth_of_terms-loop-term l = max l.deepest (terms_depth (view_terms (drop l.term-index l.all))) ≡ terms_depth (view_terms l.all)
