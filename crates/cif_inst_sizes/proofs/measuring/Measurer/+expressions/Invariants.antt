use Rattle.std.proofs.Common.{◌≡◌, drop}
use Rattle.cif_ast.specs.View.{view_exprs, view_terms, view_factors, view_branches}
use Rattle.cif_inst_sizes.specs.Counted.{none, trees_counted, terms_counted, factors_counted, branches_counted}
use Rattle.cif_inst_sizes.specs.Weights.{names_by}
use Rattle.cif_inst_sizes.proofs.measuring.Measurer.+expressions.Given as goal

abbrev pub invariant-parts-loop-expr : goal.invariant-parts-loop-expr
invariant-parts-loop-expr l = trees_counted (names_by l.self) l.found (view_exprs (drop l.expr-index l.all)) ≡ trees_counted (names_by l.self) none (view_exprs l.all)

abbrev pub invariant-terms-loop-term : goal.invariant-terms-loop-term
invariant-terms-loop-term l = terms_counted (names_by l.self) l.found (view_terms (drop l.term-index l.all)) ≡ terms_counted (names_by l.self) l.fn.first (view_terms l.all)

abbrev pub invariant-factors-loop-factor : goal.invariant-factors-loop-factor
invariant-factors-loop-factor l = factors_counted (names_by l.self) l.found (view_factors (drop l.factor-index l.all)) ≡ factors_counted (names_by l.self) l.fn.first (view_factors l.all)

abbrev pub invariant-branches-loop-branch : goal.invariant-branches-loop-branch
invariant-branches-loop-branch l = branches_counted (names_by l.self) l.found (view_branches (drop l.branch-index l.all)) ≡ branches_counted (names_by l.self) l.fn.other (view_branches l.all)
