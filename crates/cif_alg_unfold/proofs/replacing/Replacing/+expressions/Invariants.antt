use Rattle.std.proofs.Common.{◌≡◌, ◌++◌, map, drop}
use Rattle.cif_net_expr.specs.View.{view, view_branch, view_branches, view_exprs, view_factor, view_factors, view_term, view_terms}
use Rattle.cif_alg_unfold.specs.Tables.{by_table}
use Rattle.cif_alg_unfold.proofs.ListLaws.{made_exprs, made_terms, made_factors, made_branches}
use Rattle.cif_alg_unfold.proofs.replacing.Replacing.+expressions.Given as goal

abbrev pub invariant-exprs-loop-expr : goal.invariant-exprs-loop-expr
invariant-exprs-loop-expr l = map view l.made ++ made_exprs (by_table l.self.by.now) (view_exprs (drop l.expr-index l.all)) ≡ made_exprs (by_table l.self.by.now) (view_exprs l.all)

abbrev pub invariant-terms-loop-one : goal.invariant-terms-loop-one
invariant-terms-loop-one l = map view_term l.made ++ made_terms (by_table l.self.by.now) (view_terms (drop l.one-index l.all)) ≡ made_terms (by_table l.self.by.now) (view_terms l.all)

abbrev pub invariant-factors-loop-one : goal.invariant-factors-loop-one
invariant-factors-loop-one l = map view_factor l.made ++ made_factors (by_table l.self.by.now) (view_factors (drop l.one-index l.all)) ≡ made_factors (by_table l.self.by.now) (view_factors l.all)

abbrev pub invariant-branches-loop-one : goal.invariant-branches-loop-one
invariant-branches-loop-one l = map view_branch l.made ++ made_branches (by_table l.self.by.now) (view_branches (drop l.one-index l.all)) ≡ made_branches (by_table l.self.by.now) (view_branches l.all)
