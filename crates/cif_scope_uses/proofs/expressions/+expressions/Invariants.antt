use Rattle.std.proofs.Common.{◌≡◌, ◌++◌, map, drop}
use Rattle.cif_ast.specs.View.{view_exprs, view_terms, view_factors, view_branches}
use Rattle.cif_source.specs.Uses.{asking, names_in_all, term_names, factor_names, branch_names}
use Rattle.cif_scope_uses.specs.Views.{sort_of, use_of}
use Rattle.cif_scope_uses.proofs.expressions.+expressions.Given as goal

abbrev pub invariant-add_all_names-loop-expr : goal.invariant-add_all_names-loop-expr
invariant-add_all_names-loop-expr l = map use_of l.found.items ++ asking (sort_of l.asks) (names_in_all (view_exprs (drop l.expr-index l.all))) ≡ map use_of l.fn.found.items ++ asking (sort_of l.asks) (names_in_all (view_exprs l.all))

abbrev pub invariant-add_terms-loop-term : goal.invariant-add_terms-loop-term
invariant-add_terms-loop-term l = map use_of l.found.items ++ asking (sort_of l.asks) (term_names (view_terms (drop l.term-index l.all))) ≡ map use_of l.fn.found.items ++ asking (sort_of l.asks) (term_names (view_terms l.all))

abbrev pub invariant-add_factors-loop-factor : goal.invariant-add_factors-loop-factor
invariant-add_factors-loop-factor l = map use_of l.found.items ++ asking (sort_of l.asks) (factor_names (view_factors (drop l.factor-index l.all))) ≡ map use_of l.fn.found.items ++ asking (sort_of l.asks) (factor_names (view_factors l.all))

abbrev pub invariant-add_branches-loop-branch : goal.invariant-add_branches-loop-branch
invariant-add_branches-loop-branch l = map use_of l.found.items ++ asking (sort_of l.asks) (branch_names (view_branches (drop l.branch-index l.all))) ≡ map use_of l.fn.found.items ++ asking (sort_of l.asks) (branch_names (view_branches l.all))
