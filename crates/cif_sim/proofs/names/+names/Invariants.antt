use Rattle.std.proofs.Common.{◌≡◌, ◌++◌, map, drop}
use Rattle.cif_net_expr.specs.View.{view_exprs, view_terms, view_factors, view_branches}
use Rattle.cif_net_model.specs.Reads.{list_names, term_names, factor_names, branch_names}
use Rattle.cif_sim.specs.Names.{name_read}
use Rattle.cif_sim.proofs.names.+names.Given as goal

abbrev pub invariant-add_exprs-loop-expr : goal.invariant-add_exprs-loop-expr
invariant-add_exprs-loop-expr l = map name_read l.found ++ list_names (view_exprs (drop l.expr-index l.all)) ≡ map name_read l.fn.found ++ list_names (view_exprs l.all)

abbrev pub invariant-add_terms-loop-term : goal.invariant-add_terms-loop-term
invariant-add_terms-loop-term l = map name_read l.found ++ term_names (view_terms (drop l.term-index l.all)) ≡ map name_read l.fn.found ++ term_names (view_terms l.all)

abbrev pub invariant-add_factors-loop-factor : goal.invariant-add_factors-loop-factor
invariant-add_factors-loop-factor l = map name_read l.found ++ factor_names (view_factors (drop l.factor-index l.all)) ≡ map name_read l.fn.found ++ factor_names (view_factors l.all)

abbrev pub invariant-add_branches-loop-branch : goal.invariant-add_branches-loop-branch
invariant-add_branches-loop-branch l = map name_read l.found ++ branch_names (view_branches (drop l.branch-index l.all)) ≡ map name_read l.fn.found ++ branch_names (view_branches l.all)
