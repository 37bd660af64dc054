use Rattle.std.proofs.Common.{◌≡◌, true, false, drop, None}
use Rattle.cif_ast.specs.View.{view_exprs, view_terms, view_factors, view_branches}
use Rattle.cif_inst_constants.specs.Computed.{terms_computed, factors_computed, all_computed, any_computed, branches_computed}
use Rattle.cif_inst_constants.specs.Named.{name_value}
use Rattle.cif_inst_constants.proofs.evaluating.+evaluating.Given as goal

abbrev pub invariant-sum_computed-loop-term : goal.invariant-sum_computed-loop-term
invariant-sum_computed-loop-term l = terms_computed (name_value l.names) l.sum (view_terms (drop l.term-index l.rest)) ≡ terms_computed (name_value l.names) l.fn.first (view_terms l.rest)

abbrev pub invariant-product_computed-loop-factor : goal.invariant-product_computed-loop-factor
invariant-product_computed-loop-factor l = factors_computed (name_value l.names) l.product (view_factors (drop l.factor-index l.rest)) ≡ factors_computed (name_value l.names) l.fn.first (view_factors l.rest)

abbrev pub invariant-all_computed-loop-part : goal.invariant-all_computed-loop-part
invariant-all_computed-loop-part l = all_computed (name_value l.names) l.all (view_exprs (drop l.part-index l.parts)) ≡ all_computed (name_value l.names) true (view_exprs l.parts)

abbrev pub invariant-any_computed-loop-part : goal.invariant-any_computed-loop-part
invariant-any_computed-loop-part l = any_computed (name_value l.names) l.any (view_exprs (drop l.part-index l.parts)) ≡ any_computed (name_value l.names) false (view_exprs l.parts)

abbrev pub invariant-branches_computed-loop-branch : goal.invariant-branches_computed-loop-branch
invariant-branches_computed-loop-branch l = branches_computed (name_value l.names) l.chosen (view_branches (drop l.branch-index l.branches)) ≡ branches_computed (name_value l.names) None (view_branches l.branches)
