use Rattle.std.proofs.Common.{◌≡◌, drop}
use Rattle.std.specs.List.{list_any}
use Rattle.cif_net_expr.specs.View.{view_branches, view_exprs, view_factors, view_terms}
use Rattle.cif_net_model.specs.Reads as r
use Rattle.plc_event.specs.Changed.{is_changed}
use Rattle.plc_event.proofs.changes.Changes.+names.Given as goal

-- what is left decides
abbrev pub invariant-touches_list-loop-part : goal.invariant-touches_list-loop-part
invariant-touches_list-loop-part l = list_any (is_changed l.self) (r.list_names (view_exprs (drop l.part-index l.parts))) ≡ list_any (is_changed l.self) (r.list_names (view_exprs l.parts))

abbrev pub invariant-touches_terms-loop-part : goal.invariant-touches_terms-loop-part
invariant-touches_terms-loop-part l = list_any (is_changed l.self) (r.term_names (view_terms (drop l.part-index l.parts))) ≡ list_any (is_changed l.self) (r.term_names (view_terms l.parts))

abbrev pub invariant-touches_factors-loop-part : goal.invariant-touches_factors-loop-part
invariant-touches_factors-loop-part l = list_any (is_changed l.self) (r.factor_names (view_factors (drop l.part-index l.parts))) ≡ list_any (is_changed l.self) (r.factor_names (view_factors l.parts))

abbrev pub invariant-touches_branches-loop-branch : goal.invariant-touches_branches-loop-branch
invariant-touches_branches-loop-branch l = list_any (is_changed l.self) (r.branch_names (view_branches (drop l.branch-index l.branches))) ≡ list_any (is_changed l.self) (r.branch_names (view_branches l.branches))
