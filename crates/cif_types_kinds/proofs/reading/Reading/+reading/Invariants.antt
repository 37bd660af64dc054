use Rattle.std.proofs.Common.{◌≡◌, drop, None, option_map}
use Rattle.cif_ast.specs.View.{view_exprs, view_terms, view_factors, view_branches}
use Rattle.cif_types_kinds.specs.Tables.{kind_for}
use Rattle.cif_types_kinds.specs.Readings.{component_in, lists_in, received_in}
use Rattle.cif_types_kinds.specs.Faults as faults
use Rattle.cif_types_kinds.proofs.reading.Reading.+reading.Given as goal

abbrev pub invariant-ask_all-loop-expr : goal.invariant-ask_all-loop-expr
invariant-ask_all-loop-expr l = faults.truth_fault (component_in l.self) (received_in l.self) (view_exprs (drop l.expr-index l.all)) ≡ faults.truth_fault (component_in l.self) (received_in l.self) (view_exprs l.all)

abbrev pub invariant-ask_factors-loop-factor : goal.invariant-ask_factors-loop-factor
invariant-ask_factors-loop-factor l = faults.factor_fault (component_in l.self) (received_in l.self) (view_factors (drop l.factor-index l.all)) ≡ faults.factor_fault (component_in l.self) (received_in l.self) (view_factors l.all)

abbrev pub invariant-ask_terms-loop-term : goal.invariant-ask_terms-loop-term
invariant-ask_terms-loop-term l = faults.term_fault (component_in l.self) (received_in l.self) (view_terms (drop l.term-index l.all)) ≡ faults.term_fault (component_in l.self) (received_in l.self) (view_terms l.all)

abbrev pub invariant-read_branches-loop-branch : goal.invariant-read_branches-loop-branch
invariant-read_branches-loop-branch l = record {
  first : faults.first_of (component_in l.self) (received_in l.self) (option_map (kind_for (lists_in l.self)) l.first) (view_branches (drop l.branch-index l.all)) ≡ faults.first_of (component_in l.self) (received_in l.self) None (view_branches l.all);
  told : faults.branch_fault (component_in l.self) (received_in l.self) (option_map (kind_for (lists_in l.self)) l.first) (view_branches (drop l.branch-index l.all)) ≡ faults.branch_fault (component_in l.self) (received_in l.self) None (view_branches l.all);
}
