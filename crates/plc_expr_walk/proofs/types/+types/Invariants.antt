use Rattle.std.proofs.Common.{◌≡◌, ◌++◌, drop}
use Rattle.cif_net_expr.specs.View.{view_branches, view_exprs, view_factors, view_terms}
use Rattle.cif_net.specs.View.{net_tree}
use Rattle.plc_expr.specs.Sorts as s
use Rattle.plc_expr_walk.proofs.types.+types.Given as goal

-- the types so far, and those of what is left, are those of all
abbrev pub invariant-list_types-loop-part : goal.invariant-list_types-loop-part
invariant-list_types-loop-part l = l.types ++ s.list_types (net_tree l.net) l.received (view_exprs (drop l.part-index l.parts)) ≡ l.fn.types ++ s.list_types (net_tree l.net) l.received (view_exprs l.parts)

abbrev pub invariant-terms_types-loop-part : goal.invariant-terms_types-loop-part
invariant-terms_types-loop-part l = l.types ++ s.terms_types (net_tree l.net) l.received (view_terms (drop l.part-index l.parts)) ≡ l.fn.types ++ s.terms_types (net_tree l.net) l.received (view_terms l.parts)

abbrev pub invariant-factors_types-loop-part : goal.invariant-factors_types-loop-part
invariant-factors_types-loop-part l = l.types ++ s.factors_types (net_tree l.net) l.received (view_factors (drop l.part-index l.parts)) ≡ l.fn.types ++ s.factors_types (net_tree l.net) l.received (view_factors l.parts)

abbrev pub invariant-branches_types-loop-branch : goal.invariant-branches_types-loop-branch
invariant-branches_types-loop-branch l = l.types ++ s.branches_types (net_tree l.net) l.received (view_branches (drop l.branch-index l.branches)) ≡ l.fn.types ++ s.branches_types (net_tree l.net) l.received (view_branches l.branches)
