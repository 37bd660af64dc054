use Rattle.std.proofs.Common.{◌≡◌, ◌++◌, drop}
use Rattle.cif_net_expr.specs.View.{view_update_branches}
use Rattle.cif_net.specs.View.{net_tree}
use Rattle.plc_event_model.specs.Own as o
use Rattle.plc_gen.proofs.types.conditions_types.Given as goal

abbrev pub invariant-loop-branch : goal.invariant-loop-branch
invariant-loop-branch l =
    l.types ++ o.conditions_types (net_tree l.net) l.received (view_update_branches (drop l.branch-index l.branches)) ≡ l.fn.types ++ o.conditions_types (net_tree l.net) l.received (view_update_branches l.branches)
