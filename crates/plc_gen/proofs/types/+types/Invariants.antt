use Rattle.std.proofs.Common.{◌≡◌, ◌++◌, drop}
use Rattle.cif_net_expr.specs.View.{view_update_branches, view_updates}
use Rattle.cif_net.specs.View.{net_tree}
use Rattle.plc_event_model.specs.Own as o
use Rattle.plc_gen.proofs.types.+types.Given as goal

-- those of the last updates
abbrev pub invariant-updates_types-loop-at : goal.invariant-updates_types-loop-at
invariant-updates_types-loop-at l = l.types ≡ l.fn.types ++ o.updates_types (net_tree l.net) l.received (view_updates (drop l.at l.updates))

abbrev pub invariant-bodies_types-loop-branch : goal.invariant-bodies_types-loop-branch
invariant-bodies_types-loop-branch l =
    l.types ++ o.bodies_types (net_tree l.net) l.received (view_update_branches (drop l.branch-index l.branches)) ≡ l.fn.types ++ o.bodies_types (net_tree l.net) l.received (view_update_branches l.branches)
