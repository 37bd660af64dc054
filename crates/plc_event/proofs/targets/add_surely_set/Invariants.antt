use Rattle.std.proofs.Common.{◌≡◌, ◌++◌, drop}
use Rattle.cif_net_expr.specs.View.{view_updates}
use Rattle.plc_event_model.specs.Acts.{surely_set}
use Rattle.plc_event.proofs.targets.add_surely_set.Given as goal

abbrev pub invariant-loop-update : goal.invariant-loop-update
invariant-loop-update l = l.found ++ surely_set (view_updates (drop l.update-index l.updates)) ≡ l.fn.found ++ surely_set (view_updates l.updates)
