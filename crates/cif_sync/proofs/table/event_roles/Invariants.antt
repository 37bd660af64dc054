use Rattle.std.proofs.Common.{◌≡◌, map}
use Rattle.std.specs.List.{range_with_len}
use Rattle.cif_net.specs.View.{event_roles_tree}
use Rattle.cif_sync.specs.Columns.{roles_at}
use Rattle.cif_sync.proofs.table.event_roles.Given as goal

abbrev pub invariant-loop-event : goal.invariant-loop-event
invariant-loop-event l = map event_roles_tree l.all ≡ map (roles_at l.syncs l.monitors l.sends l.receives) (range_with_len 0 l.event)
