use Rattle.std.proofs.Common.{arith}
use Rattle.std.proofs.lemmas.Grind.{common_steps}
use Rattle.std.proofs.lemmas.List.FromFn.{map-range_with_len_more}
use Rattle.cif_sync.specs.Columns.{roles_at}
use Rattle.cif_sync.proofs.table.event_roles.Goals as goal

pub loop-event-preserved : goal.loop-event-preserved
loop-event-preserved c =
    let e = map-range_with_len_more (roles_at c.in_ok-syncs.syncs c.in_ok-monitors.monitors c.in_ok-sends.sends c.in_ok-receives.receives) 0 c.loop-event.event c.loop-event.event (omega arith) in
    grind (arith, common_steps, e)
