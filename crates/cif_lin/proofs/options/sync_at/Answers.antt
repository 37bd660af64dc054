use Rattle.std.proofs.Common.{sym, arith}
use Rattle.cif_lin.proofs.NetLaws.{sync-seen, sync-missing}
use Rattle.cif_lin.proofs.options.sync_at.Goals as goal

pub returns-in-Some : goal.returns-in-Some
returns-in-Some c =
    let e = sync-seen c.args.net.now.autos c.args.event c.args.auto_number _ (sym c.in-Some.ensures.value) in
    grind (arith, e)

pub returns-in-None : goal.returns-in-None
returns-in-None c =
    let e = sync-missing c.args.net.now.autos c.args.event c.args.auto_number (sym c.in-None.ensures.value) in
    grind (arith, e)
