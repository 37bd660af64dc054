use Rattle.std.proofs.Common.{sym, arith}
use Rattle.cif_net.specs.View.{role_of}
use Rattle.cif_lin.proofs.NetLaws.{edges-seen, edges-missing}
use Rattle.cif_lin.proofs.options.edges_at.Goals as goal

pub returns-in-Some : goal.returns-in-Some
returns-in-Some c =
    let e = edges-seen c.args.net.now.autos (role_of c.args.role) c.args.event c.args.auto_number _ (sym c.in-Some.ensures.value) in
    grind (arith, e)

pub returns-in-None : goal.returns-in-None
returns-in-None c =
    let e = edges-missing c.args.net.now.autos (role_of c.args.role) c.args.event c.args.auto_number (sym c.in-None.ensures.value) in
    grind (arith, e)
