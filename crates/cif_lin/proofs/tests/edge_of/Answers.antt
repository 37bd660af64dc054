use Rattle.std.proofs.Common.{sym}
use Rattle.cif_lin.proofs.NetLaws.{edge-seen, edge-missing}
use Rattle.cif_lin.proofs.tests.edge_of.Goals as goal

pub returns-in-None : goal.returns-in-None
returns-in-None c = edge-missing c.args.net.now.autos c.args.number c.args.edge (sym c.in-None.ensures.value)

pub returns-in-Some : goal.returns-in-Some
returns-in-Some c = edge-seen c.args.net.now.autos c.args.number c.args.edge _ _ (sym c.in-Some.ensures.value) c.get-in-Some.ensures.value
