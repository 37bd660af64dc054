use Rattle.std.proofs.Common.{arith}
use Rattle.cif_sim.proofs.Few.{few-events}
use Rattle.cif_sim.proofs.starts.count_events.Goals as goal

pub overflow_cast-result : goal.overflow_cast-result
overflow_cast-result c = omega (arith, few-events c.args.net.now, c.len.ensures)
