use Rattle.cif_sim_run.proofs.Changing.{fired-by}
use Rattle.cif_sim_run.proofs.acting.fire.Goals as goal

pub returns-in-Ok-clause-within : goal.returns-in-Ok-clause-within
returns-in-Ok-clause-within c = fired-by c.args.sim.now.guarded c.args.sim.now.state c.fire.new.self.state c.args.event c.in-Ok.choice c.in-Ok.ensures.choice
