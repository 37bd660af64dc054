-- A step changes no more than its choice may.
use Rattle.cif_system.proofs.Lists.{slice_get-below}
use Rattle.cif_net.specs.View.{state_tree}
use Rattle.cif_sim_run.proofs.Changing.{differ-within}
use Rattle.cif_sim_run.proofs.lines.LineWriter.put_fire.Goals as goal

pub of-touched-requires : goal.of-touched-requires
of-touched-requires c = slice_get-below c.args.self.now.touches.choices c.args.fired.choice c.requires.within.choice c.requires.within.listed

pub put_step-requires : goal.put_step-requires
put_step-requires c = differ-within c.args.self.now.touches c.args.fired.choice c.of-touched.result.now (state_tree c.args.self.now.before) (state_tree c.args.after.now) c.of-touched.ensures c.requires.within

pub copy_shown-requires-clause-within : goal.copy_shown-requires-clause-within
copy_shown-requires-clause-within c = differ-within c.args.self.now.touches c.args.fired.choice c.of-touched.result.now (state_tree c.args.self.now.before) (state_tree c.args.after.now) c.of-touched.ensures c.requires.within
