use Rattle.cif_inst_bodies.proofs.RuleLaws.{uses-fit}
use Rattle.cif_inst_bodies.proofs.laws.uses_of_events_fit.Goals as goal

pub returns : goal.returns
returns c = uses-fit
