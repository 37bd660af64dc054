use Rattle.cif_inst_bodies.proofs.RuleLaws.{bodies-pass}
use Rattle.cif_inst_bodies.proofs.laws.components_pass_what_bodies_pass.Goals as goal

pub returns : goal.returns
returns c = bodies-pass
