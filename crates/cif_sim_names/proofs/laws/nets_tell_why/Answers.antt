use Rattle.cif_sim_names.proofs.RoleLaws.{nets-tell-why}
use Rattle.cif_sim_names.proofs.laws.nets_tell_why.Goals as goal

pub returns : goal.returns
returns c = nets-tell-why
