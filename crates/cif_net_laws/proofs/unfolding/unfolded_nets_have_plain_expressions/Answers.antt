use Rattle.cif_net_laws.proofs.Plain.{plain-exprs}
use Rattle.cif_net_laws.proofs.unfolding.unfolded_nets_have_plain_expressions.Goals as goal

pub returns : goal.returns
returns c = plain-exprs
