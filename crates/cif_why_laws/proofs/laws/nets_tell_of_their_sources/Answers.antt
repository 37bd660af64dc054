use Rattle.cif_why_laws.proofs.Sources.{net-tells}
use Rattle.cif_why_laws.proofs.laws.nets_tell_of_their_sources.Goals as goal

pub returns : goal.returns
returns c = net-tells
