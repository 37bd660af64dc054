use Rattle.cif_why_laws.proofs.Sources.{explains-steps}
use Rattle.cif_why_laws.proofs.laws.sources_tell_why.Goals as goal

pub returns : goal.returns
returns c = explains-steps
