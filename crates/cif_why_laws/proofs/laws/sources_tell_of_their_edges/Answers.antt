use Rattle.cif_why_laws.proofs.Sources.{edges-told}
use Rattle.cif_why_laws.proofs.laws.sources_tell_of_their_edges.Goals as goal

pub returns : goal.returns
returns c = edges-told
