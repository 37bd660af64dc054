use Rattle.cif_generate.proofs.FaceLaws.{face-same}
use Rattle.cif_generate.proofs.laws.net_shows_the_same.Goals as goal

pub returns : goal.returns
returns c = face-same
