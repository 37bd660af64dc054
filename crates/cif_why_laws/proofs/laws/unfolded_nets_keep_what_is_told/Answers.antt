use Rattle.cif_why_laws.proofs.Unfolded.{told-unfolded}
use Rattle.cif_why_laws.proofs.laws.unfolded_nets_keep_what_is_told.Goals as goal

pub returns : goal.returns
returns c = told-unfolded
