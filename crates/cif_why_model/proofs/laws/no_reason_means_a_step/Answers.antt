use Rattle.cif_why_model.proofs.Enough.{no-reason}
use Rattle.cif_why_model.proofs.laws.no_reason_means_a_step.Goals as goal

pub returns : goal.returns
returns c = no-reason
