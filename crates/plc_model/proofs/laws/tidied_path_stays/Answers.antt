use Rattle.plc_model.proofs.Tidying.{tidied-tidied}
use Rattle.plc_model.proofs.laws.tidied_path_stays.Goals as goal

pub returns : goal.returns
returns c = tidied-tidied
