use Rattle.plc_model.proofs.FaceLaws.{one-state}
use Rattle.plc_model.proofs.laws.one_state.Goals as goal

pub returns : goal.returns
returns c = one-state
