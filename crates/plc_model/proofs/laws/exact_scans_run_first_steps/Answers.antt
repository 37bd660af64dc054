use Rattle.plc_model.proofs.ScanLaws.{exact-first}
use Rattle.plc_model.proofs.laws.exact_scans_run_first_steps.Goals as goal

pub returns : goal.returns
returns c = exact-first
