use Rattle.plc_model.proofs.ScanLaws.{exact-legal}
use Rattle.plc_model.proofs.laws.exact_scans_are_legal.Goals as goal

pub returns : goal.returns
returns c = exact-legal
