use Rattle.cif_system.proofs.ScanLaws.{exact_scan-legal}
use Rattle.cif_system.proofs.laws.exact_scan_is_legal.Goals as goal

pub returns : goal.returns
returns c = exact_scan-legal
