use Rattle.cif_system.proofs.RunLaws.{exact_scan-state}
use Rattle.cif_system.proofs.laws.exact_scan_keeps_states.Goals as goal

pub returns : goal.returns
returns c = exact_scan-state
