use Rattle.cif_system.proofs.FirstRunLaws.{exact_scan-runs}
use Rattle.cif_system.proofs.laws.exact_scan_runs_first_steps.Goals as goal

pub returns : goal.returns
returns c = exact_scan-runs
