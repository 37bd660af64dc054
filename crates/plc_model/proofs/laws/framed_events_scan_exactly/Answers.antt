use Rattle.plc_model.proofs.Framed.{framed-scans}
use Rattle.plc_model.proofs.laws.framed_events_scan_exactly.Goals as goal

pub returns : goal.returns
returns c = framed-scans
