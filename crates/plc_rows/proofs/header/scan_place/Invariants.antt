use Rattle.std.proofs.Common.{◌≡◌, ◌+◌, ◌-◌, ◌≤◌, drop, length}
use Rattle.plc_rows.specs.Columns.{scan_place}
use Rattle.plc_rows.proofs.header.scan_place.Given as goal

abbrev pub invariant-loop-place : goal.invariant-loop-place
invariant-loop-place l = (l.place ≤ length l.header) × (l.place + scan_place (drop l.place l.header) ≡ scan_place l.header)

abbrev pub decreases-loop-place : goal.decreases-loop-place
decreases-loop-place l = length l.header - l.place
