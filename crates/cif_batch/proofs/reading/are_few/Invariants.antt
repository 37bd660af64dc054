use Rattle.std.proofs.Common.{◌≡◌, ◌+◌, drop, length}
use Rattle.plc_rows.specs.Told.{cases_of}
use Rattle.cif_batch.proofs.CutLaws.{flat}
use Rattle.cif_batch.proofs.reading.are_few.Given as goal

abbrev pub invariant-loop-case : goal.invariant-loop-case
invariant-loop-case l = length (flat (cases_of l.cases)) + l.left ≡ 100000 + length (flat (cases_of (drop l.case-index l.cases)))
