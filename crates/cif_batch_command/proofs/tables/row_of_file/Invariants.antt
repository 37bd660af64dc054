use Rattle.std.proofs.Common.{◌≡◌, ◌+◌, length}
use Rattle.std.specs.Prelude.{take}
use Rattle.plc_rows.specs.Told.{cases_of}
use Rattle.cif_batch_command.proofs.RowNumbers.{flat}
use Rattle.cif_batch_command.proofs.tables.row_of_file.Given as goal

abbrev pub invariant-loop-k : goal.invariant-loop-k
invariant-loop-k l = l.found ≡ length (flat (cases_of (take l.k l.rows))) + l.row
