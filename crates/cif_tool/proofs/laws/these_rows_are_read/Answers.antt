use Rattle.std.proofs.Common.{refl}
use Rattle.std.specs.Fmt.{digits}
use Rattle.csv.specs.Machine.{next_record}
use Rattle.csv.specs.Reading.{records_from, strip_bom}
use Rattle.plc_rows.specs.Rows.{RowsOf, first_row_fault}
use Rattle.cif_tool.proofs.laws.these_rows_are_read.Goals as goal

pub returns : goal.returns
unfolding RowsOf digits first_row_fault records_from next_record strip_bom
returns c = (refl, refl)
