use Rattle.std.proofs.Common.{arith}
use Rattle.st_ast.specs.View.{view}
use Rattle.st_scan.specs.Endings.{stopped}
use Rattle.plc_rows.specs.Told.{cases_of}
use Rattle.cif_batch_command.proofs.RowNumbers.{each_within, stopped_within}
use Rattle.cif_batch_command.proofs.TableLemmas.{are_tables}
use Rattle.cif_batch_command.proofs.tables.tables.Goals as goal

pub batch-requires-clause-few_rows : goal.batch-requires-clause-few_rows
batch-requires-clause-few_rows g c κs within = each_within 4294967296 c.args.cases.now.cases (omega (arith, c.requires.few))

pub row_of_file-row-requires-clause-case : goal.row_of_file-row-requires-clause-case
row_of_file-row-requires-clause-case g c =
    let fault = rw c.in-Err-Fault.field-0-is at c.in-Err-Fault.ensures.stops in
    let stop = rw (← c.in-Err-Fault.case-is, ← c.in-Err-Fault.row-is, ← c.in-Err-Fault.error-is) at fault in
    let within = stopped_within (view c.args.program.now) c.args.cases.now.cases c.in-Err-Fault.case c.in-Err-Fault.row (stopped c.in-Err-Fault.error) stop in
    rw c.as_slice.ensures (within.0, within.1)

pub row_of_file-row-requires-clause-few : goal.row_of_file-row-requires-clause-few
row_of_file-row-requires-clause-few g c =
    let fault = rw c.in-Err-Fault.field-0-is at c.in-Err-Fault.ensures.stops in
    let stop = rw (← c.in-Err-Fault.case-is, ← c.in-Err-Fault.row-is, ← c.in-Err-Fault.error-is) at fault in
    let within = stopped_within (view c.args.program.now) c.args.cases.now.cases c.in-Err-Fault.case c.in-Err-Fault.row (stopped c.in-Err-Fault.error) stop in
    rw c.as_slice.ensures (omega (arith, within.2, c.requires.few), c.requires.few)

pub returns-in-Ok-joined-clause-tables : goal.returns-in-Ok-joined-clause-tables
returns-in-Ok-joined-clause-tables g c =
    are_tables (view c.args.program.now) (cases_of c.args.cases.now.cases) c.in-Ok.texts.items c.in-Ok-joined.text.items c.in-Ok.ensures.texts c.in-Ok-joined.ensures
