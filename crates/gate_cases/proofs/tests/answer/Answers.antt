use Rattle.std.proofs.Common.{arith}
use Rattle.plc_rows.specs.Told.{cases_of}
use Rattle.cif_batch_command.proofs.RowNumbers.{each_within}
use Rattle.cif_batch_command.proofs.TableLemmas.{few_cases, rows_in_all}
use Rattle.gate_cases.proofs.tests.answer.Goals as goal

pub batch-requires-clause-few : goal.batch-requires-clause-few
batch-requires-clause-few g c κs within =
    omega (arith, few_cases c.in-Ok.program.vars c.args.text.now c.in-Ok-read_cases.cases.cases c.in-Ok-read_cases.ensures.cases)

pub batch-requires-clause-few_rows : goal.batch-requires-clause-few_rows
batch-requires-clause-few_rows g c κs within =
    each_within 4294967296 c.in-Ok-read_cases.cases.cases (omega (arith, rows_in_all c.in-Ok.program.vars c.args.text.now (cases_of c.in-Ok-read_cases.cases.cases) c.in-Ok-read_cases.ensures.cases))
