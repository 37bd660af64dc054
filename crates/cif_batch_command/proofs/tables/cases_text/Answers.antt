use Rattle.plc_rows.specs.Told.{cases_of}
use Rattle.cif_batch_command.proofs.TableLemmas.{few_cases, rows_in_all}
use Rattle.cif_batch_command.proofs.tables.cases_text.Goals as goal

pub tables-found-requires-clause-few : goal.tables-found-requires-clause-few
tables-found-requires-clause-few g c κs within = rows_in_all c.args.program.now.vars c.args.text.now (cases_of c.in-Ok.cases.cases) c.in-Ok.ensures.cases

pub tables-found-requires-clause-full : goal.tables-found-requires-clause-full
tables-found-requires-clause-full g c κs within = few_cases c.args.program.now.vars c.args.text.now c.in-Ok.cases.cases c.in-Ok.ensures.cases
