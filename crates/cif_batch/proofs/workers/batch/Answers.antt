use Rattle.std.proofs.Common.{◌∙◌, length, sym}
use Rattle.std.proofs.lemmas.Result.{err_from_is_err_and}
use Rattle.st_ast.specs.View.{view}
use Rattle.plc_rows.specs.Told.{cases_of}
use Rattle.cif_batch.proofs.PartLaws.{all_texts, first_stop, some_in_chunk, stop_of_all}
use Rattle.cif_batch.proofs.workers.batch.Goals as goal

pub returns-in_err-joined-clause-stops : goal.returns-in_err-joined-clause-stops
returns-in_err-joined-clause-stops g c =
    let p = err_from_is_err_and c.from_residual-in_err-joined.result c.from_residual-in_err-joined.ensures.1 in
    let cases = c.as_slice-cases.result.now in
    rw (p.1, p.2, ← c.as_slice-cases.ensures) (stop_of_all (view c.args.program.now) (cases_of cases) _ (first_stop (view c.args.program.now) c.div_ceil-size.result 0 cases c.in_ok-parts.parts.items _ c.in_ok-parts.ensures c.in_err-joined.ensures.first))

pub returns-clause-texts : goal.returns-clause-texts
returns-clause-texts g c =
    rw (c.into_vec.ensures, ← c.as_slice-cases.ensures) (all_texts (view c.args.program.now) c.div_ceil-size.result 0 c.as_slice-cases.result.now c.in_ok-parts.parts.items _ c.in_ok-parts.ensures c.in_ok-joined.ensures.all)

pub parts_of-requires-clause-size : goal.parts_of-requires-clause-size
parts_of-requires-clause-size g c κs within =
    some_in_chunk (length c.as_slice-cases.result.now) c.args.workers c.div_ceil-size.result (sym c.is_empty.ensures ∙ c.if-is_empty.false) c.requires.workers.0 c.div_ceil-size.ensures
