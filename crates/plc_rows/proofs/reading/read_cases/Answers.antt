use Rattle.std.proofs.Common.{◌∙◌, [], add-one, ap, arith, length, sym}
use Rattle.std.proofs.lemmas.Result.{err_from_is_err_and}
use Rattle.csv.specs.Records.{fields_of}
use Rattle.plc_rows.specs.Rows.{case_number}
use Rattle.plc_rows.proofs.ColumnLaws.{as_many, as_many_inputs}
use Rattle.plc_rows.proofs.RowLaws.{places}
use Rattle.plc_rows.proofs.ScanColumn.{has_number}
use Rattle.plc_rows.proofs.Casings.{cut_nothing}
use Rattle.plc_rows.proofs.Whole.{first_case, cases_read, too_many_in_cases, wrong_row_in_cases, wrong_number_in_cases, next_in_cases}
use Rattle.plc_rows.proofs.reading.read_cases.Goals as goal

pub returns-in_err-header-clause-refused : goal.returns-in_err-header-clause-refused
returns-in_err-header-clause-refused c =
    let p = err_from_is_err_and c.from_residual.result c.from_residual.ensures.1 in
    rw (p.1, p.2) (first_case c.args.program.now.vars c.args.text.now _ (c.in_err-header.ensures.refused case_number c.args.text.now (c.requires.size, c.records-reader.ensures)))

pub loop-cases-init : goal.loop-cases-init
loop-cases-init c = rw (c.new-cases.ensures, c.as_slice-columns.ensures) (([], [], cut_nothing, c.in_ok-header.ensures.stands case_number c.args.text.now (c.requires.size, c.records-reader.ensures)), omega arith)

pub returns-then-row-gt-MOST_ROWS-clause-refused : goal.returns-then-row-gt-MOST_ROWS-clause-refused
returns-then-row-gt-MOST_ROWS-clause-refused c =
    let l = c.loop-cases in
    too_many_in_cases c.args.program.now.vars c.as_slice-columns.result.now c.args.text.now l.reader c.next_record.new.reader l.row l.cases _ l.invariant.0 (rw c.if-branch.true at c.in_ok-next_record.ensures) (omega arith)

pub read_row-requires-clause-few : goal.read_row-requires-clause-few
read_row-requires-clause-few c =
    let head = c.in_ok-header.ensures.header in
    let many = as_many c.args.program.now.vars head.0 c.in_ok-header.header head.1.columns in
    omega (arith, head.2, many, ap length c.as_slice-columns.ensures)

pub read_row-requires-clause-places : goal.read_row-requires-clause-places
read_row-requires-clause-places c =
    let head = c.in_ok-header.ensures.header in
    rw c.as_slice-columns.ensures (places c.args.program.now.vars head.0 c.in_ok-header.header (length c.inputs-inputs.result.now) (ap length c.inputs-inputs.ensures.numbers ∙ as_many_inputs 0 c.args.program.now.vars) head.1.columns)

pub returns-in_err-values-clause-refused : goal.returns-in_err-values-clause-refused
returns-in_err-values-clause-refused c =
    let l = c.loop-cases in
    let p = err_from_is_err_and c.from_residual-in_err-values.result c.from_residual-in_err-values.ensures.1 in
    rw (p.1, p.2) (wrong_row_in_cases c.args.program.now.vars c.as_slice-columns.result.now c.args.text.now l.reader c.next_record.new.reader l.row l.cases _ l.invariant.0 (rw c.if-branch.true at c.in_ok-next_record.ensures) (omega arith) _ c.in_err-values.ensures.err)

pub number_at-number-requires : goal.number_at-number-requires
number_at-number-requires c =
    rw c.scan_place-place.ensures (has_number c.loop-cases.row c.args.program.now.vars c.as_slice-columns.result.now (fields_of c.next_record.new.into) (rw c.as_slice-columns.ensures c.in_ok-header.ensures.header) c.in_ok-values.ensures.ok.0)

pub returns-then-not-may_have-clause-refused : goal.returns-then-not-may_have-clause-refused
returns-then-not-may_have-clause-refused c =
    let l = c.loop-cases in
    wrong_number_in_cases c.args.program.now.vars c.as_slice-columns.result.now c.args.text.now l.reader c.next_record.new.reader l.row l.cases _ l.invariant.0 (rw c.if-branch.true at c.in_ok-next_record.ensures) (omega arith) c.in_ok-values.ensures.ok.0
    c.number_at-number.result (rw c.scan_place-place.ensures at c.number_at-number.ensures) (sym c.may_have.ensures ∙ c.if-not-may_have.true)

pub put-requires : goal.put-requires
put-requires c = sym c.may_have.ensures ∙ c.if-not-may_have.false

pub loop-cases-preserved : goal.loop-cases-preserved
loop-cases-preserved c =
    let l = c.loop-cases in
    let row = c.in_ok-values.ensures.ok in
    let inputs = ap length c.inputs-inputs.ensures.numbers ∙ as_many_inputs 0 c.args.program.now.vars in
    rw (add-one l.row) (
      next_in_cases c.args.program.now.vars c.as_slice-columns.result.now c.args.text.now l.reader c.next_record.new.reader l.row l.cases _ l.invariant.0 (rw c.if-branch.true at c.in_ok-next_record.ensures) (omega arith) row.0
          c.in_ok-values.values (length c.inputs-inputs.result.now) inputs row.1 c.number_at-number.result (rw c.scan_place-place.ensures at c.number_at-number.ensures) (sym c.may_have.ensures ∙ c.if-not-may_have.false)
          c.put.new.self c.in_ok-put.ensures.cut c.in_ok-put.ensures.last,
      omega arith,
    )

pub returns-clause-cases : goal.returns-clause-cases
returns-clause-cases c =
    let l = c.loop-cases in
    cases_read c.args.program.now.vars c.as_slice-columns.result.now c.args.text.now l.reader c.next_record.new.reader l.row l.cases _ l.invariant.0 (rw c.if-branch.false at c.in_ok-next_record.ensures)
    c.in_ok-into_cases.field-0 c.in_ok-into_cases.ensures
