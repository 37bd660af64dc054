use Rattle.std.proofs.Common.{◌∙◌, [], add-one, ap, arith, length}
use Rattle.std.proofs.lemmas.Result.{err_from_is_err_and}
use Rattle.plc_rows.specs.Rows.{row_number}
use Rattle.plc_rows.proofs.ColumnLaws.{as_many, as_many_inputs}
use Rattle.plc_rows.proofs.RowLaws.{places}
use Rattle.plc_rows.proofs.Whole.{first_row, all_rows, too_many_in_file, wrong_row_in_file, right_row}
use Rattle.plc_rows.proofs.reading.read_rows.Goals as goal

pub returns-in_err-columns-clause-refused : goal.returns-in_err-columns-clause-refused
returns-in_err-columns-clause-refused c =
    let p = err_from_is_err_and c.from_residual.result c.from_residual.ensures.1 in
    rw (p.1, p.2) (first_row c.args.program.now.vars c.args.text.now _ (c.in_err-columns.ensures.refused row_number c.args.text.now (c.requires.size, c.records-reader.ensures)))

pub loop-rows-init : goal.loop-rows-init
loop-rows-init c = rw c.new-rows.ensures ((0, [], c.in_ok-columns.ensures.stands row_number c.args.text.now (c.requires.size, c.records-reader.ensures)), omega arith)

pub returns-then-number-gt-MOST_ROWS-clause-refused : goal.returns-then-number-gt-MOST_ROWS-clause-refused
returns-then-number-gt-MOST_ROWS-clause-refused c =
    let l = c.loop-rows in
    too_many_in_file c.args.program.now.vars c.in_ok-columns.columns c.args.text.now l.reader c.next_record.new.reader l.number l.rows _ l.invariant.0 (rw c.if-branch.true at c.in_ok-next_record.ensures) (omega arith)

pub read_row-requires-clause-few : goal.read_row-requires-clause-few
read_row-requires-clause-few c =
    let head = c.in_ok-columns.ensures.header in
    let many = as_many c.args.program.now.vars head.0 c.in_ok-columns.columns head.1.columns in
    omega (arith, head.2, many, ap length c.as_slice.ensures)

pub read_row-requires-clause-places : goal.read_row-requires-clause-places
read_row-requires-clause-places c =
    let head = c.in_ok-columns.ensures.header in
    rw c.as_slice.ensures (places c.args.program.now.vars head.0 c.in_ok-columns.columns (length c.inputs-inputs.result.now) (ap length c.inputs-inputs.ensures.numbers ∙ as_many_inputs 0 c.args.program.now.vars) head.1.columns)

pub returns-in_err-read_row-clause-refused : goal.returns-in_err-read_row-clause-refused
returns-in_err-read_row-clause-refused c =
    let l = c.loop-rows in
    let p = err_from_is_err_and c.from_residual-in_err-read_row.result c.from_residual-in_err-read_row.ensures.1 in
    rw (p.1, p.2) (wrong_row_in_file c.args.program.now.vars c.in_ok-columns.columns c.args.text.now l.reader c.next_record.new.reader l.number l.rows _ l.invariant.0 (rw c.if-branch.true at c.in_ok-next_record.ensures) (omega arith) _ (rw c.as_slice.ensures at c.in_err-read_row.ensures.err))

pub loop-rows-preserved : goal.loop-rows-preserved
loop-rows-preserved c =
    let l = c.loop-rows in
    let row = rw c.as_slice.ensures at c.in_ok-read_row.ensures.ok in
    let inputs = ap length c.inputs-inputs.ensures.numbers ∙ as_many_inputs 0 c.args.program.now.vars in
    rw (c.in_ok-push.ensures.ok, add-one l.number) (
      right_row c.args.program.now.vars c.in_ok-columns.columns c.args.text.now l.reader c.next_record.new.reader l.number l.rows _ l.invariant.0 (rw c.if-branch.true at c.in_ok-next_record.ensures) (omega arith) row.0 _ (length c.inputs-inputs.result.now) inputs row.1,
      omega arith,
    )

pub returns-clause-rows : goal.returns-clause-rows
returns-clause-rows c =
    let l = c.loop-rows in
    all_rows c.args.program.now.vars c.in_ok-columns.columns c.args.text.now l.reader c.next_record.new.reader l.number l.rows _ l.invariant.0 (rw c.if-branch.false at c.in_ok-next_record.ensures)
