use Rattle.std.proofs.Common.{◌≡◌, ◌∙◌, true, false, sym, get_or, arith}
use Rattle.csv.specs.Records.{fields_of}
use Rattle.plc_rows.specs.Columns.{rule_of, stands}
use Rattle.plc_rows.specs.declared.header.Column.TheVariants as column
use Rattle.plc_rows.proofs.RowLaws.{as_long_cell, field_missing, item_again, cell_wrong, cell_right, cell_put, line_of}
use Rattle.plc_rows.proofs.cells.read_row.Goals as goal

pub unreachable-requires : goal.unreachable-requires
unreachable-requires c =
    let past = field_missing (fields_of c.args.row.now) c.loop-j.j (sym c.in_default.ensures.value) in
    absurd (omega (arith, past, c.len.ensures))

pub returns-then-not-put_cell-clause-err : goal.returns-then-not-put_cell-clause-err
returns-then-not-put_cell-clause-err c =
    let col = get_or c.args.columns.now c.loop-j.j column.Scan in
    let wrong : stands (rule_of c.args.numbering) c.args.number col c.in-Some.cell.now ≡ false = sym c.put_cell.ensures.stands ∙ c.if-not-put_cell.true in
    line_of (rule_of c.args.numbering) c.args.columns.now c.args.number (fields_of c.args.row.now) (omega (arith, c.len.ensures)) ∙ sym c.loop-j.invariant.1
    ∙ cell_wrong c.args.columns.now (fields_of c.args.row.now) c.loop-j.j c.args.number col c.in-Some.cell.now c.loop-j-test.true
    (item_again c.args.columns.now c.loop-j.j column.Scan c.loop-j-test.true) (sym c.in-Some.ensures.value) (rule_of c.args.numbering) wrong

pub loop-j-preserved : goal.loop-j-preserved
loop-j-preserved c =
    let col = get_or c.args.columns.now c.loop-j.j column.Scan in
    let right : stands (rule_of c.args.numbering) c.args.number col c.in-Some.cell.now ≡ true = sym c.put_cell.ensures.stands ∙ c.if-not-put_cell.false in
    let at = item_again c.args.columns.now c.loop-j.j column.Scan c.loop-j-test.true in
    let put = c.if-not-put_cell.ensures.put in (
      rw put (as_long_cell col c.in-Some.cell.now c.loop-j.cells ∙ c.loop-j.invariant.0),
      cell_right c.args.columns.now (fields_of c.args.row.now) c.loop-j.j c.args.number col c.in-Some.cell.now c.loop-j-test.true at (sym c.in-Some.ensures.value) (rule_of c.args.numbering) right ∙ c.loop-j.invariant.1,
      rw put (cell_put c.args.columns.now (fields_of c.args.row.now) c.loop-j.j c.args.number col c.in-Some.cell.now c.loop-j-test.true at (sym c.in-Some.ensures.value) c.loop-j.cells ∙ c.loop-j.invariant.2),
    )
