use Rattle.csv.specs.Records.{fields_of}
use Rattle.plc_rows.proofs.Whole.{no_record, wrong_header, right_header, header_fits, on_err, on_ok}
use Rattle.plc_rows.proofs.reading.first_columns.Goals as goal

pub returns-then-not-branch-clause-refused : goal.returns-then-not-branch-clause-refused
returns-then-not-branch-clause-refused c = λ scan text begins.
    no_record scan c.args.program.now.vars text (fields_of c.next_record.new.into) c.next_record.new.reader (rw c.if-not-branch.true at c.in_ok-next_record.ensures _ begins.1)

pub read_header-requires : goal.read_header-requires
read_header-requires c =
    header_fits c.requires.0 (fields_of c.next_record.new.into) c.next_record.new.reader c.requires.1.0 (rw c.if-not-branch.false at c.in_ok-next_record.ensures _ c.requires.1.1)

pub returns-clause-header : goal.returns-clause-header
returns-clause-header c =
    on_ok _ _ c.read_header.result (λ cols h. (
      fields_of c.next_record.new.into,
      h,
      header_fits c.requires.0 (fields_of c.next_record.new.into) c.next_record.new.reader c.requires.1.0 (rw c.if-not-branch.false at c.in_ok-next_record.ensures _ c.requires.1.1),
    )) c.read_header.ensures.ok

pub returns-clause-stands : goal.returns-clause-stands
returns-clause-stands c =
    on_ok _ _ c.read_header.result (λ cols h scan text begins.
    right_header scan c.args.program.now.vars text (fields_of c.next_record.new.into) c.next_record.new.reader (rw c.if-not-branch.false at c.in_ok-next_record.ensures _ begins.1) cols h)
    c.read_header.ensures.ok

pub returns-clause-refused : goal.returns-clause-refused
returns-clause-refused c =
    on_err _ _ c.read_header.result (λ e h scan text begins.
    wrong_header scan c.args.program.now.vars text (fields_of c.next_record.new.into) c.next_record.new.reader (rw c.if-not-branch.false at c.in_ok-next_record.ensures _ begins.1) e h)
    c.read_header.ensures.err
