use Rattle.plc_rows.proofs.Remaining.{read_ok}
use Rattle.plc_rows.proofs.records.next_record.Goals as goal

pub returns : goal.returns
returns c =
    let r = c.read_byte_record in
    read_ok c.args.reader.now r.new.self _ r.result c.in-Ok.found c.in-Ok.is r.ensures.reads r.ensures.ready
