use Rattle.std.proofs.Common.{◌∙◌}
use Rattle.plc_rows.proofs.Remaining.{starts_left}
use Rattle.plc_rows.proofs.records.records.Goals as goal

pub returns : goal.returns
returns c =
    let fr = c.from_reader.ensures in
    let h = c.has_headers.ensures in
    let f = c.flexible.ensures in
    starts_left c.from_reader.result c.args.text.now (rw (f, h) at fr.trim ∙ c.new.ensures.trim) (rw (f, h) at fr.has_headers) fr.headers (rw (f, h) at fr.config ∙ c.new.ensures.config) fr.source fr.state
