use Rattle.std.proofs.Common.{◌∙◌, ap}
use Rattle.grammar.specs.Pieces.{same}
use Rattle.grammar.proofs.Texts.{same_is}
use Rattle.plc_rows.proofs.cells.is_number.Goals as goal

pub returns : goal.returns
returns c = c.eq.ensures ∙ same_is c.args.cell.now c.as_bytes.result.now ∙ ap (same c.args.cell.now) (c.as_bytes.ensures.value ∙ c.format.ensures.text)
