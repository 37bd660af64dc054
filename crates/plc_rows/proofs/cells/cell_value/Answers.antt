use Rattle.std.proofs.Common.{◌∙◌, ap, sym, FitsSigned, w64, rules}
use Rattle.std.specs.Prelude.{IfSome}
use Rattle.plc_rows.specs.Rows.{cell_value}
use Rattle.plc_rows.proofs.CellLaws.{any_number}
use Rattle.plc_rows.proofs.cells.cell_value.Goals as goal

pub returns-in-Lint : goal.returns-in-Lint
returns-in-Lint c =
    let few : IfSome c.read_int.result (λ z. FitsSigned w64 z) = search rules in
    any_number c.args.cell.now c.read_int.result c.read_int.ensures.some c.read_int.ensures.read few ∙ ap (λ t. cell_value t c.args.cell.now) (sym c.in-Lint.is)
