use Rattle.std.proofs.Common.{arith, ◌∙◌, ◌++◌, ap, codes}
use Rattle.std.specs.Prelude.{string_bytes, flat_map}
use Rattle.cif_maker.specs.Draws.{numbers_below}
use Rattle.cif_maker.specs.MadeText.{input_name}
use Rattle.cif_maker.proofs.Counting.{next_row_state, next_row, all_rows}
use Rattle.cif_maker.proofs.rows.rows_for.Goals as goal

pub loop-row-preserved : goal.loop-row-preserved
loop-row-preserved c = (
  next_row_state c.args.seed c.args.size c.loop-row.row c.loop-row.draws c.put_row.new.draws c.loop-row.invariant.0 c.in_ok-put_row.ensures.state,
  next_row c.args.seed c.args.size c.loop-row.row c.loop-row.draws (codes "scan" ++ flat_map input_name (numbers_below c.args.size) ++ codes "\n")
      (string_bytes c.loop-row.text) (string_bytes c.put_row.new.text) c.loop-row.invariant.0 c.loop-row.invariant.1 c.in_ok-put_row.ensures.text,
)

pub returns : goal.returns
returns c =
    ap (λ v. v.items) c.into_bytes.ensures.value
    ∙ all_rows c.args.seed c.args.size c.loop-row.row (string_bytes c.loop-row.text) (omega (arith, c.loop-row-test.false, c.loop-row.auto.row-end)) c.loop-row.invariant.1
