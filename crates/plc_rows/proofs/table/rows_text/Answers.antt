use Rattle.std.proofs.Common.{refl}
use Rattle.plc_rows.specs.Table.{output_table}
use Rattle.plc_rows.proofs.table.rows_text.Goals as goal

pub loop-i-init : goal.loop-i-init
unfolding output_table
loop-i-init c =
    rw (c.in_ok-put_header.ensures, c.new-text.ensures.items, c.as_slice-2.ensures.value, c.in_ok-outputs.ensures, c.as_slice.ensures, c.program.ensures.same) refl
