use Rattle.std.proofs.Common.{◌≡◌, ◌+◌, ◌-◌, length, arith, ap, ◌∙◌}
use Rattle.std.specs.Prelude.{take}
use Rattle.plc_rows.specs.Told.{cases_of}
use Rattle.cif_batch_command.proofs.RowNumbers.{flat, rows_next, rows_within, values_of_first}
use Rattle.cif_batch_command.proofs.tables.row_of_file.Goals as goal

pub overflow_cast-found : goal.overflow_cast-found
overflow_cast-found c =
    let next = rows_next c.args.rows.now c.loop-k.k c.index-rows-k.result (omega (arith, c.loop-k-test.true, c.requires.case)) in
    omega (arith, next, rows_within c.args.rows.now (c.loop-k.k + 1), c.requires.few, c.len.ensures)

pub overflow_add-found : goal.overflow_add-found
overflow_add-found c =
    let next = rows_next c.args.rows.now c.loop-k.k c.index-rows-k.result (omega (arith, c.loop-k-test.true, c.requires.case)) in
    omega (arith, next, rows_within c.args.rows.now (c.loop-k.k + 1), c.requires.few, c.len.ensures, c.loop-k.invariant)

pub loop-k-preserved : goal.loop-k-preserved
loop-k-preserved c =
    let next = rows_next c.args.rows.now c.loop-k.k c.index-rows-k.result (omega (arith, c.loop-k-test.true, c.requires.case)) in
    omega (arith, next, c.len.ensures, c.loop-k.invariant)

pub returns : goal.returns
returns c =
    let end : c.loop-k.k ≡ c.args.case - 1 = omega (arith, c.loop-k-test.false, c.loop-k.auto.k-end) in
    c.loop-k.invariant ∙ ap (λ n. length (flat (cases_of (take n c.args.rows.now))) + c.args.row) end
    ∙ ap (λ l. length (flat l) + c.args.row) (values_of_first c.args.rows.now (c.args.case - 1))
