use Rattle.std.proofs.Common.{◌+◌, drop, length, sym, ap, subst, ◌∙◌}
use Rattle.std.specs.Prelude.{slice_get, slice_index_or}
use Rattle.std.proofs.lemmas.Grind.{get_or_default_zero}
use Rattle.cif_script.specs.Touches.{SameBut}
use Rattle.cif_script.proofs.Finding.{drop-item}
use Rattle.cif_sim_run.proofs.Copied.{all-copied, copied-one, length-with}
use Rattle.cif_sim_run.proofs.copying.copy_items.Goals as goal

pub loop-number-preserved : goal.loop-number-preserved
loop-number-preserved g c =
    let l = c.loop-number in
    let k = slice_index_or c.args.numbers.now l.number-index 0 in
    let left = subst (λ js. SameBut js l.to c.args.from.now) (drop-item c.args.numbers.now l.number-index k c.loop-number-test.true (sym (get_or_default_zero c.args.numbers.now l.number-index k c.loop-number-test.true))) l.invariant.1 in (
      ap length c.copy_item.ensures ∙ length-with l.to k (slice_get c.args.from.now k) ∙ l.invariant.0,
      subst (λ xs. SameBut (drop (l.number-index + 1) c.args.numbers.now) xs c.args.from.now) (sym c.copy_item.ensures)
          (copied-one (drop (l.number-index + 1) c.args.numbers.now) k l.to c.args.from.now l.invariant.0 left),
    )

pub returns : goal.returns
returns g c = all-copied c.args.numbers.now c.loop-number.number-index c.loop-number.to c.args.from.now c.loop-number-test.false c.loop-number.invariant.1
