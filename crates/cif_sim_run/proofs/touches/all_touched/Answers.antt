use Rattle.std.proofs.Common.{◌∷◌, [], length, refl, sym, ap, subst, arith, length-append}
use Rattle.std.proofs.lemmas.Option.{slice_get_read}
use Rattle.cif_sim_run.proofs.Tables.{Each, entry-more, no-entries}
use Rattle.cif_sim_run.proofs.touches.all_touched.Goals as goal

pub loop-choice-init : goal.loop-choice-init
loop-choice-init c = (ap length c.new-all.ensures, omega arith, subst (Each c.args.choices.now) (sym c.new-all.ensures) (no-entries c.args.choices.now))

pub loop-choice-preserved : goal.loop-choice-preserved
loop-choice-preserved c =
    let l = c.loop-choice in
    let is = c.in_ok-push.ensures.ok in
    let long = l.invariant.0 in
    let more = ap length is in
    let test = c.loop-choice-test.true in
    let one = length-append l.all (c.in_ok-touched.touched ∷ []) in (
      omega (arith, long, more, one),
      omega (arith, test),
      subst (Each c.args.choices.now) (sym is)
          (entry-more c.args.choices.now l.all l.choice-index c.choice-item.result c.in_ok-touched.touched long
          (slice_get_read c.args.choices.now (length c.args.choices.now) l.choice-index c.choice-item.result refl test c.choice-item.is) c.in_ok-touched.ensures l.invariant.2),
    )

pub returns : goal.returns
returns c =
    let end = c.loop-choice-test.false in
    let long = c.loop-choice.invariant.0 in
    let within = c.loop-choice.invariant.1 in
    record { counted = omega (arith, end, long, within); each = c.loop-choice.invariant.2 }
