use Rattle.std.proofs.Common.{refl, length}
use Rattle.std.proofs.lemmas.Option.{slice_get_read}
use Rattle.cif_inst_sizes.specs.Weights.{source_by, home}
use Rattle.cif_inst_sizes.proofs.GrowLaws.{next-needed, all-needed}
use Rattle.cif_inst_sizes.proofs.needs.needs_of.Goals as goal

pub loop-one-preserved : goal.loop-one-preserved
loop-one-preserved c =
    let m = c.args.measurer.now in
    let us = c.args.names.now in
    let at = slice_get_read us (length us) c.loop-one.one-index c.one-item.result refl c.loop-one-test.true c.one-item.is in (
      λ all are. next-needed (source_by m) m.weights.now.count all (home m) us c.loop-one.one-index c.one-item.result c.loop-one.needs c.add_need.new.needs at c.in_ok-add_need.ensures.more.kept
          (c.loop-one.invariant.0 all are) (c.in_ok-add_need.ensures.needed all are),
      c.in_ok-add_need.ensures.more.below c.loop-one.invariant.1,
    )

pub returns-clause-needed : goal.returns-clause-needed
returns-clause-needed c = λ all are.
    let m = c.args.measurer.now in
    all-needed (source_by m) m.weights.now.count all (home m) c.args.names.now c.loop-one.one-index c.loop-one.needs c.loop-one-test.false (c.loop-one.invariant.0 all are)
