use Rattle.std.proofs.Common.{◌+◌, [], ◌∷◌, refl, length, length-append, ◌∙◌, ap}
use Rattle.std.proofs.lemmas.Option.{slice_get_read}
use Rattle.cif_inst_names.specs.Looking.{source_for}
use Rattle.cif_inst_sizes.proofs.GrowLaws.{next-row, all-rows, row-added}
use Rattle.cif_inst_sizes.proofs.needs.all_needs.Goals as goal

pub loop-definition-preserved : goal.loop-definition-preserved
loop-definition-preserved c =
    let l = c.loop-definition in
    let ds = c.args.definitions.now in
    let row = c.in_ok-definition_needs.field-0 in
    let at = slice_get_read ds (length ds) l.definition-index c.definition-item.result refl c.loop-definition-test.true c.definition-item.is in (
      λ all are. next-row (source_for c.args.looking.now) c.args.weights.now.count all ds l.definition-index c.definition-item.result l.all c.push.new.self row at (l.invariant.0 all are)
          (c.in_ok-definition_needs.ensures.needed all are) c.in_ok-push.ensures.ok,
      ap length c.in_ok-push.ensures.ok ∙ length-append l.all (row ∷ []) ∙ ap (λ n. n + 1) l.invariant.1,
      row-added (length ds) l.all c.push.new.self row l.invariant.2 c.in_ok-definition_needs.ensures.inside c.in_ok-push.ensures.ok,
    )

pub returns-clause-needed : goal.returns-clause-needed
returns-clause-needed c = λ all are.
    let l = c.loop-definition in
    all-rows (source_for c.args.looking.now) c.args.weights.now.count all c.args.definitions.now l.definition-index l.all c.loop-definition-test.false (l.invariant.0 all are)
