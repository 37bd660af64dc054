use Rattle.std.proofs.Common.{[], ◌∷◌, ◌++◌, map, ◌∙◌, ap}
use Rattle.std.proofs.lemmas.List.{map-append}
use Rattle.cif_net_model.specs.Net.{NetStored}
use Rattle.cif_net.specs.View.{input_tree}
use Rattle.cif_inst.specs.Typing.{typed_source}
use Rattle.cif_inst.specs.Variables.{stored}
use Rattle.cif_inst.specs.Views.{datum_tree}
use Rattle.cif_inst.proofs.TypingLaws.{datum_listed, kept_more}
use Rattle.cif_inst.proofs.variables.all_inputs.Goals as goal

pub input-requires : goal.input-requires
input-requires c = c.requires (datum_tree c.datum-item.result) (datum_listed c.args.found.now c.loop-datum.datum-index c.datum-item.result c.loop-datum-test.true c.datum-item.is)

pub loop-datum-preserved : goal.loop-datum-preserved
loop-datum-preserved c =
    kept_more (stored (typed_source c.args.typing.now)) c.args.found.now c.loop-datum.datum-index c.datum-item.result (map input_tree c.loop-datum.all) (map input_tree c.push.new.self)
    (map (stored (typed_source c.args.typing.now)) (map datum_tree c.args.found.now)) c.loop-datum-test.true c.datum-item.is
    (
    ap (map input_tree) c.in_ok-push.ensures.ok
    ∙ map-append input_tree c.loop-datum.all (c.in_ok-input.field-0 ∷ [])
    ∙ ap (λ (x : NetStored). map input_tree c.loop-datum.all ++ x ∷ []) c.in_ok-input.ensures
    )
    c.loop-datum.invariant
