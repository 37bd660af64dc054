use Rattle.std.proofs.Common.{ℕ, [], ◌∷◌, ◌++◌, ◌∙◌, ap}
use Rattle.cif_inst_names.specs.Looking.{component_at}
use Rattle.cif_inst_predicates.specs.Weights.{excluded_by}
use Rattle.cif_inst_predicates.proofs.WeightLaws.{excluded_added}
use Rattle.cif_inst_predicates.proofs.weights.add_each.Goals as goal

pub loop-name-preserved : goal.loop-name-preserved
loop-name-preserved c =
    excluded_added (excluded_by (component_at c.args.looking.now c.args.component) c.in_ok-measure.measure) c.args.events.now c.loop-name.name-index c.name-item.result c.loop-name.all c.push.new.self _ c.loop-name-test.true
    c.name-item.is (c.in_ok-push.ensures.ok ∙ ap (λ (k : ℕ). c.loop-name.all ++ record { event = k; measure = c.in_ok-measure.measure } ∷ []) c.event.ensures) c.loop-name.invariant
