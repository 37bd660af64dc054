use Rattle.std.proofs.Common.{[], ◌∷◌, ◌∙◌}
use Rattle.cif_net_expr.specs.View.{view}
use Rattle.cif_net_model.proofs.ValueLaws.{ap-two}
use Rattle.cif_alg_measure.specs.Counted.{beside_stopped}
use Rattle.cif_alg_measure.proofs.SizeLaws.{Measures, size-told, size-of_net}
use Rattle.cif_alg_measure.proofs.sizes.exclusion_size.Goals as goal

pub returns-clause-value : goal.returns-clause-value
returns-clause-value c =
    let m : Measures c.args.algs.now (view c.args.exclusion.now.pred ∷ []) c.beside.result = c.beside.ensures ∙ ap-two beside_stopped c.none.ensures c.measure_of.ensures in
    size-told c.args.algs.now (view c.args.exclusion.now.pred ∷ []) c.beside.result m

pub returns-clause-of_net : goal.returns-clause-of_net
returns-clause-of_net c =
    let m : Measures c.args.algs.now (view c.args.exclusion.now.pred ∷ []) c.beside.result = c.beside.ensures ∙ ap-two beside_stopped c.none.ensures c.measure_of.ensures in
    size-of_net c.args.algs.now (view c.args.exclusion.now.pred ∷ []) c.beside.result m
