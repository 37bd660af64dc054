use Rattle.std.proofs.Common.{map}
use Rattle.cif_net_model.specs.Net.{NetInvariant}
use Rattle.cif_net.specs.View.{invariant_tree}
use Rattle.cif_alg_measure.proofs.SizeLaws.{size-told, size-of_net, invariants-measured}
use Rattle.cif_alg_measure.proofs.sizes.invariants_size.Goals as goal

pub returns-clause-value : goal.returns-clause-value
returns-clause-value c =
    size-told c.args.algs.now (map (λ (i : NetInvariant). i.pred) (map invariant_tree c.args.invariants.now)) c.invariants_measure.result
    (invariants-measured c.args.algs.now (map invariant_tree c.args.invariants.now) c.invariants_measure.result c.none.result c.none.ensures c.invariants_measure.ensures)

pub returns-clause-of_net : goal.returns-clause-of_net
returns-clause-of_net c =
    size-of_net c.args.algs.now (map (λ (i : NetInvariant). i.pred) (map invariant_tree c.args.invariants.now)) c.invariants_measure.result
    (invariants-measured c.args.algs.now (map invariant_tree c.args.invariants.now) c.invariants_measure.result c.none.result c.none.ensures c.invariants_measure.ensures)
