use Rattle.std.proofs.Common.{◌≡◌, ◌∙◌, ◌++◌, ◌∷◌, ◌+◌, append_assoc, drop, map, List, sym, ap}
use Rattle.cif_scope.proofs.Places.{drop-item}
use Rattle.cif_inst_constants.specs.Nodes.{Node, node_of, body_nodes, nodes_in}
use Rattle.cif_inst_constants.specs.Used.{numbered_of}
use Rattle.cif_inst_constants.specs.declared.using.Body.{Body}
use Rattle.cif_inst_constants.proofs.nodes.constants.Goals as goal

pub loop-body-preserved : goal.loop-body-preserved
loop-body-preserved c =
    let rest : List Body = drop (c.loop-body.body-index + 1) c.args.bodies.now in
    let here : drop c.loop-body.body-index c.args.bodies.now ≡ c.body-item.result ∷ rest = drop-item c.args.bodies.now c.loop-body.body-index c.body-item.result c.loop-body-test.true c.body-item.is in
    ap (λ (l : List Node). l ++ nodes_in (map numbered_of rest)) c.in_ok-add_body.ensures
    ∙ append_assoc (map node_of c.loop-body.found.items) (body_nodes (numbered_of c.body-item.result)) (nodes_in (map numbered_of rest))
    ∙ ap (λ (l : List Body). map node_of c.loop-body.found.items ++ nodes_in (map numbered_of l)) (sym here)
    ∙ c.loop-body.invariant
