use Rattle.std.proofs.Common.{◌≡◌, sym, ◌∙◌, ap, subst, map}
use Rattle.cif_net.specs.View.{net_tree, alg_tree}
use Rattle.cif_order.specs.Graph.{AreInside, IsOrder}
use Rattle.cif_alg_order.specs.Names.{algs_of}
use Rattle.cif_alg_order.specs.Orders.{graph_due}
use Rattle.cif_alg_order.proofs.GraphLaws.{needs, inside, net-order, net-due}
use Rattle.cif_alg_order.proofs.ordering.order_algebraic.Goals as goal

pub order-requires-clause-inside : goal.order-requires-clause-inside
order-requires-clause-inside c =
    let e : c.as_slice-2.result.now ≡ needs (net_tree c.args.net.now) = c.as_slice-2.ensures ∙ c.in_ok-needs.ensures ∙ ap (λ xs. map algs_of (map alg_tree xs)) c.as_slice.ensures in
    subst AreInside (sym e) (inside (net_tree c.args.net.now) (c.nets_are_nets.ensures c.args.net.now))

pub returns-in-Ok-clause-order : goal.returns-in-Ok-clause-order
returns-in-Ok-clause-order c =
    let e : c.as_slice-2.result.now ≡ needs (net_tree c.args.net.now) = c.as_slice-2.ensures ∙ c.in_ok-needs.ensures ∙ ap (λ xs. map algs_of (map alg_tree xs)) c.as_slice.ensures in
    net-order (net_tree c.args.net.now) c.in-Ok.order (subst (λ xs. IsOrder xs c.in-Ok.order) e c.in-Ok.ensures.order)

pub lowest_cycle-requires-clause-inside : goal.lowest_cycle-requires-clause-inside
lowest_cycle-requires-clause-inside c =
    let e : c.as_slice-in-Err-Cycle.result.now ≡ needs (net_tree c.args.net.now) = c.as_slice-in-Err-Cycle.ensures ∙ c.in_ok-needs.ensures ∙ ap (λ xs. map algs_of (map alg_tree xs)) c.as_slice.ensures in
    subst AreInside (sym e) (inside (net_tree c.args.net.now) (c.nets_are_nets.ensures c.args.net.now))

pub returns-in-Err-Cycle-clause-refused : goal.returns-in-Err-Cycle-clause-refused
returns-in-Err-Cycle-clause-refused c =
    let e : c.as_slice-in-Err-Cycle.result.now ≡ needs (net_tree c.args.net.now) = c.as_slice-in-Err-Cycle.ensures ∙ c.in_ok-needs.ensures ∙ ap (λ xs. map algs_of (map alg_tree xs)) c.as_slice.ensures in
    net-due (net_tree c.args.net.now) c.lowest_cycle.result (subst (λ xs. graph_due xs c.lowest_cycle.result) e c.lowest_cycle.ensures)
