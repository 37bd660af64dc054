use Rattle.std.proofs.Common.{◌<◌, ◌^◌, arith}
use Rattle.cif_alg.proofs.LimitLaws.{nodes-fit, too-large, small}
use Rattle.cif_alg.proofs.checking.check_size.Goals as goal

pub overflow_cast-result : goal.overflow_cast-result
overflow_cast-result c =
    let h : c.in_ok-nodes.nodes < 2 ^ 32 = nodes-fit c.args.net.now c.args.algs.now c.requires.measured c.in_ok-nodes.nodes c.in_ok-nodes.ensures in
    omega arith

pub returns-then-is_over-clause-refused : goal.returns-then-is_over-clause-refused
returns-then-is_over-clause-refused c =
    too-large c.args.net.now c.args.algs.now c.requires.measured c.in_ok-nodes.nodes c.in_ok-nodes.ensures c.net_depth-depth.result (c.net_depth-depth.ensures.of_net c.requires.measured) c.requires.acyclic c.is_over.result c.is_over.ensures c.if-is_over.true

pub returns-clause-small : goal.returns-clause-small
returns-clause-small c =
    small c.args.net.now c.args.algs.now c.requires.measured c.in_ok-nodes.nodes c.in_ok-nodes.ensures c.net_depth-depth.result (c.net_depth-depth.ensures.of_net c.requires.measured) c.is_over.result c.is_over.ensures c.if-is_over.false
