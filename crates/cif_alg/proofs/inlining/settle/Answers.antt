use Rattle.cif_net.specs.View.{net_tree}
use Rattle.cif_alg_order.proofs.GraphLaws.{order-acyclic}
use Rattle.cif_net_laws.proofs.Keeping.{keep-invariants}
use Rattle.cif_alg.proofs.KeepLaws.{keeps}
use Rattle.cif_alg.proofs.SettleLaws.{told-due, keeps-all}
use Rattle.cif_alg.proofs.inlining.settle.Goals as goal

pub check_invariants-requires : goal.check_invariants-requires
check_invariants-requires c =
    c.unfolded_nets_have_plain_expressions.ensures (net_tree c.args.net) (net_tree c.in_ok-unfolded.unfolded) (c.nets_are_nets.ensures c.args.net) c.in_ok-unfolded.ensures.unfolds c.requires.divides c.requires.narrow

pub returns-in_err-check_invariants-clause-refused : goal.returns-in_err-check_invariants-clause-refused
returns-in_err-check_invariants-clause-refused c =
    told-due (net_tree c.args.net) (net_tree c.in_ok-unfolded.unfolded) (keep-invariants (net_tree c.args.net) (net_tree c.in_ok-unfolded.unfolded) (c.nets_are_nets.ensures c.args.net) c.in_ok-unfolded.ensures.unfolds)
    (order-acyclic (net_tree c.args.net) c.args.order.now c.requires.order) c.from_residual-in_err-check_invariants.result c.in_err-check_invariants.field-0.0 c.from_residual-in_err-check_invariants.ensures.1 c.in_err-check_invariants.ensures.broken

pub returns-clause-keeps : goal.returns-clause-keeps
returns-clause-keeps c =
    keeps-all (net_tree c.args.net) (net_tree c.in_ok-unfolded.unfolded) (keep-invariants (net_tree c.args.net) (net_tree c.in_ok-unfolded.unfolded) (c.nets_are_nets.ensures c.args.net) c.in_ok-unfolded.ensures.unfolds)
    c.in_ok-check_invariants.ensures.keep
    (keeps (net_tree c.args.net) (order-acyclic (net_tree c.args.net) c.args.order.now c.requires.order) c.requires.divides c.requires.narrow c.requires.small)
