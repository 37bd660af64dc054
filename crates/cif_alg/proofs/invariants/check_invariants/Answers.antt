use Rattle.std.proofs.Common.{map, sym, ◌∙◌, ap, subst}
use Rattle.cif_net.specs.View.{net_tree, invariant_tree}
use Rattle.cif_alg.specs.Invariants.{all_checked, AreSafe}
use Rattle.cif_alg.proofs.InvariantLaws.{are-safe, keep, broken}
use Rattle.cif_alg.proofs.invariants.check_invariants.Goals as goal

pub check_all-requires : goal.check_all-requires
check_all-requires c =
    subst (λ xs. AreSafe c.in_ok-first.first (map invariant_tree xs)) (sym c.as_slice.ensures)
    (are-safe (net_tree c.args.net.now) (c.nets_are_nets.ensures c.args.net.now) c.requires c.in_ok-first.first c.in_ok-first.ensures)

pub returns-clause-keep : goal.returns-clause-keep
returns-clause-keep c =
    keep (net_tree c.args.net.now) (c.nets_are_nets.ensures c.args.net.now) c.requires c.in_ok-first.first c.in_ok-first.ensures c.check_all.result
    (c.check_all.ensures ∙ ap (λ xs. all_checked c.in_ok-first.first (map invariant_tree xs)) c.as_slice.ensures)

pub returns-clause-broken : goal.returns-clause-broken
returns-clause-broken c =
    broken (net_tree c.args.net.now) (c.nets_are_nets.ensures c.args.net.now) c.requires c.in_ok-first.first c.in_ok-first.ensures c.check_all.result
    (c.check_all.ensures ∙ ap (λ xs. all_checked c.in_ok-first.first (map invariant_tree xs)) c.as_slice.ensures)
