use Rattle.std.proofs.Common.{◌++◌, append-nil, sym, ap, ◌∙◌}
use Rattle.cif_net_model.specs.Net.{NetEdge}
use Rattle.cif_net.specs.Parts.{edge_tree}
use Rattle.cif_net.specs.View.{net_tree}
use Rattle.cif_why_model.specs.Lines.{leaves_told}
use Rattle.cif_why_lines.specs.Targets.{value_of_edge}
use Rattle.cif_why_lines.proofs.LineLaws.{nothing_there}
use Rattle.cif_why_lines.proofs.TargetLaws.{nothing-at, there-at}
use Rattle.cif_why_lines.proofs.values.put_leaves_of_auto.Goals as goal

pub returns-in_ok-put_leaves_of_edge : goal.returns-in_ok-put_leaves_of_edge
returns-in_ok-put_leaves_of_edge c =
    c.in_ok-put_leaves_of_edge.ensures
    ∙ ap (λ v. c.args.into.now.items ++ leaves_told v)
    (there-at edge_tree (λ (x : NetEdge). value_of_edge (net_tree c.args.net.now) x c.args.number) c.args.auto.now.edges c.args.edge c.in-Some.edge.now c.in-Some.ensures.value)

pub returns-in_default : goal.returns-in_default
returns-in_default c =
    sym (append-nil c.args.into.now.items)
    ∙ ap (λ v. c.args.into.now.items ++ leaves_told v)
    (nothing-at edge_tree (λ (x : NetEdge). value_of_edge (net_tree c.args.net.now) x c.args.number) c.args.auto.now.edges c.args.edge (nothing_there c.get.result _ c.in_default.not-Some c.get.ensures.value))
