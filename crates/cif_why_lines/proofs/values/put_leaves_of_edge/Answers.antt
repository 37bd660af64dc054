use Rattle.std.proofs.Common.{◌++◌, sym, ap, ◌∙◌}
use Rattle.cif_net.specs.Parts.{edge_tree}
use Rattle.cif_net.specs.View.{net_tree}
use Rattle.cif_why_model.specs.Lines.{leaves_told}
use Rattle.cif_why_lines.specs.Targets.{value_with}
use Rattle.cif_why_lines.proofs.TargetLaws.{value-at}
use Rattle.cif_why_lines.proofs.values.put_leaves_of_edge.Goals as goal

pub returns : goal.returns
returns c =
    let n = net_tree c.args.net.now in
    c.in_ok-put_leaves_of_value.ensures
    ∙ (λ i. c.args.into.now.items ++ leaves_told (value_with n ((c.copied-place.ensures ∙ c.get.ensures.value) i) (c.target_of-target.ensures i)))
    ∙ ap (λ v. c.args.into.now.items ++ leaves_told v) (sym (value-at n (edge_tree c.args.edge.now) c.args.number))
