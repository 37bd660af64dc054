use Rattle.std.proofs.Common.{◌++◌, ap, ◌∙◌}
use Rattle.std.specs.Prelude.{codes, decimal}
use Rattle.cif_net.specs.View.{net_tree}
use Rattle.grammar.specs.Pieces.{Text}
use Rattle.cif_why_lines.specs.Targets.{target_path}
use Rattle.cif_why_lines.proofs.TargetLaws.{value_parts}
use Rattle.cif_why_lines.proofs.values.put_value.Goals as goal

pub returns : goal.returns
returns c =
    let path = target_path (net_tree c.args.net.now) c.args.target in
    c.in_ok-put_target.ensures
    ∙ ap (λ (t : Text). t ++ path)
    (c.in_ok-push.ensures.items
    ∙ ap (λ (t : Text). t ++ codes " ")
    (c.in_ok-put_place.ensures ∙ ap (λ (t : Text). t ++ decimal c.args.place) c.in_ok-extend_from_slice.ensures.items))
    ∙ value_parts c.args.into.now.items (codes "leaves ") (decimal c.args.place) (codes " ") path
