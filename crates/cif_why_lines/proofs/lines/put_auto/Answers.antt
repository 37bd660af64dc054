use Rattle.std.proofs.Common.{◌++◌, append-nil, sym, ap, ◌∙◌}
use Rattle.cif_net.specs.View.{net_tree}
use Rattle.grammar.specs.Pieces.{Text}
use Rattle.cif_why_lines.proofs.LineLaws.{auto-shown, no-auto-shown, nothing_there}
use Rattle.cif_why_lines.proofs.lines.put_auto.Goals as goal

pub returns-in_ok-extend_from_slice : goal.returns-in_ok-extend_from_slice
returns-in_ok-extend_from_slice c =
    c.in_ok-extend_from_slice.ensures.items
    ∙ ap (λ (t : Text). c.args.into.now.items ++ t)
    (c.as_slice.ensures ∙ auto-shown (net_tree c.args.net.now) c.args.net.now.autos c.args.auto c.in-Some.auto.now c.in-Some.ensures.value)

pub returns-in_default : goal.returns-in_default
returns-in_default c =
    sym (append-nil c.args.into.now.items)
    ∙ ap (λ (t : Text). c.args.into.now.items ++ t)
    (no-auto-shown (net_tree c.args.net.now) c.args.net.now.autos c.args.auto (nothing_there c.get.result _ c.in_default.not-Some c.get.ensures.value))
