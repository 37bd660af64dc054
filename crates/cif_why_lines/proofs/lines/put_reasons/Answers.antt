use Rattle.std.proofs.Common.{◌++◌, sym, ap, ◌∙◌}
use Rattle.grammar.specs.Pieces.{Text}
use Rattle.cif_net.specs.View.{net_tree}
use Rattle.cif_sim_names.specs.Nets.{told_of_net}
use Rattle.cif_why_lines.proofs.LineLaws.{no-line, some-lines}
use Rattle.cif_why_lines.proofs.lines.put_reasons.Goals as goal

pub returns-then-is_empty : goal.returns-then-is_empty
returns-then-is_empty c =
    c.in_ok-extend_from_slice.ensures.items
    ∙ ap (λ (t : Text). c.args.into.now.items ++ t) (no-line (told_of_net (net_tree c.args.net.now)) c.args.reasons.now (sym c.if-is_empty.ensures))

pub returns : goal.returns
returns c =
    c.in_ok-put_lines.ensures
    ∙ ap (λ (t : Text). c.args.into.now.items ++ t) (some-lines (told_of_net (net_tree c.args.net.now)) c.args.reasons.now (sym c.if-is_empty.ensures))
