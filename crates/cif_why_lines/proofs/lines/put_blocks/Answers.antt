use Rattle.std.proofs.Common.{◌++◌, ap, ◌∙◌, append_assoc}
use Rattle.std.specs.Prelude.{codes}
use Rattle.grammar.specs.Pieces.{Text}
use Rattle.cif_net.specs.View.{net_tree}
use Rattle.cif_why_model.specs.Lines.{auto_path}
use Rattle.cif_sim_names.specs.Nets.{told_of_net}
use Rattle.cif_why_lines.proofs.lines.put_blocks.Goals as goal

pub returns : goal.returns
returns c =
    let path = auto_path (told_of_net (net_tree c.args.net.now)) c.args.auto in
    c.in_ok-put_auto.ensures
    ∙ ap (λ (t : Text). t ++ path) c.in_ok-put_words.ensures
    ∙ append_assoc c.args.into.now.items (codes "blocks ") path
