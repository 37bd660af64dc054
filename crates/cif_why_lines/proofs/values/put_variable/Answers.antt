use Rattle.std.proofs.Common.{◌++◌, append-nil, sym, ap, ◌∙◌}
use Rattle.cif_net_model.specs.Net.{NetStored}
use Rattle.cif_net.specs.Parts.{var_tree}
use Rattle.grammar.specs.Pieces.{Text}
use Rattle.cif_why_lines.proofs.LineLaws.{no-path, nothing_there, path-at}
use Rattle.cif_why_lines.proofs.values.put_variable.Goals as goal

pub returns-in_ok-extend_from_slice : goal.returns-in_ok-extend_from_slice
returns-in_ok-extend_from_slice c =
    c.in_ok-extend_from_slice.ensures.items
    ∙ ap (λ (t : Text). c.args.into.now.items ++ t)
    (c.as_slice.ensures ∙ path-at var_tree (λ (v : NetStored). v.path) c.args.net.now.vars c.args.variable c.in-Some.variable.now c.in-Some.ensures.value)

pub returns-in_default : goal.returns-in_default
returns-in_default c =
    sym (append-nil c.args.into.now.items)
    ∙ ap (λ (t : Text). c.args.into.now.items ++ t)
    (no-path var_tree (λ (v : NetStored). v.path) c.args.net.now.vars c.args.variable (nothing_there c.get.result _ c.in_default.not-Some c.get.ensures.value))
