use Rattle.std.proofs.Common.{◌++◌, append-nil, sym, ap, ◌∙◌}
use Rattle.cif_net_model.specs.Net.{NetAuto}
use Rattle.cif_net.specs.Parts.{auto_tree}
use Rattle.cif_net.specs.View.{net_tree}
use Rattle.cif_why_model.specs.Lines.{leaves_told}
use Rattle.cif_why_lines.specs.Targets.{value_of_auto}
use Rattle.cif_why_lines.proofs.LineLaws.{nothing_there}
use Rattle.cif_why_lines.proofs.TargetLaws.{nothing-at, there-at, values-same}
use Rattle.cif_why_lines.proofs.values.put_leaves.Goals as goal

pub returns-in_ok-put_leaves_of_auto : goal.returns-in_ok-put_leaves_of_auto
returns-in_ok-put_leaves_of_auto c =
    let n = net_tree c.args.net.now in
    c.in_ok-put_leaves_of_auto.ensures
    ∙ ap (λ v. c.args.into.now.items ++ leaves_told v)
    (there-at auto_tree (λ (a : NetAuto). value_of_auto n a c.args.edge c.args.number) c.args.net.now.autos c.args.auto c.in-Some.auto.now c.in-Some.ensures.value
    ∙ sym (values-same n c.args.auto c.args.edge c.args.number))

pub returns-in_default : goal.returns-in_default
returns-in_default c =
    let n = net_tree c.args.net.now in
    sym (append-nil c.args.into.now.items)
    ∙ ap (λ v. c.args.into.now.items ++ leaves_told v)
    (nothing-at auto_tree (λ (a : NetAuto). value_of_auto n a c.args.edge c.args.number) c.args.net.now.autos c.args.auto (nothing_there c.get.result _ c.in_default.not-Some c.get.ensures.value)
    ∙ sym (values-same n c.args.auto c.args.edge c.args.number))
