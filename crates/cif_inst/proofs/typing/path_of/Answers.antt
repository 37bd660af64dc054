use Rattle.std.proofs.Common.{◌++◌, ◌∙◌, ap}
use Rattle.cif_source.specs.Source.{Text}
use Rattle.cif_inst.specs.Views.{datum_tree}
use Rattle.cif_inst.proofs.typing.path_of.Goals as goal

pub returns : goal.returns
returns c =
    let d = datum_tree c.args.datum.now in
    c.in_ok-push_slice.ensures.ok ∙ ap (λ (p : Text). p ++ c.as_slice.result.now) c.in_ok-path.ensures ∙ ap (λ (x : Text). d.prefix ++ x) c.as_slice.ensures
