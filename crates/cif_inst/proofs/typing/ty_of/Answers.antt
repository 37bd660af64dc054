use Rattle.cif_inst.specs.Typing.{typed_source, typed_component}
use Rattle.cif_inst.specs.Views.{datum_tree}
use Rattle.cif_inst.proofs.TypingLaws.{its_home, its_body}
use Rattle.cif_inst.proofs.typing.ty_of.Goals as goal

pub returns : goal.returns
returns c =
    let d = datum_tree c.args.datum.now in
    c.type_of.ensures (typed_source c.args.typing.now) (typed_component c.args.typing.now d.component) c.requires.home.types.typed (its_home c.args.typing.now d c.requires)
    (its_body c.args.typing.now d c.body_of-body.result c.requires c.body_of-body.ensures) c.requires.written
