use Rattle.std.proofs.Common.{rules}
use Rattle.cif_inst.specs.Typing.{typed_source, typed_component}
use Rattle.cif_inst.specs.Views.{datum_tree}
use Rattle.cif_inst.proofs.TypingLaws.{its_home, its_body}
use Rattle.cif_inst.proofs.VariableLaws.{stored_kept}
use Rattle.cif_inst.proofs.variables.variable.Goals as goal

pub returns : goal.returns
returns c =
    let d = datum_tree c.args.datum.now in
    let home = typed_component c.args.typing.now d.component in
    stored_kept home d c.in_ok-path.path c.in_ok-found.found c.in_ok-first.first _ (search rules) c.in_ok-path.ensures c.in_ok-found.ensures
    (c.in_ok-first.ensures (typed_source c.args.typing.now) home c.requires.place.home.types.typed (its_home c.args.typing.now d c.requires.place)
    (its_body c.args.typing.now d c.body_of.result c.requires.place c.body_of.ensures) c.requires.place.written c.requires.valued)
