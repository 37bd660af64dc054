use Rattle.std.proofs.Common.{◌≡◌, ◌∙◌, ap, List}
use Rattle.cif_inst_components.specs.declared.components.Place.{Place}
use Rattle.cif_inst_components.specs.Children.{place_in}
use Rattle.cif_inst_components.proofs.ChildLaws.{position-is}
use Rattle.cif_inst_components.proofs.children.Children.number.Goals as goal

pub returns-clause-number : goal.returns-clause-number
returns-clause-number c =
    let view : c.self.inside.places.keys ≡ c.args.self.now = c.self.view_is in
    c.get_index_of.ensures.index ∙ position-is c.args.place c.self.inside.places.keys ∙ ap (λ (qs : List Place). place_in qs c.args.place) view
