use Rattle.std.proofs.Common.{◌≡◌, ◌∙◌, ap, [], ◌∷◌, ◌++◌, None, List}
use Rattle.cif_inst_components.specs.declared.components.Place.{Place}
use Rattle.cif_inst_components.specs.Children.{place_in}
use Rattle.cif_inst_components.proofs.ChildLaws.{added-is}
use Rattle.cif_inst_components.proofs.children.Children.add.Goals as goal

pub returns : goal.returns
returns c =
    let view : c.self.inside.places.keys ≡ c.args.self.now = c.self.view_is in
    let new : place_in c.self.inside.places.keys c.args.place ≡ None = ap (λ (qs : List Place). place_in qs c.args.place) view ∙ c.requires in
    added-is c.args.place c.self.inside.places.keys c.insert.new.self.keys c.in_ok-insert.ensures.keys new ∙ ap (λ (qs : List Place). qs ++ c.args.place ∷ []) view
