use Rattle.std.proofs.Common.{◌≡◌, sym, ◌∙◌, ap, subst}
use Rattle.cif_system.proofs.Lists.{some-same, none-some}
use Rattle.cif_source.specs.Components.{as_written}
use Rattle.cif_scope.specs.Looks.{what_at}
use Rattle.cif_scope.specs.Tables.{IsBody, IsWhat}
use Rattle.cif_inst_components.specs.declared.components.Component.{Component}
use Rattle.cif_inst_names.specs.Looking.{source_for}
use Rattle.cif_inst_names.proofs.NameLaws.{place-is}
use Rattle.cif_inst_names.proofs.looking.Looking.object.Goals as goal

pub returns-in_default : goal.returns-in_default
returns-in_default c d e names num entry =
    let p = place-is c.args.self.now names c.args.place d e num entry in
    absurd (none-some p.row (sym c.in_default.is ∙ c.get.ensures ∙ p.is_row))

pub returns-in-Some-what : goal.returns-in-Some-what
returns-in-Some-what c d e names num entry =
    let p = place-is c.args.self.now names c.args.place d e num entry in
    let row : c.in-Some.component ≡ p.row = some-same c.in-Some.component p.row (sym c.in-Some.is ∙ c.get.ensures ∙ p.is_row) in
    let what : c.in-Some-what.what ≡ p.what =
    some-same c.in-Some-what.what p.what
    (sym c.in-Some-what.is ∙ c.what.ensures ∙ ap (λ (r : Component). what_at c.args.self.now.scopes.now.table r.body c.args.place.slot) row ∙ p.at) in
    c.object_as.ensures d e names num entry (subst (λ (r : Component). IsBody (source_for c.args.self.now) r.body (as_written d)) (sym row) p.is_body)
    (subst (λ w. IsWhat (source_for c.args.self.now) (as_written d) e w) (sym what) p.is_what)

pub returns-in-None : goal.returns-in-None
returns-in-None c d e names num entry =
    let p = place-is c.args.self.now names c.args.place d e num entry in
    let row : c.in-Some.component ≡ p.row = some-same c.in-Some.component p.row (sym c.in-Some.is ∙ c.get.ensures ∙ p.is_row) in
    absurd (none-some p.what (sym c.in-None.is ∙ c.what.ensures ∙ ap (λ (r : Component). what_at c.args.self.now.scopes.now.table r.body c.args.place.slot) row ∙ p.at))
