use Rattle.std.proofs.Common.{refl, sym, ◌∙◌, subst}
use Rattle.cif_source.specs.Lookup.{found}
use Rattle.cif_inst_components.specs.Numbers.{Finds}
use Rattle.cif_inst_names.specs.Looking.{source_for, component_at}
use Rattle.cif_inst_names.proofs.NameLaws.{component-is, nothing-found, none-means, named_means, value_means}
use Rattle.cif_inst_names.proofs.looking.Looking.meaning.Goals as goal

pub returns-in_default : goal.returns-in_default
returns-in_default c =
    let l = c.args.self.now in
    let d = component_at l c.args.component in
    nothing-found (source_for l) d c.args.name.now (found d c.args.name.now) refl
    (subst (λ o. Finds (source_for l) (found d c.args.name.now) o) c.in_default.is
    (c.find.ensures (source_for l) d c.requires.names.scopes c.requires.names.components (component-is l c.args.component c.requires.component)))

pub returns-in-None : goal.returns-in-None
returns-in-None c =
    let l = c.args.self.now in
    let d = component_at l c.args.component in
    none-means l c.requires.names c.args.component c.args.name.now c.in-Some.place
    (subst (λ o. Finds (source_for l) (found d c.args.name.now) o) c.in-Some.is
    (c.find.ensures (source_for l) d c.requires.names.scopes c.requires.names.components (component-is l c.args.component c.requires.component)))
    _ (sym c.argument.ensures ∙ c.in-None.is) c.object.ensures

pub returns-in-Some-Named : goal.returns-in-Some-Named
returns-in-Some-Named c =
    let l = c.args.self.now in
    let d = component_at l c.args.component in
    named_means l c.requires.names c.args.component c.args.name.now c.in-Some.place
    (subst (λ o. Finds (source_for l) (found d c.args.name.now) o) c.in-Some.is
    (c.find.ensures (source_for l) d c.requires.names.scopes c.requires.names.components (component-is l c.args.component c.requires.component)))
    _ c.in-Some-Named.declared _ (sym c.argument.ensures ∙ c.in-Some-Named.is) c.in-Some-Named.field-0-is c.object-in-Some-Named.ensures

pub returns-in-Some-Value : goal.returns-in-Some-Value
returns-in-Some-Value c =
    let l = c.args.self.now in
    let d = component_at l c.args.component in
    value_means l c.requires.names c.args.component c.args.name.now c.in-Some.place
    (subst (λ o. Finds (source_for l) (found d c.args.name.now) o) c.in-Some.is
    (c.find.ensures (source_for l) d c.requires.names.scopes c.requires.names.components (component-is l c.args.component c.requires.component)))
    _ c.in-Some-Value.giver c.in-Some-Value.value c.in-Some-Value.at (sym c.argument.ensures ∙ c.in-Some-Value.is) c.in-Some-Value.field-0-is
