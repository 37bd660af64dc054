use Rattle.std.proofs.Common.{◌∷◌, ◌++◌, [], List, sym, ap, ◌∙◌}
use Rattle.cif_source.specs.Source.{Text}
use Rattle.cif_scope.proofs.IndexLaws.{none-of}
use Rattle.cif_types_table.specs.Lists.{texts_of}
use Rattle.cif_types_table.proofs.ListLaws.{found-list, new-list, on-ok, number-moved}
use Rattle.cif_types_table.proofs.lists.list_number.Goals as goal

pub returns-in-Some-clause-lists : goal.returns-in-Some-clause-lists
returns-in-Some-clause-lists c =
    let found = found-list c.args.all.now (texts_of c.args.literals.now) c.args.keys.now c.in_ok-key.key c.requires c.in_ok-key.ensures c.in-Some.place (sym c.place.ensures.place ∙ c.in-Some.is) in
    on-ok c.number.result _ (sym found.0)

pub returns-in-Some-clause-number : goal.returns-in-Some-clause-number
returns-in-Some-clause-number c =
    let found = found-list c.args.all.now (texts_of c.args.literals.now) c.args.keys.now c.in_ok-key.key c.requires c.in_ok-key.ensures c.in-Some.place (sym c.place.ensures.place ∙ c.in-Some.is) in
    number-moved c.number.result _ _ c.number.ensures.is (sym found.1)

pub returns-clause-lists : goal.returns-clause-lists
returns-clause-lists c =
    let new = new-list c.args.all.now (texts_of c.args.literals.now) c.args.keys.now c.in_ok-key.key c.requires c.in_ok-key.ensures (sym c.place.ensures.place ∙ none-of c.place.result c.in_default.not-Some) in
    c.in_ok-push.ensures.ok ∙ ap (λ (xs : List Text). c.args.all.now ++ xs ∷ []) c.in_ok-texts_of.ensures ∙ sym new.0

pub returns-clause-number : goal.returns-clause-number
returns-clause-number c =
    let new = new-list c.args.all.now (texts_of c.args.literals.now) c.args.keys.now c.in_ok-key.key c.requires c.in_ok-key.ensures (sym c.place.ensures.place ∙ none-of c.place.result c.in_default.not-Some) in
    c.in_ok-own.ensures.is ∙ c.len.ensures ∙ sym new.1
