use Rattle.std.proofs.Common.{◌≡◌, ◌∙◌, Some, None, ap, sym, subst}
use Rattle.std.specs.Prelude.{slice_get}
use Rattle.cif_system.proofs.Lists.{some-same, none-some}
use Rattle.cif_inst_numbers.specs.Counting.{counted_what}
use Rattle.cif_inst_numbers.specs.Numbers.{IsNumbered}
use Rattle.cif_inst_numbers.proofs.Entries.{counted_entry}
use Rattle.cif_inst_numbers.proofs.NumberLaws.{row-at, counted-here, numbered-none, numbered-here}
use Rattle.cif_inst_numbers.proofs.numbers.Numbers.declared.Goals as goal

pub returns-in_err-component : goal.returns-in_err-component
returns-in_err-component c t d e are all h own at =
    let row = row-at t c.args.scopes.now are c.args.components.now all c.args.place.component d own in
    absurd (none-some row.0 (sym c.in_err-component.was ∙ c.get.ensures ∙ row.1))

pub returns-in_err-among : goal.returns-in_err-among
returns-in_err-among c t d e are all h own at =
    let here : slice_get c.args.components.now.all c.args.place.component ≡ Some c.in_ok-component.component = sym c.get.ensures ∙ c.in_ok-component.was in
    let sort = counted-here t c.args.scopes.now are c.args.components.now all c.args.self.now h c.args.place.component c.args.place.slot d e c.in_ok-component.component own at here in
    let none : counted_entry e ≡ None = sym (c.in_err-among.ensures ∙ ap counted_what c.what.ensures ∙ sort) in
    subst (λ r. IsNumbered t d e r) (sym c.from_residual-in_err-among.ensures) (numbered-none t d e none)

pub returns-in_err-number : goal.returns-in_err-number
returns-in_err-number c t d e are all h own at =
    let here : slice_get c.args.components.now.all c.args.place.component ≡ Some c.in_ok-component.component = sym c.get.ensures ∙ c.in_ok-component.was in
    let sort = counted-here t c.args.scopes.now are c.args.components.now all c.args.self.now h c.args.place.component c.args.place.slot d e c.in_ok-component.component own at here in
    let some : counted_entry e ≡ Some c.in_ok-among.among = sym (c.in_ok-among.ensures ∙ ap counted_what c.what.ensures ∙ sort) in
    let n = numbered-here t c.args.scopes.now are c.args.components.now all c.args.self.now h c.args.place.component c.args.place.slot d e c.in_ok-component.component c.in_ok-among.among c.number.result own at here some c.number.ensures in
    absurd (none-some n.0 (sym c.in_err-number.was ∙ n.1))

pub returns : goal.returns
returns c t d e are all h own at =
    let here : slice_get c.args.components.now.all c.args.place.component ≡ Some c.in_ok-component.component = sym c.get.ensures ∙ c.in_ok-component.was in
    let sort = counted-here t c.args.scopes.now are c.args.components.now all c.args.self.now h c.args.place.component c.args.place.slot d e c.in_ok-component.component own at here in
    let some : counted_entry e ≡ Some c.in_ok-among.among = sym (c.in_ok-among.ensures ∙ ap counted_what c.what.ensures ∙ sort) in
    let n = numbered-here t c.args.scopes.now are c.args.components.now all c.args.self.now h c.args.place.component c.args.place.slot d e c.in_ok-component.component c.in_ok-among.among c.number.result own at here some c.number.ensures in
    subst (λ v. IsNumbered t d e (Some (record { among = c.in_ok-among.among; number = v }))) (some-same n.0 c.in_ok-number.number (sym n.1 ∙ c.in_ok-number.was)) n.2
