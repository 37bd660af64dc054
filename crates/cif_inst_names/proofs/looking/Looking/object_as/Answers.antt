use Rattle.std.proofs.Common.{refl, subst, sym, ◌∙◌}
use Rattle.cif_source.specs.Components.{as_written}
use Rattle.cif_scope.specs.Tables.{IsWhat}
use Rattle.cif_inst_names.specs.Looking.{source_for}
use Rattle.cif_inst_names.proofs.ObjectLaws.{stands, root, automaton-fits, constant-stands, declared-stands}
use Rattle.cif_inst_names.proofs.looking.Looking.object_as.Goals as goal

pub returns-in-Location : goal.returns-in-Location
returns-in-Location c d e names num entry body is =
    let t = source_for c.args.self.now in
    let own = root t c.args.place.component d num in
    stands t d own (as_written d) e _ (subst (λ w. IsWhat t (as_written d) e w) c.in-Location.is is) _
    (c.automaton.result, refl, automaton-fits t c.args.place d e c.automaton.result entry (c.automaton.ensures t d names.numbers num) own)

pub returns-then-is_constant : goal.returns-then-is_constant
returns-then-is_constant c d e names num entry body is =
    let t = source_for c.args.self.now in
    constant-stands t d (as_written d) (root t c.args.place.component d num) e c.args.what c.in-Declared.sort c.in-Declared.is (sym c.is_constant.ensures ∙ c.if-is_constant.true) is c.args.self.now.values.now names.values
    c.args.place c.args.body num entry body _ c.value_at.ensures

pub returns-else-is_constant : goal.returns-else-is_constant
returns-else-is_constant c d e names num entry body is =
    let t = source_for c.args.self.now in
    declared-stands t d (as_written d) (root t c.args.place.component d num) e c.args.what c.in-Declared.sort c.in-Declared.is (sym c.is_constant.ensures ∙ c.if-is_constant.false) is c.declared.result
    (c.declared.ensures t d e names.scopes names.components names.numbers num entry) _ c.object_with.ensures
