use Rattle.std.proofs.Common.{List, map, sym, ◌∙◌, ap, subst}
use Rattle.std.specs.Prelude.{IfSome}
use Rattle.std.proofs.lemmas.List.{length-map}
use Rattle.cif_order.specs.Graph.{IsOrder}
use Rattle.cif_inst_parameters.specs.Given.{given_items}
use Rattle.cif_inst_names.specs.Looking.{source_for}
use Rattle.cif_inst_sizes.specs.Definitions.{definition_tree}
use Rattle.cif_inst_sizes.specs.Naming.{firsts_from, AreNeeds}
use Rattle.cif_inst_sizes.specs.declared.weights.Weights.{Weights}
use Rattle.cif_inst_sizes.proofs.DefinitionLaws.{start-weighed}
use Rattle.cif_inst_sizes.proofs.WeightLaws.{weights}
use Rattle.cif_inst_sizes.proofs.weights.weigh.Goals as goal

pub put_all-requires-clause-weighed : goal.put_all-requires-clause-weighed
put_all-requires-clause-weighed c =
    let l = c.args.looking.now in
    let ds = c.args.definitions.items in
    let given = map given_items l.given.now in
    let many = c.len-count.ensures ∙ c.args.definitions.ok.0 ∙ sym (length-map ds definition_tree) in
    let w : Weights = record { exact = c.args.exact; count = c.in_ok-number.field-0; firsts = c.firsts.inside.items.items; table = c.in_ok-filled.field-0 } in
    let all = map definition_tree c.as_slice-3.result.now in
    let same = ap (map definition_tree) (c.as_slice.ensures.value ∙ sym c.as_slice-3.ensures.value) in
    let order = c.in-Some.order in
    let ordered = subst (λ o. IfSome o (λ (xs : List _). IsOrder c.as_slice-2.result.now xs)) c.in-Some.is c.in_ok-order.ensures in
    start-weighed l (map definition_tree ds) all w c.in_ok-needs.needs order c.len.result c.requires.definitions
    (ap (map definition_tree) c.as_slice-3.ensures.value ∙ c.in_ok-add_all_arguments.ensures)
    (c.in_ok-number.ensures.is ∙ many)
    (c.firsts.view_is ∙ c.in_ok-firsts.ensures ∙ ap (λ n. firsts_from n given) many)
    c.in_ok-filled.ensures
    (λ are. subst (λ xs. AreNeeds (source_for l) w.count all xs c.in_ok-needs.needs) same (c.in_ok-needs.ensures.needed all are))
    (subst (λ ns. IsOrder ns order) c.as_slice-2.ensures ordered)

pub returns : goal.returns
returns c = weights c.args.looking.now c.put_all.new.weights (map definition_tree c.as_slice-3.result.now) c.in_ok-put_all.ensures
