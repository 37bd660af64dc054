use Rattle.std.proofs.Common.{◌≡◌, true, false, List, ◌++◌, map, sym, ◌∙◌, ap, subst}
use Rattle.std.specs.Prelude.{OnOk}
use Rattle.cif_ast.specs.View.{view}
use Rattle.cif_ast.specs.declared.names.Name.{Name}
use Rattle.cif_source.specs.Source.{invariant_tree}
use Rattle.cif_inst_names.specs.Looking.{component_at}
use Rattle.cif_inst_sizes.specs.Weights.{alg_by, expression_measure}
use Rattle.cif_inst_predicates.specs.Predicates.{exclusions_by}
use Rattle.cif_inst_predicates.specs.Weights.{excluded_of, excluded_by}
use Rattle.cif_inst_predicates.proofs.WeightLaws.{excluded-weights}
use Rattle.cif_inst_predicates.proofs.weights.add_exclusions.Goals as goal

pub returns-in-Needs : goal.returns-in-Needs
returns-in-Needs c =
    let home = component_at c.args.looking.now c.args.one.now.component in
    let alg = alg_by c.args.looking.now c.args.weights.now in
    let p = view c.in-Needs.p in
    subst (λ xs. OnOk c.add_each.result (c.add_each.new.all ≡ c.args.all.now ++ xs))
    (
    ap (λ (nms : List Name). map (excluded_by home (expression_measure alg home p)) nms) c.as_slice.ensures
    ∙ excluded-weights alg home p true c.in-Needs.events
    ∙ ap (λ i. map (excluded_of alg) (exclusions_by home (invariant_tree i))) (sym c.in-Needs.is)
    )
    c.add_each.ensures

pub returns-in-Disables : goal.returns-in-Disables
returns-in-Disables c =
    let home = component_at c.args.looking.now c.args.one.now.component in
    let alg = alg_by c.args.looking.now c.args.weights.now in
    let p = view c.in-Disables.p in
    subst (λ xs. OnOk c.add_each-in-Disables.result (c.add_each-in-Disables.new.all ≡ c.args.all.now ++ xs))
    (
    ap (λ (nms : List Name). map (excluded_by home (expression_measure alg home p)) nms) c.as_slice-in-Disables.ensures
    ∙ excluded-weights alg home p false c.in-Disables.events
    ∙ ap (λ i. map (excluded_of alg) (exclusions_by home (invariant_tree i))) (sym c.in-Disables.is)
    )
    c.add_each-in-Disables.ensures
