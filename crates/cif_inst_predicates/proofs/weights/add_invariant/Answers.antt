use Rattle.std.proofs.Common.{◌≡◌, [], ◌∷◌, ◌++◌, map, sym, ◌∙◌, ap, subst}
use Rattle.std.specs.Prelude.{OnOk}
use Rattle.cif_ast.specs.View.{view}
use Rattle.cif_source.specs.Source.{invariant_tree}
use Rattle.cif_inst_names.specs.Looking.{component_at}
use Rattle.cif_inst_sizes.specs.Weights.{alg_by}
use Rattle.cif_inst_predicates.specs.Predicates.{invariants_by}
use Rattle.cif_inst_predicates.specs.Weights.{invariant_weight}
use Rattle.cif_inst_predicates.proofs.WeightLaws.{predicate-weight}
use Rattle.cif_inst_predicates.proofs.weights.add_invariant.Goals as goal

pub returns-in_ok-value_measure-in-State : goal.returns-in_ok-value_measure-in-State
returns-in_ok-value_measure-in-State c =
    let home = component_at c.args.looking.now c.args.one.now.component in
    let alg = alg_by c.args.looking.now c.args.weights.now in
    subst (λ ms. OnOk c.push.result (c.push.new.self ≡ c.args.all.now ++ ms))
    (
    ap (λ m. m ∷ []) (c.in_ok-value_measure-in-State.ensures ∙ sym (predicate-weight alg home (view c.in-State.p)))
    ∙ ap (λ i. map (invariant_weight alg) (invariants_by home (invariant_tree i))) (sym c.in-State.is)
    )
    c.push.ensures.ok
