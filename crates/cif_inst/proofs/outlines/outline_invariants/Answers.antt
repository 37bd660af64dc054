use Rattle.std.proofs.Common.{ℕ, ◌+◌, ◌++◌, [], ◌∷◌, List, append_assoc, drop, map, sym, ap, ◌∙◌}
use Rattle.std.proofs.lemmas.List.{at_drop_more, map-append}
use Rattle.cif_net_model.specs.Net.{NetInvariant}
use Rattle.cif_net.specs.View.{invariant_tree}
use Rattle.cif_net.specs.declared.predicates.Invariant.{Invariant}
use Rattle.cif_net_expr.specs.Tree.{NetExpr}
use Rattle.cif_alg_measure.specs.declared.measures.Measure.{Measure}
use Rattle.cif_inst.specs.Outlines as outlines
use Rattle.cif_inst.proofs.outlines.outline_invariants.Goals as goal

pub loop-one-preserved : goal.loop-one-preserved
loop-one-preserved c =
    let none : Measure = record { size = 0; depth = 0 } in
    let i : ℕ = c.loop-one._one-index in
    let next : ℕ = c.loop-one.next in
    let measures : List Measure = c.args.measures.now in
    let one : Invariant = record { pred = c.outline_expr.result; at = 0 } in
    let before : List NetInvariant = map invariant_tree c.loop-one.all in
    let rest : List NetInvariant = outlines.outline_invariants (next + 1) (drop (i + 1) measures) in
    ap (λ k. map invariant_tree c.push.new.self ++ outlines.outline_invariants k (drop (i + 1) measures)) c.in_ok-next.ensures.is
    ∙ ap (λ (all : List Invariant). map invariant_tree all ++ rest) c.in_ok-push.ensures.ok
    ∙ ap (λ found. found ++ rest) (map-append invariant_tree c.loop-one.all (one ∷ []))
    ∙ append_assoc before (invariant_tree one ∷ []) rest
    ∙ ap (λ (e : NetExpr). before ++ record { pred = e; at = 0 } ∷ rest) c.outline_expr.ensures
    ∙ ap (λ found. before ++ found) (sym (at_drop_more (outlines.outline_invariants next) measures i none c.loop-one-test.true))
    ∙ c.loop-one.invariant
