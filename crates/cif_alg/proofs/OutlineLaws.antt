-- Automata, exclusions and state invariants of which the same is counted have as many nodes.
use Rattle.std.proofs.Common.{◌≡◌, ℕ, ◌+◌, true, List, [], ◌∷◌, map, length, replicate, sum_by, refl, sym, ◌∙◌, ap, arith}
use Rattle.std.proofs.lemmas.List.Sums.{sum_by-cons}
use Rattle.cif_net_model.specs.Net.{NetEdge, NetAuto, NetEvent, NetExclusion, NetInvariant, Net}
use Rattle.cif_net_model.specs.Exprs.{edge_exprs}
use Rattle.cif_net_model.specs.Facts.{is_net}
use Rattle.cif_net_model.specs.Unfolding.{at_or}
use Rattle.cif_net_expr.specs.Tree.{NetExpr}
use Rattle.cif_net_model.specs.Counts.{no_form, alg_measures, measure_by, nodes, stopped, most_nodes}
use Rattle.cif_net_model.specs.Counts as counts
use Rattle.cif_alg_measure.specs.declared.measures.Measure.{Measure}
use Rattle.cif_alg_measure.specs.Meanings.{stopped_measure, table_measure, stopped_table}
use Rattle.cif_alg_measure.specs.Sizes.{AreMeasured, sizes_by, exprs_counted}
use Rattle.cif_alg_measure.proofs.SizeLaws.{size-told, size-of_net}
use Rattle.cif_alg.specs.declared.tally.Tally.{Tally}
use Rattle.cif_alg.specs.Sizes.{sizes_added}
use Rattle.cif_alg.specs.Weighed.{cut}
use Rattle.cif_alg.specs.Tallies.{met_with, with_edge, with_besides, edge_nodes, exclusion_nodes, invariants_nodes, changed, each_changed, opened_for, edges_noted, stays_noted, closed_for, exclusions_noted, all_tallied, tallies_nodes, counted}
use Rattle.cif_alg.specs.Outlines.{CountedEdge, CountedAuto, CountedExclusion, counted_edge, counted_auto, counted_exclusion, counted_invariant, AreAsLarge}
use Rattle.cif_alg.proofs.InlineLaws.{told}

-- ---- the same, by what is counted

abbrev edges_by : List CountedEdge → List Tally → List Tally
edges_by xs ts = each_changed (λ (x : CountedEdge). x.event) (λ x. with_edge x.role (cut (1 + x.size))) xs ts

abbrev auto_by : CountedAuto → List Tally → List Tally
auto_by a ts = closed_for a.alphabet (stays_noted a.monitors (edges_by a.edges (opened_for a.alphabet ts)))

abbrev autos_by : List CountedAuto → List Tally → List Tally
autos_by [] ts = ts
autos_by (a ∷ autos) ts = autos_by autos (auto_by a ts)

abbrev exclusions_by : List CountedExclusion → List Tally → List Tally
exclusions_by xs ts = each_changed (λ (x : CountedExclusion). x.event) (λ x. with_besides x.size) xs ts

abbrev invariants_by : List ℕ → ℕ
invariants_by sizes = cut (sum_by (λ k. k) sizes)

abbrev counted_by : List CountedAuto → List CountedExclusion → (invariants : List ℕ) → List NetEvent → ℕ
counted_by autos exclusions invariants events = tallies_nodes 0 events (exclusions_by exclusions (autos_by autos (replicate (length events) (met_with (invariants_by invariants)))))

-- ---- nothing else is asked

each-mapped : {X Y A : Type 0} (f : X → Y) (key : Y → ℕ) (g : Y → A → A) (xs : List X) (ts : List A) → each_changed (λ x. key (f x)) (λ x. g (f x)) xs ts ≡ each_changed key g (map f xs) ts
each-mapped f key g [] ts = refl
each-mapped f key g (x ∷ xs) ts = each-mapped f key g xs (changed (g (f x)) (key (f x)) ts)

module _ (alg : ℕ → counts.Measure) where
  edges-by : (xs : List NetEdge) (ts : List Tally) → edges_noted alg xs ts ≡ edges_by (map (counted_edge alg) xs) ts
  unfolding edge_nodes
  edges-by xs ts = each-mapped (counted_edge alg) (λ (x : CountedEdge). x.event) (λ x. with_edge x.role (cut (1 + x.size))) xs ts

  autos-by : (autos : List NetAuto) (ts : List Tally) → all_tallied alg autos ts ≡ autos_by (map (counted_auto alg) autos) ts
  autos-by [] ts = refl
  autos-by (a ∷ autos) ts =
      ap (λ us. all_tallied alg autos (closed_for a.alphabet (stays_noted a.monitors us))) (edges-by a.edges (opened_for a.alphabet ts))
      ∙ autos-by autos (auto_by (counted_auto alg a) ts)

  exclusions-by : (xs : List NetExclusion) (ts : List Tally) → exclusions_noted alg xs ts ≡ exclusions_by (map (counted_exclusion alg) xs) ts
  unfolding exclusion_nodes
  exclusions-by xs ts = each-mapped (counted_exclusion alg) (λ (x : CountedExclusion). x.event) (λ x. with_besides x.size) xs ts

  sizes-by : (xs : List NetInvariant) → cut (sizes_by alg (map (λ (i : NetInvariant). i.pred) xs)) ≡ invariants_by (map (counted_invariant alg) xs)
  sizes-by [] = refl
  sizes-by (x ∷ xs) =
      let size : NetExpr → ℕ = λ e. (measure_by alg e).size in
      omega (
        arith,
        sum_by-cons size x.pred (map (λ (i : NetInvariant). i.pred) xs),
        sum_by-cons size x.pred [],
        sum_by-cons (λ (k : ℕ). k) (counted_invariant alg x) (map (counted_invariant alg) xs),
        sizes-by xs,
      )

  invariants-by : (xs : List NetInvariant) → invariants_nodes alg xs ≡ invariants_by (map (counted_invariant alg) xs)
  unfolding invariants_nodes
  invariants-by xs = sizes-by xs

  counted-by : (autos : List NetAuto) (exclusions : List NetExclusion) (invariants : List NetInvariant) (events : List NetEvent)
      → counted alg autos exclusions invariants events ≡ counted_by (map (counted_auto alg) autos) (map (counted_exclusion alg) exclusions) (map (counted_invariant alg) invariants) events
  counted-by autos exclusions invariants events =
      let begin : List Tally = replicate (length events) (met_with (invariants_by (map (counted_invariant alg) invariants))) in
      ap (λ k. tallies_nodes 0 events (exclusions_noted alg exclusions (all_tallied alg autos (replicate (length events) (met_with k))))) (invariants-by invariants)
      ∙ ap (λ ts. tallies_nodes 0 events (exclusions_noted alg exclusions ts)) (autos-by autos begin)
      ∙ ap (tallies_nodes 0 events) (exclusions-by exclusions (autos_by (map (counted_auto alg) autos) begin))

-- ---- by the measures of the algebraic variables

module _ (n : Net) (own : List Measure) (measured : AreMeasured own n) where
  abbrev weight : ℕ → counts.Measure
  weight = at_or no_form (alg_measures n)

  same-size : (es : List NetExpr) → cut (sizes_by weight es) ≡ cut (sizes_by (table_measure own) es)
  same-size es =
      let m : Measure = exprs_counted (stopped_table own) (stopped_measure no_form) es in
      sym (size-of_net own es m refl n measured) ∙ size-told own es m refl

  same-edges : (xs : List NetEdge) → map (counted_edge weight) xs ≡ map (counted_edge (table_measure own)) xs
  same-edges [] = refl
  same-edges (x ∷ xs) = λ i. record { event = x.event; role = x.role; size = same-size (edge_exprs x) i } ∷ same-edges xs i

  same-autos : (autos : List NetAuto) → map (counted_auto weight) autos ≡ map (counted_auto (table_measure own)) autos
  same-autos [] = refl
  same-autos (a ∷ autos) = λ i. record { alphabet = a.alphabet; monitors = a.monitors; edges = same-edges a.edges i } ∷ same-autos autos i

  same-exclusions : (xs : List NetExclusion) → map (counted_exclusion weight) xs ≡ map (counted_exclusion (table_measure own)) xs
  same-exclusions [] = refl
  same-exclusions (x ∷ xs) = λ i. record { event = x.event; size = same-size (x.pred ∷ []) i } ∷ same-exclusions xs i

  same-invariants : (xs : List NetInvariant) → map (counted_invariant weight) xs ≡ map (counted_invariant (table_measure own)) xs
  same-invariants [] = refl
  same-invariants (x ∷ xs) = λ i. same-size (x.pred ∷ []) i ∷ same-invariants xs i

pub outlined : (n : Net) (own algs : List Measure) (autos : List NetAuto) (exclusions : List NetExclusion) (invariants : List NetInvariant)
    → is_net n ≡ true → AreMeasured own n → AreAsLarge algs autos exclusions invariants n
    → sizes_added (counted (table_measure algs) autos exclusions invariants n.events) own ≡ stopped most_nodes (nodes n)
outlined n own algs autos exclusions invariants stands measured large =
    ap (λ k. sizes_added k own)
    (counted-by (table_measure algs) autos exclusions invariants n.events
    ∙ (λ i. counted_by (large.autos_as i) (large.exclusions_as i) (large.invariants_as i) n.events)
    ∙ (λ i. counted_by (same-autos n own measured n.autos i) (same-exclusions n own measured n.exclusions i) (same-invariants n own measured n.invariants i) n.events)
    ∙ sym (counted-by (table_measure own) n.autos n.exclusions n.invariants n.events))
    ∙ told n own measured stands
