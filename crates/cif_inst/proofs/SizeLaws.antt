-- A refusal of sizes is due.
use Rattle.std.proofs.Common.{◌≡◌, ℕ, ◌+◌, true, false, ◌||◌, nat_lt, List, [], ◌∷◌, length, ◌++◌, append_assoc, map, drop, refl, sym, subst, ◌∙◌, ap, arith}
use Rattle.std.specs.Prelude.{flat_map}
use Rattle.std.proofs.lemmas.Bool.Decides.{nat_tests}
use Rattle.std.proofs.lemmas.List.{map-append}
use Rattle.cif_system.proofs.Lists.{map-length}
use Rattle.cif_net_expr.specs.Tree.{NetExpr}
use Rattle.cif_net_model.specs.Exprs.{edge_exprs}
use Rattle.cif_net_model.specs.Net.{NetAuto, NetEvent, NetExclusion, NetInvariant, Net}
use Rattle.cif_net_model.specs.Facts.{is_net}
use Rattle.cif_net_model.specs.Counts as counts
use Rattle.cif_net_model.specs.Counts.{invariant_exprs, nodes, depth, stopped, most_nodes, most_depth, is_too_large}
use Rattle.cif_net_model.proofs.CycleLaws.{acyclic-by_rank}
use Rattle.cif_alg_measure.specs.declared.measures.Measure.{Measure}
use Rattle.cif_alg_measure.specs.Meanings.{table_measure}
use Rattle.cif_alg_measure.specs.Sizes.{AreMeasured}
use Rattle.cif_alg_order.specs.Orders.{IsRankOf}
use Rattle.cif_alg.specs.Sizes.{sizes_added}
use Rattle.cif_alg.specs.Tallies.{counted}
use Rattle.cif_alg.specs.Outlines.{counted_auto, counted_exclusion, counted_invariant, AreAsLarge}
use Rattle.cif_source.specs.Source.{Source}
use Rattle.cif_inst_model.specs.Flat.{net_of_source}
use Rattle.cif_inst_model.specs.NetRules.{TooLargeDue}
use Rattle.cif_inst_names.specs.Looking.{source_for}
use Rattle.cif_inst_names.specs.declared.looking.Looking.{Looking}
use Rattle.cif_inst_sizes.specs.Definitions.{alg_weight}
use Rattle.cif_inst_sizes.proofs.RankLaws.{depth-split}
use Rattle.cif_inst_sizes.specs.Weights.{edge_weight}
use Rattle.cif_inst_predicates.specs.Weights.{weight_of, excluded_of, invariant_weight, AreWeightsOf}
use Rattle.cif_inst_predicates.specs.declared.weights.Excluded.{Excluded}
use Rattle.cif_inst_predicates.specs.declared.weights.PredicateWeights.{PredicateWeights}
use Rattle.cif_inst_paths.specs.Names.{AreMatchedNames}
use Rattle.cif_inst_paths.specs.Rows.{RowTree, rows_of}
use Rattle.cif_inst.specs.Events.{all_events}
use Rattle.cif_inst_automata.specs.Alphabets.{rows_alphabets}
use Rattle.cif_inst_automata.specs.Autos.{rows_autos}
use Rattle.cif_inst.specs.Measures.{rows_weights, measure_of, predicate_weights}
use Rattle.cif_inst.specs.Outlines.{outlines, outline_exclusions, outline_invariants, outlined_nodes, greatest_depth, tells_size}
use Rattle.cif_inst.specs.Net.{due, KeepsInstances}
use Rattle.cif_inst_automata.specs.declared.alphabets.Alphabet.{Alphabet}
use Rattle.cif_inst.specs.declared.error.InstErr.{InstErr}
use Rattle.cif_inst.specs.declared.error.InstErr.TheVariants.{AlphabetLacks, RoleMixed, TooManyObjects, ConstantRange, TooLarge, Memory}
use Rattle.cif_inst.proofs.EventLaws.{events-are}
use Rattle.cif_inst_automata.proofs.NetAutoLaws.{autos-are}
use Rattle.cif_inst.proofs.OutlineLaws.{left-past, exclusions-as, invariants-as, rows-as, edges_of, weights-are, depth-append, own-deep, together-deep}

-- a count that stops is past its limit where the whole one is
past : (m v : ℕ) → nat_lt m (stopped m v) ≡ nat_lt m v
past m v =
    elim (nat_lt m v) as (λ t. nat_lt m v ≡ t → nat_lt m (stopped m v) ≡ t) [
      | true ↦ λ h. grind (arith, nat_tests)
      | false ↦ λ h. grind (arith, nat_tests)
    ] refl

-- what the sizes of a source are found by
pub record IsOutlined (l : Looking) (rows : List RowTree) (all : List Alphabet) (listed : List NetEvent) (w : PredicateWeights) (ms own : List Measure) : Type 0 where
  pub names : AreMatchedNames l
  pub of_source : rows ≡ rows_of (source_for l)
  pub found : all ≡ rows_alphabets l 0 rows
  pub declared : listed ≡ all_events (source_for l) rows
  pub predicates : AreWeightsOf (alg_weight (net_of_source (source_for l))) (net_of_source (source_for l)) w
  pub weighed : ms ≡ predicate_weights w ++ rows_weights (alg_weight (net_of_source (source_for l))) l 0 rows
  pub kept : KeepsInstances (source_for l)
  pub measured : AreMeasured own (net_of_source (source_for l))
  pub ranked : (rank : ℕ → ℕ) × IsRankOf (net_of_source (source_for l)) rank
  pub fits : is_net (net_of_source (source_for l)) ≡ true

-- ---- the measures of predicates

abbrev excluding : Net → List NetExpr
excluding n = map (λ (x : NetExclusion). x.pred) n.exclusions

module _ (alg : ℕ → counts.Measure) where
  exclusions-weighed : (xs : List NetExclusion) → map measure_of (map (excluded_of alg) xs) ≡ map (weight_of alg) (map (λ (x : NetExclusion). x.pred) xs)
  exclusions-weighed [] = refl
  exclusions-weighed (x ∷ xs) = ap (λ ws. weight_of alg x.pred ∷ ws) (exclusions-weighed xs)

  invariants-weighed : (is : List NetInvariant) → map (invariant_weight alg) is ≡ map (weight_of alg) (map (λ (i : NetInvariant). i.pred) is)
  invariants-weighed [] = refl
  invariants-weighed (i ∷ is) = ap (λ ws. weight_of alg i.pred ∷ ws) (invariants-weighed is)

  predicates-weighed : (n : Net) (w : PredicateWeights) → AreWeightsOf alg n w → predicate_weights w ≡ map (weight_of alg) (excluding n ++ invariant_exprs n)
  predicates-weighed n w h =
      (λ k. map measure_of (h.exclusions k) ++ h.invariants k)
      ∙ (λ k. exclusions-weighed n.exclusions k ++ invariants-weighed n.invariants k)
      ∙ sym (map-append (weight_of alg) (excluding n) (invariant_exprs n))

-- ---- a source

module _ (l : Looking) (rows : List RowTree) (all : List Alphabet) (listed : List NetEvent) (w : PredicateWeights) (ms own : List Measure) (o : IsOutlined l rows all listed w ms own) where
  abbrev t : Source
  t = source_for l

  abbrev net : Net
  net = net_of_source t

  abbrev alg : ℕ → counts.Measure
  alg = alg_weight net

  abbrev edge_weights : List Measure
  edge_weights = rows_weights alg l 0 (rows_of t)

  same-autos : rows_autos l 0 rows ≡ net.autos
  same-autos = autos-are l o.names rows o.of_source

  weighed : ms ≡ predicate_weights w ++ edge_weights
  weighed = o.weighed ∙ ap (λ (rs : List RowTree). predicate_weights w ++ rows_weights alg l 0 rs) o.of_source

  -- behind the exclusions, and behind these and the state invariants
  whole : ms ≡ map measure_of w.exclusions ++ (w.invariants ++ edge_weights)
  whole = weighed ∙ append_assoc (map measure_of w.exclusions) w.invariants edge_weights

  past-exclusions : drop (length w.exclusions) ms ≡ w.invariants ++ edge_weights
  past-exclusions =
      let number : 0 + length w.exclusions ≡ length w.exclusions = omega arith in
      subst (λ k. drop k ms ≡ w.invariants ++ edge_weights) number
      (left-past ms (map measure_of w.exclusions) (w.invariants ++ edge_weights) 0 (length w.exclusions) (sym (map-length measure_of w.exclusions)) whole)

  past-predicates : drop (length w.exclusions + length w.invariants) ms ≡ edge_weights
  past-predicates = left-past ms w.invariants edge_weights (length w.exclusions) (length w.invariants) refl past-exclusions

  as-large : AreAsLarge ms (outlines (length w.exclusions + length w.invariants) all) (outline_exclusions 0 w.exclusions) (outline_invariants (length w.exclusions) w.invariants) net
  as-large = record {
    autos_as =
        ap (λ (xs : List Alphabet). map (counted_auto (table_measure ms)) (outlines (length w.exclusions + length w.invariants) xs)) (o.found ∙ ap (rows_alphabets l 0) o.of_source)
        ∙ rows-as alg l ms (rows_of t) 0 (length w.exclusions + length w.invariants) past-predicates
        ∙ ap (map (counted_auto alg)) (autos-are l o.names (rows_of t) refl);
    exclusions_as =
        ap (λ (xs : List Excluded). map (counted_exclusion (table_measure ms)) (outline_exclusions 0 xs)) o.predicates.exclusions
        ∙ exclusions-as alg ms net.exclusions 0 (w.invariants ++ edge_weights) (whole ∙ ap (λ (xs : List Excluded). map measure_of xs ++ (w.invariants ++ edge_weights)) o.predicates.exclusions);
    invariants_as =
        ap (λ (xs : List Measure). map (counted_invariant (table_measure ms)) (outline_invariants (length w.exclusions) xs)) o.predicates.invariants
        ∙ invariants-as alg ms net.invariants (length w.exclusions) edge_weights (past-exclusions ∙ ap (λ (xs : List Measure). xs ++ edge_weights) o.predicates.invariants);
  }

  deep : greatest_depth ms own ≡ stopped most_depth (depth net)
  deep =
      let outside : List NetExpr = excluding net ++ invariant_exprs net in
      let parts : List NetExpr = flat_map edge_exprs (edges_of net.autos) in
      let shown =
      together-deep alg ms outside (edges_of net.autos)
      (o.weighed ∙ (λ i. predicates-weighed alg net w o.predicates i ++ (weights-are alg l 0 rows ∙ ap (λ (autos : List NetAuto). map (edge_weight alg) (edges_of autos)) same-autos) i)) in
      omega (arith, shown, own-deep net own o.measured, depth-split net o.ranked.0 o.ranked.1, depth-append alg parts outside, depth-append alg outside parts)

  -- ---- nodes

  module _ (law : (n : Net) (own algs : List Measure) (autos : List NetAuto) (exclusions : List NetExclusion) (invariants : List NetInvariant) → is_net n ≡ true → AreMeasured own n → AreAsLarge algs autos exclusions invariants n
      → sizes_added (counted (table_measure algs) autos exclusions invariants n.events) own ≡ stopped most_nodes (nodes n)) where
    nodes-told : outlined_nodes all listed w ms own ≡ stopped most_nodes (nodes net)
    nodes-told =
        ap (λ (es : List NetEvent). outlined_nodes all es w ms own) (o.declared ∙ ap (all_events t) o.of_source ∙ events-are t)
        ∙ law net own ms (outlines (length w.exclusions + length w.invariants) all) (outline_exclusions 0 w.exclusions) (outline_invariants (length w.exclusions) w.invariants) o.fits o.measured as-large

    over : (k d : ℕ) → k ≡ stopped most_nodes (nodes net) → d ≡ stopped most_depth (depth net) → is_too_large net ≡ (nat_lt most_nodes k || nat_lt most_depth d)
    over k d p q =
        ap (λ b. b || nat_lt most_depth (depth net)) (sym (ap (nat_lt most_nodes) p ∙ past most_nodes (nodes net)))
        ∙ ap (λ b. nat_lt most_nodes k || b) (sym (ap (nat_lt most_depth) q ∙ past most_depth (depth net)))

    pub size_due : (e : InstErr) → tells_size all listed w ms own e → due t e
    size_due (TooLarge k d) h =
        let p : k ≡ stopped most_nodes (nodes net) = h.0 ∙ nodes-told in
        let q : d ≡ stopped most_depth (depth net) = h.1 ∙ deep in
        let large : TooLargeDue t k d = (acyclic-by_rank net o.ranked.0 o.ranked.1.falls, over k d p q ∙ h.2, p, q) in
        (o.kept, large)
    size_due (AlphabetLacks at) h = absurd h
    size_due (RoleMixed at) h = absurd h
    size_due (TooManyObjects count) h = absurd h
    size_due (ConstantRange at) h = absurd h
    size_due Memory h = tt
