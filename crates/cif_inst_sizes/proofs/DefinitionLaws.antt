-- What definitions weigh is what the code counts; and the numbers and measures of all definitions.
use Rattle.std.proofs.Common.{◌≡◌, ℕ, zero, suc, ◌<◌, inl, inr, Bool, true, false, cond, replicate, List, [], ◌∷◌, ◌++◌, length, map, Option, Some, None, refl, sym, ◌∙◌, ap, subst, arith}
use Rattle.std.specs.Prelude.{flat_map, slice_get, option_map}
use Rattle.std.proofs.lemmas.Option.{slice_get-map, slice_get_cases}
use Rattle.std.proofs.lemmas.List.{length-map}
use Rattle.cif_ast.specs.Tree.{Tree}
use Rattle.cif_ast.specs.declared.names.Name.{Name}
use Rattle.cif_system.specs.Words.{Member}
use Rattle.cif_system.proofs.Lists.{none-some, false-true}
use Rattle.cif_system.proofs.Picks.{map-at, at-member}
use Rattle.cif_order.specs.Graph.{IsOrder}
use Rattle.cif_order.proofs.OrderLaws.{order-rank}
use Rattle.cif_net_model.specs.Net.{NetAlg, Net}
use Rattle.cif_net_model.specs.Exprs.{alg_exprs}
use Rattle.cif_net_model.specs.Reads.{an_alg, names_in}
use Rattle.cif_net_model.specs.Rules.{Needs}
use Rattle.cif_net_model.specs.Counts as counts
use Rattle.cif_net_model.specs.Counts.{no_form}
use Rattle.cif_alg_measure.specs.declared.measures.Measure.{Measure}
use Rattle.cif_alg_measure.specs.Meanings.{stopped_measure}
use Rattle.cif_alg_measure.specs.Counted.{beside_stopped}
use Rattle.cif_alg_order.specs.Measured.{exprs_measured}
use Rattle.cif_alg_order.specs.Orders.{IsRankOf}
use Rattle.cif_alg_order.proofs.CountLaws.{by_location-told}
use Rattle.cif_source.specs.Source.{Source}
use Rattle.cif_source.specs.Components.{Component}
use Rattle.cif_inst_model.specs.Flat.{net_of_source}
use Rattle.cif_inst_parameters.specs.Given.{given_items}
use Rattle.cif_inst_names.specs.Looking.{source_for}
use Rattle.cif_inst_names.specs.declared.looking.Looking.{Looking}
use Rattle.cif_inst_sizes.specs.Counted.{none, value_counted, values_counted, chosen_counted}
use Rattle.cif_inst_sizes.specs.Definitions.{DefinitionTree, value_expr, definition_exprs, AreDefinitionsOf, AreBlank, Defines, alg_weight, chosen_measure, definition_measure}
use Rattle.cif_inst_sizes.specs.Naming.{all_arguments, firsts_from, AreArguments, AreNeeds}
use Rattle.cif_inst_sizes.specs.Weights.{one_each, alg_by, AreNumbered, IsExact, IsWeighed}
use Rattle.cif_inst_sizes.specs.declared.weights.Weights.{Weights}
use Rattle.cif_inst_sizes.proofs.ArgumentLaws.{arguments-are}
use Rattle.cif_inst_sizes.proofs.CountedLaws.{AreNameMeasures, expression-is}
use Rattle.cif_inst_sizes.proofs.NeedLaws.{named-lower}
use Rattle.cif_inst_sizes.proofs.FillLaws.{none-weighed}
use Rattle.cif_inst_sizes.proofs.RankLaws.{lower, ranked, chosen-is, fixed}

-- ---- one definition

module _ (f : ℕ → counts.Measure) (c : Component) (name : Name → Measure) (same : AreNameMeasures f c name) where
  value-is : (v : Option Tree) → value_counted name v ≡ stopped_measure (counts.measure_by f (value_expr c v))
  value-is None = refl
  value-is (Some e) = expression-is f c name same e

  values-are : (vs : List (Option Tree)) (a : Measure) → values_counted name a vs ≡ exprs_measured f a (map (value_expr c) vs)
  values-are [] a = refl
  values-are (v ∷ vs) a =
      ap (λ m. values_counted name (beside_stopped a m) vs) (value-is v)
      ∙ values-are vs (beside_stopped a (stopped_measure (counts.measure_by f (value_expr c v))))

  pub chosen-measured : (vs : List (Option Tree)) (n : ℕ) (m r : Measure) → n ≡ length vs → m ≡ values_counted name none vs → r ≡ chosen_counted n m → r ≡ stopped_measure (chosen_measure f (map (value_expr c) vs))
  chosen-measured vs n m r p q h = by_location-told f (map (value_expr c) vs) n m r (p ∙ sym (length-map vs (value_expr c))) (q ∙ values-are vs none) h

-- ---- all of them

get-left : {A : Type 0} (xs ys : List A) (j : ℕ) (x : A) → slice_get xs j ≡ Some x → slice_get (xs ++ ys) j ≡ Some x
get-left [] ys j x h = absurd (none-some x h)
get-left (z ∷ xs) ys zero x h = h
get-left (z ∷ xs) ys (suc j) x h = get-left xs ys j x h

get-there : {A : Type 0} (xs : List A) (k : ℕ) → k < length xs → (x : A) × (slice_get xs k ≡ Some x)
get-there xs k l = elim (slice_get_cases xs k).1 [ inl h ↦ (h.0, h.2) | inr h ↦ absurd (omega (arith, h.0)) ]

module _ (l : Looking) (defs all : List DefinitionTree) (definitions : AreDefinitionsOf (source_for l) defs) (is_all : all ≡ defs ++ all_arguments (map given_items l.given.now)) where
  abbrev t : Source
  t = source_for l

  abbrev net : Net
  net = net_of_source t

  same-exprs : map (definition_exprs t) defs ≡ map alg_exprs net.algs
  unfolding AreDefinitionsOf
  same-exprs = definitions

  as-many : length defs ≡ length net.algs
  as-many = sym (length-map defs (definition_exprs t)) ∙ ap length same-exprs ∙ length-map net.algs alg_exprs

  -- the definition of an algebraic variable
  defined : (j : ℕ) (a : NetAlg) → slice_get net.algs j ≡ Some a → (d : DefinitionTree) × (slice_get all j ≡ Some d) × (alg_exprs a ≡ definition_exprs t d)
  defined j a at =
      let there : slice_get (map (definition_exprs t) defs) j ≡ Some (alg_exprs a) = ap (λ xs. slice_get xs j) same-exprs ∙ slice_get-map alg_exprs net.algs j ∙ ap (option_map alg_exprs) at in
      let d = map-at (definition_exprs t) defs j (alg_exprs a) there in
      (d.0, ap (λ xs. slice_get xs j) is_all ∙ get-left defs (all_arguments (map given_items l.given.now)) j d.0 d.1, d.2)

  module _ (count : ℕ) (firsts : List ℕ) (needs : List (List ℕ)) (order : List ℕ) (is_count : count ≡ length defs) (from : firsts ≡ firsts_from (length defs) (map given_items l.given.now))
      (are : AreNeeds t count all all needs) (ordered : IsOrder needs order) where
    abbrev rank : ℕ → ℕ
    rank = (order-rank needs order ordered).0

    lower-at : (j k : ℕ) → Needs net j k → (k < count) × (rank k < rank j)
    lower-at j k w =
        let d = defined j w.0 w.1 in
        named-lower t count all needs are rank (order-rank needs order ordered).1.falls k j d.0 d.1 (subst (λ es. Member (an_alg k) (flat_map names_in es)) d.2 w.2)

    is-rank : IsRankOf net (λ k. lower rank (length net.algs) (rank k))
    is-rank = ranked net rank (λ j k w. (lower-at j k w).1) (λ j k w. let h : k < count = (lower-at j k w).0 in omega (arith, h, is_count, as-many))

    pub numbered-are : AreNumbered l (alg_weight net) count firsts all
    numbered-are = record {
      arguments = arguments-are all (map given_items l.given.now) defs firsts is_all from;
      variables = λ k less.
          let a = get-there net.algs k (omega (arith, less, is_count, as-many)) in
          let d = defined k a.0 a.1 in (
            d.0,
            d.1,
            ap (λ es. stopped_measure (chosen_measure (alg_weight net) es)) (sym d.2)
                ∙ ap stopped_measure (chosen-is (alg_weight net) a.0 ∙ fixed net (λ i. lower rank (length net.algs) (rank i)) is-rank k a.0 a.1),
          );
    }

    pub exact-are : IsExact l count
    exact-are = record { whole = is_count ∙ as-many; rank = λ k. lower rank (length net.algs) (rank k); is_rank = is-rank }

-- as many that are blank
module _ (l : Looking) (defs all : List DefinitionTree) (none : AreBlank defs) (is_all : all ≡ defs ++ all_arguments (map given_items l.given.now)) (count : ℕ) (firsts : List ℕ) (is_count : count ≡ length defs)
    (from : firsts ≡ firsts_from (length defs) (map given_items l.given.now)) where
  pub blank-are : AreNumbered l one_each count firsts all
  blank-are = record {
    arguments = arguments-are all (map given_items l.given.now) defs firsts is_all from;
    variables = λ k less.
        let d = get-there defs k (omega (arith, less, is_count)) in (
          d.0,
          ap (λ xs. slice_get xs k) is_all ∙ get-left defs (all_arguments (map given_items l.given.now)) k d.0 d.1,
          ap (definition_measure one_each (source_for l)) (none d.0 (at-member defs k d.0 d.1)),
        );
  }

-- with these definitions or without
pub exact-alg : (l : Looking) (w : Weights) → w.exact ≡ true → alg_by l w ≡ alg_weight (net_of_source (source_for l))
exact-alg l w h = ap (λ b. cond b (alg_weight (net_of_source (source_for l))) one_each) h

blank-alg : (l : Looking) (w : Weights) → w.exact ≡ false → alg_by l w ≡ one_each
blank-alg l w h = ap (λ b. cond b (alg_weight (net_of_source (source_for l))) one_each) h

pub start-weighed : (l : Looking) (defs all : List DefinitionTree) (w : Weights) (needs : List (List ℕ)) (order : List ℕ) (total : ℕ) → Defines (source_for l) w.exact defs → all ≡ defs ++ all_arguments (map given_items l.given.now) → w.count ≡ length defs
    → w.firsts ≡ firsts_from (length defs) (map given_items l.given.now) → w.table ≡ replicate total None → (AreArguments (map given_items l.given.now) w.firsts all → AreNeeds (source_for l) w.count all all needs) → IsOrder needs order
    → IsWeighed l all w
start-weighed l defs all w needs order total defines is_all is_count from empty needed ordered = by w.exact refl defines
  where
    are : AreNeeds (source_for l) w.count all all needs
    are = needed (arguments-are all (map given_items l.given.now) defs w.firsts is_all from)

    by : (b : Bool) → w.exact ≡ b → Defines (source_for l) b defs → IsWeighed l all w
    by true e h = record {
      numbered = subst (λ f. AreNumbered l f w.count w.firsts all) (sym (exact-alg l w e)) (numbered-are l defs all h is_all w.count w.firsts needs order is_count from are ordered);
      weighed = none-weighed (source_for l) (alg_by l w) all w.table total empty;
      exact = λ g. exact-are l defs all h is_all w.count w.firsts needs order is_count from are ordered;
    }
    by false e h = record {
      numbered = subst (λ f. AreNumbered l f w.count w.firsts all) (sym (blank-alg l w e)) (blank-are l defs all h is_all w.count w.firsts is_count from);
      weighed = none-weighed (source_for l) (alg_by l w) all w.table total empty;
      exact = λ g. absurd (false-true e g);
    }
