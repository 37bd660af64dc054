-- What is counted are the nodes of the net.
use Rattle.std.proofs.Common.{◌≡◌, ℕ, ◌+◌, ◌*◌, Bool, true, false, ◌&&◌, nat_eq, List, [], ◌∷◌, ◌++◌, map, length, sum_by, refl, sym, ◌∙◌, ap, length-append, if◌then◌else◌, arith}
use Rattle.std.specs.List.{list_all, list_any, range_with_len}
use Rattle.std.proofs.lemmas.List.{map-append}
use Rattle.std.proofs.lemmas.List.Sums.{sum_by-cons, sum_by-append}
use Rattle.cif_system.specs.System.{Role, syncing, sending, receiving}
use Rattle.cif_system.specs.Choices.{product_by}
use Rattle.cif_system.proofs.Lists.{map-length}
use Rattle.cif_net_expr.specs.Tree.{NetExpr}
use Rattle.cif_net_model.specs.Net as n
use Rattle.cif_net_model.specs.Meaning.{event_in}
use Rattle.cif_net_model.specs.Exprs.{edge_exprs}
use Rattle.cif_net_model.specs.Listing.{syncs_on}
use Rattle.cif_net_model.specs.Facts.{auto_stands, is_net}
use Rattle.cif_net_model.specs.Counts.{no_form, measure, alg_measures, size_of, exclusions_of, invariant_exprs, event_nodes, nodes, weight, stopped, most_nodes}
use Rattle.cif_net_model.proofs.Passing.{and-left, and-right}
use Rattle.cif_alg_measure.specs.declared.measures.Measure.{Measure}
use Rattle.cif_alg_measure.specs.Meanings.{stopped_measure, table_measure, stopped_table}
use Rattle.cif_alg_measure.specs.Sizes.{sizes_by, AreMeasured, exprs_counted}
use Rattle.cif_alg_measure.proofs.SizeLaws.{size-told, size-of_net}
use Rattle.cif_alg.specs.Weighed.{cut}
use Rattle.cif_alg.specs.Sizes.{sizes_added}
use Rattle.cif_alg.specs.Tallies.{edge_nodes, exclusion_nodes, invariants_nodes, counted}
use Rattle.cif_alg.proofs.AddedLaws.{all-added}
use Rattle.cif_alg.proofs.SumLaws.{sum-same, sum-mapped, spread, spread-weighed}
use Rattle.cif_alg.proofs.TallyLaws.{exclusions_for}
use Rattle.cif_alg.proofs.AutoLaws.{factor, addend, rows, rows_nodes, role_edges, is_channel_there, besides, event_total, counted_are}
use Rattle.cif_alg.proofs.NodeLaws.{edge_weight, own_edges, stays, own_weights, base, plain-nodes, channel-nodes, own-weighed, role-weighed}
use Rattle.cif_alg.proofs.ChannelLaws.{all_weights, pair-total}
use Rattle.cif_alg.proofs.RoleLaws.{channel-told, parties, one-roles}

-- what the predicate of an exclusion weighs
abbrev exclusion_weight : n.Net → n.NetExclusion → ℕ
exclusion_weight x y = (measure x y.pred).size

module _ (x : n.Net) (e : ℕ) where
  -- ---- one automaton

  same-factor : (a : n.NetAuto) → length (own_weights x e a) ≡ factor e a
  same-factor a = ap length (own-weighed x e a) ∙ by (syncs_on e a) (list_any (nat_eq e) a.monitors)
    where
      ws : List ℕ
      ws = map (edge_weight x) (own_edges syncing e a.edges)

      by : (b s : Bool) → length (if b then ws ++ stays (b && s) else 0 ∷ []) ≡ (if b then length (own_edges syncing e a.edges) + (if s then 1 else 0) else 1)
      by true true = omega (arith, length-append ws (1 ∷ []), map-length (edge_weight x) (own_edges syncing e a.edges))
      by true false = omega (arith, length-append ws [], map-length (edge_weight x) (own_edges syncing e a.edges))
      by false s = refl

  abbrev added : n.NetAuto → ℕ
  added a = addend (edge_weight x) (exclusion_weight x) e a

  same-addend : (a : n.NetAuto) → sum_by (λ w. w) (own_weights x e a) ≡ added a
  same-addend a = ap (sum_by (λ w. w)) (own-weighed x e a) ∙ by (syncs_on e a) (list_any (nat_eq e) a.monitors)
    where
      xs : List n.NetEdge
      xs = own_edges syncing e a.edges

      by : (b s : Bool) → sum_by (λ w. w) (if b then map (edge_weight x) xs ++ stays (b && s) else 0 ∷ []) ≡ (if b then sum_by (edge_weight x) xs + (if s then 1 else 0) else 0)
      by true true = omega (arith, sum_by-append (λ w. w) (map (edge_weight x) xs) (1 ∷ []), sum-mapped (λ w. w) (edge_weight x) xs, sum_by-cons (λ (w : ℕ). w) 1 [])
      by true false = omega (arith, sum_by-append (λ w. w) (map (edge_weight x) xs) [], sum-mapped (λ w. w) (edge_weight x) xs)
      by false s = refl

  -- ---- all automata

  same-rows : (autos : List n.NetAuto) → product_by length (map (own_weights x e) autos) ≡ rows e autos
  same-rows [] = refl
  same-rows (a ∷ autos) = ap (λ k. k * product_by length (map (own_weights x e) autos)) (same-factor a) ∙ ap (λ k. factor e a * k) (same-rows autos)

  abbrev rows_weight : List n.NetAuto → ℕ
  rows_weight autos = rows_nodes (edge_weight x) (exclusion_weight x) e autos

  same-nodes : (autos : List n.NetAuto) → weight (λ w. w) (map (own_weights x e) autos) ≡ rows_weight autos
  same-nodes [] = refl
  same-nodes (a ∷ autos) = λ i. same-addend a i * same-rows autos i + same-factor a i * same-nodes autos i

  -- the edges of all automata in a role
  same-edges : (p : Role) (autos : List n.NetAuto) → all_weights x e p autos ≡ map (edge_weight x) (role_edges p e autos)
  same-edges p [] = refl
  same-edges p (a ∷ autos) =
      ap (λ ws. ws ++ all_weights x e p autos) (role-weighed x e p a)
      ∙ ap (λ ws. map (edge_weight x) (own_edges p e a.edges) ++ ws) (same-edges p autos)
      ∙ sym (map-append (edge_weight x) (own_edges p e a.edges) (role_edges p e autos))

  edges-counted : (p : Role) (autos : List n.NetAuto) → length (all_weights x e p autos) ≡ length (role_edges p e autos)
  edges-counted p autos = ap length (same-edges p autos) ∙ map-length (edge_weight x) (role_edges p e autos)

  edges-weighed : (p : Role) (autos : List n.NetAuto) → sum_by (λ w. w) (all_weights x e p autos) ≡ sum_by (edge_weight x) (role_edges p e autos)
  edges-weighed p autos = ap (sum_by (λ w. w)) (same-edges p autos) ∙ sum-mapped (λ w. w) (edge_weight x) (role_edges p e autos)

module _ (x : n.Net) (ms : List Measure) (measured : AreMeasured ms x) (stands : is_net x ≡ true) where
  -- all state invariants
  abbrev invariants_weight : ℕ
  invariants_weight = size_of x (invariant_exprs x)

  abbrev beside_sum : ℕ → ℕ
  beside_sum e = besides (edge_weight x) (exclusion_weight x) invariants_weight x.exclusions e

  abbrev total : Bool → ℕ → ℕ
  total c e = event_total (edge_weight x) (exclusion_weight x) invariants_weight x.autos x.exclusions c e

  autos-stand : list_all (auto_stands x) x.autos ≡ true
  autos-stand = and-right _ _ (and-left _ _ (and-left _ _ (and-left _ _ (and-left _ _ stands))))

  -- ---- one event

  base-is : (e : ℕ) → base x e ≡ 1 + beside_sum e
  base-is e =
      let s : size_of x (exclusions_of x e) ≡ sum_by (exclusion_weight x) (exclusions_for e x.exclusions) = sum-mapped (λ g. (measure x g).size) (λ (y : n.NetExclusion). y.pred) (exclusions_for e x.exclusions) in
      omega (arith, s)

  plain-is : (e : ℕ) → is_channel_there x.events e ≡ false → event_nodes x e ≡ total false e
  plain-is e h =
      plain-nodes x e (channel-told x.events e ∙ h)
      ∙ ap (λ (b : Bool). let k : ℕ = if b then spread (base x e) (map (own_weights x e) x.autos) else 0 in k) (parties x e x.autos autos-stand h)
      ∙ by (list_any (syncs_on e) x.autos)
    where
      by : (b : Bool) → (if b then spread (base x e) (map (own_weights x e) x.autos) else 0) ≡ (if b then rows e x.autos * (1 + beside_sum e) + rows_weight x e x.autos else 0)
      by true = spread-weighed (map (own_weights x e) x.autos) (base x e) ∙ λ i. same-rows x e x.autos i * base-is e i + same-nodes x e x.autos i
      by false = refl

  channel-is : (e : ℕ) → is_channel_there x.events e ≡ true → event_nodes x e ≡ total true e
  channel-is e h =
      channel-nodes x e (channel-told x.events e ∙ h)
      ∙ pair-total x e x.autos (one-roles x e x.autos autos-stand) 0 (base x e)
      ∙ spread-weighed (all_weights x e sending x.autos ∷ all_weights x e receiving x.autos ∷ map (own_weights x e) x.autos) (base x e)
      ∙ λ i. edges-counted x e sending x.autos i * (edges-counted x e receiving x.autos i * same-rows x e x.autos i) * base-is e i
      + (edges-weighed x e sending x.autos i * (edges-counted x e receiving x.autos i * same-rows x e x.autos i)
      + edges-counted x e sending x.autos i * (edges-weighed x e receiving x.autos i * same-rows x e x.autos i + edges-counted x e receiving x.autos i * same-nodes x e x.autos i))

  event-is : (e : ℕ) → event_nodes x e ≡ total (is_channel_there x.events e) e
  event-is e =
      (elim (is_channel_there x.events e) as (λ b. is_channel_there x.events e ≡ b → event_nodes x e ≡ total b e) [
        | true ↦ λ h. channel-is e h
        | false ↦ λ h. plain-is e h
      ]) refl

  -- ---- all events

  abbrev all_total : ℕ → ℕ
  all_total e = total (is_channel_there x.events e) e

  -- the nodes of the choices
  abbrev choices_nodes : ℕ
  choices_nodes = sum_by (event_nodes x) (range_with_len 0 (length (map event_in x.events)))

  choices-are : choices_nodes ≡ sum_by all_total (range_with_len 0 (length x.events))
  choices-are =
      let all : List ℕ = range_with_len 0 (length x.events) in
      ap (λ m. sum_by (event_nodes x) (range_with_len 0 m)) (map-length event_in x.events) ∙ sum-same (event_nodes x) all_total event-is all

  -- ---- sizes

  same-sizes : (es : List NetExpr) → cut (sizes_by (table_measure ms) es) ≡ cut (size_of x es)
  same-sizes es =
      let m : Measure = exprs_counted (stopped_table ms) (stopped_measure no_form) es in
      sym (size-told ms es m refl) ∙ size-of_net ms es m refl x measured

  edge-weighs : (y : n.NetEdge) → edge_nodes (table_measure ms) y ≡ cut (edge_weight x y)
  unfolding edge_nodes
  edge-weighs y = omega (arith, same-sizes (edge_exprs y))

  exclusion-weighs : (y : n.NetExclusion) → exclusion_nodes (table_measure ms) y ≡ cut (exclusion_weight x y)
  unfolding exclusion_nodes
  exclusion-weighs y = omega (arith, same-sizes (y.pred ∷ []), sum_by-cons (λ g. (measure x g).size) y.pred [])

  invariants-weigh : invariants_nodes (table_measure ms) x.invariants ≡ cut invariants_weight
  unfolding invariants_nodes
  invariants-weigh = same-sizes (invariant_exprs x)

  choices-told : counted (table_measure ms) x.autos x.exclusions x.invariants x.events ≡ cut choices_nodes
  choices-told =
      counted_are (edge_weight x) (exclusion_weight x) (table_measure ms) edge-weighs exclusion-weighs invariants_weight x.autos x.exclusions x.invariants x.events invariants-weigh
      ∙ ap cut (sym choices-are)

  pub told : sizes_added (counted (table_measure ms) x.autos x.exclusions x.invariants x.events) ms ≡ stopped most_nodes (nodes x)
  told = ap (λ k. sizes_added k ms) choices-told ∙ all-added choices_nodes ms (alg_measures x) measured
