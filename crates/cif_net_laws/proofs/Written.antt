-- What stands in a net in which algebraic variables are replaced: its expressions, edges and updates, each replaced.
use Rattle.std.proofs.Common.{◌≡◌, ℕ, zero, suc, ◌+◌, List, [], ◌∷◌, ◌++◌, map, Option, Some, None, option_map, slice_get, refl, sym, ◌∙◌, ap}
use Rattle.std.specs.Prelude.{flat_map, filter_map, zip, option_to_list}
use Rattle.std.specs.List.{cons_option, enumerate_from}
use mathlib.Core.List.{map-append}
use Rattle.cif_system.specs.Step.{Choice}
use Rattle.cif_net_expr.specs.Tree.{NetExpr, NetUpdate, net_set, net_choose, NetUpdates, no_net_updates, net_updates, NetUpdateBranches, no_net_update_branches, net_update_branches}
use Rattle.cif_net_model.specs.Net.{NetEdge, NetAuto, NetAlg, NetExclusion, NetInvariant, Net}
use Rattle.cif_net_model.specs.Interval.{truths}
use Rattle.cif_net_model.specs.Exprs.{updates_exprs, update_exprs, branches_exprs, Written, writes_all, writes_by, writes_in, targets, edge_exprs, alg_exprs, all_edges, other_exprs, all_exprs}
use Rattle.cif_net_model.specs.Facts.{channel_of}
use Rattle.cif_net_model.specs.Inline.{replaced, updates_replaced, update_replaced, update_branches_replaced, edge_replaced, auto_replaced, alg_replaced, net_replaced}
use Rattle.cif_net_model.specs.Listing.{move_if, moves_of, edge_at, edges_taken}
use Rattle.cif_net_model.specs.Counts.{invariant_exprs}
use Rattle.cif_net_model.specs.Rules.{Evaluated, edge_evaluated, evaluated}
use Rattle.cif_net_model.specs.Shown.{channel_range}
use Rattle.cif_net_model.proofs.ValueLaws.{ap-two}
use Rattle.cif_net_laws.proofs.Lists.{map-map}
use Rattle.cif_net_laws.proofs.Solved.{alg-cases}

append-map : {A B : Type 0} (f : A → B) (xs ys : List A) (vs ws : List B) → vs ≡ map f xs → ws ≡ map f ys → vs ++ ws ≡ map f (xs ++ ys)
append-map f xs ys vs ws p q = ap-two (λ x y. x ++ y) p q ∙ sym (map-append f xs ys)

flat_map-after : {A B C D : Type 0} (h : A → B) (f : B → List C) (g : D → C) (k : A → List D) → ((x : A) → f (h x) ≡ map g (k x)) → (xs : List A) → flat_map f (map h xs) ≡ map g (flat_map k xs)
flat_map-after h f g k e [] = refl
flat_map-after h f g k e (x ∷ xs) = append-map g (k x) (flat_map k xs) (f (h x)) (flat_map f (map h xs)) (e x) (flat_map-after h f g k e xs)

module _ (by : ℕ → NetExpr) where
  -- ---- updates

  mutual
    updates-written : (us : NetUpdates) → updates_exprs (updates_replaced by us) ≡ map (replaced by) (updates_exprs us)
    updates-written no_net_updates = refl
    updates-written (net_updates u us) = append-map (replaced by) (update_exprs u) (updates_exprs us) _ _ (update-written u) (updates-written us)

    update-written : (u : NetUpdate) → update_exprs (update_replaced by u) ≡ map (replaced by) (update_exprs u)
    update-written (net_set v e) = refl
    update-written (net_choose bs us) = append-map (replaced by) (branches_exprs bs) (updates_exprs us) _ _ (branches-written bs) (updates-written us)

    branches-written : (bs : NetUpdateBranches) → branches_exprs (update_branches_replaced by bs) ≡ map (replaced by) (branches_exprs bs)
    branches-written no_net_update_branches = refl
    branches-written (net_update_branches c us bs) = ap (λ es. replaced by c ∷ es) (append-map (replaced by) (updates_exprs us) (branches_exprs bs) _ _ (updates-written us) (branches-written bs))

  abbrev pub written_replaced : Written → Written
  written_replaced w = record { var = w.var; value = replaced by w.value }

  mutual
    pub writes-replaced : (us : NetUpdates) → writes_all (updates_replaced by us) ≡ map written_replaced (writes_all us)
    writes-replaced no_net_updates = refl
    writes-replaced (net_updates u us) = append-map written_replaced (writes_by u) (writes_all us) _ _ (write-replaced u) (writes-replaced us)

    write-replaced : (u : NetUpdate) → writes_by (update_replaced by u) ≡ map written_replaced (writes_by u)
    write-replaced (net_set v e) = refl
    write-replaced (net_choose bs us) = append-map written_replaced (writes_in bs) (writes_all us) _ _ (branch-writes-replaced bs) (writes-replaced us)

    branch-writes-replaced : (bs : NetUpdateBranches) → writes_in (update_branches_replaced by bs) ≡ map written_replaced (writes_in bs)
    branch-writes-replaced no_net_update_branches = refl
    branch-writes-replaced (net_update_branches c us bs) = append-map written_replaced (writes_all us) (writes_in bs) _ _ (writes-replaced us) (branch-writes-replaced bs)

  pub targets-same : (us : NetUpdates) → targets (updates_replaced by us) ≡ targets us
  targets-same us = ap (map (λ (w : Written). w.var)) (writes-replaced us) ∙ map-map written_replaced (λ (w : Written). w.var) (writes_all us)

  -- ---- edges and definitions

  sent-written : (o : Option NetExpr) → option_to_list (option_map (replaced by) o) ≡ map (replaced by) (option_to_list o)
  sent-written None = refl
  sent-written (Some e) = refl

  pub edge-written : (x : NetEdge) → edge_exprs (edge_replaced by x) ≡ map (replaced by) (edge_exprs x)
  edge-written x = ap (λ es. replaced by x.guard ∷ es) (append-map (replaced by) (option_to_list x.sent) (updates_exprs x.updates) _ _ (sent-written x.sent) (updates-written x.updates))

  alg-written : (a : NetAlg) → alg_exprs (alg_replaced by a) ≡ map (replaced by) (alg_exprs a)
  alg-written = alg-cases (λ a. alg_exprs (alg_replaced by a) ≡ map (replaced by) (alg_exprs a)) (λ a e. refl) (λ a k es. refl)

  -- ---- the net

  module _ (n : Net) where
    pub edges-written : all_edges (net_replaced by n) ≡ map (edge_replaced by) (all_edges n)
    edges-written = flat_map-after (auto_replaced by) (λ (a : NetAuto). a.edges) (edge_replaced by) (λ (a : NetAuto). a.edges) (λ a. refl) n.autos

    pub exclusions-written : map (λ (x : NetExclusion). x.pred) (net_replaced by n).exclusions ≡ map (replaced by) (map (λ (x : NetExclusion). x.pred) n.exclusions)
    exclusions-written = map-map (λ (x : NetExclusion). record x { pred = replaced by x.pred }) (λ (x : NetExclusion). x.pred) n.exclusions ∙ sym (map-map (λ (x : NetExclusion). x.pred) (replaced by) n.exclusions)

    pub invariants-written : invariant_exprs (net_replaced by n) ≡ map (replaced by) (invariant_exprs n)
    invariants-written = map-map (λ (i : NetInvariant). record i { pred = replaced by i.pred }) (λ (i : NetInvariant). i.pred) n.invariants ∙ sym (map-map (λ (i : NetInvariant). i.pred) (replaced by) n.invariants)

    others-written : other_exprs (net_replaced by n) ≡ map (replaced by) (other_exprs n)
    others-written =
        append-map (replaced by) (map (λ (x : NetExclusion). x.pred) n.exclusions) (map (λ (i : NetInvariant). i.pred) n.invariants ++ flat_map alg_exprs n.algs) _ _ exclusions-written
        (append-map (replaced by) (map (λ (i : NetInvariant). i.pred) n.invariants) (flat_map alg_exprs n.algs) _ _ invariants-written
        (flat_map-after (alg_replaced by) alg_exprs (replaced by) alg_exprs alg-written n.algs))

    pub all-written : all_exprs (net_replaced by n) ≡ map (replaced by) (all_exprs n)
    all-written =
        append-map (replaced by) (flat_map edge_exprs (all_edges n)) (other_exprs n) _ _
        (ap (flat_map edge_exprs) edges-written ∙ flat_map-after (edge_replaced by) edge_exprs (replaced by) edge_exprs edge-written (all_edges n))
        others-written

    abbrev pub evaluated_replaced : Evaluated → Evaluated
    evaluated_replaced x = record { value = replaced by x.value; received = x.received }

    edge-evaluated : (x : NetEdge) → edge_evaluated (net_replaced by n) (edge_replaced by x) ≡ map evaluated_replaced (edge_evaluated n x)
    edge-evaluated x =
        ap (map (λ e. record { value = e; received = channel_range (channel_of n x.event) })) (edge-written x)
        ∙ map-map (replaced by) (λ e. record { value = e; received = channel_range (channel_of n x.event) }) (edge_exprs x)
        ∙ sym (map-map (λ e. record { value = e; received = channel_range (channel_of n x.event) }) evaluated_replaced (edge_exprs x))

    pub evaluated-written : evaluated (net_replaced by n) ≡ map evaluated_replaced (evaluated n)
    evaluated-written =
        append-map evaluated_replaced (flat_map (edge_evaluated n) (all_edges n)) (map (λ e. record { value = e; received = truths }) (other_exprs n)) _ _
        (ap (flat_map (edge_evaluated (net_replaced by n))) edges-written ∙ flat_map-after (edge_replaced by) (edge_evaluated (net_replaced by n)) evaluated_replaced (edge_evaluated n) edge-evaluated (all_edges n))
        (ap (map (λ e. record { value = e; received = truths })) others-written
        ∙ map-map (replaced by) (λ e. record { value = e; received = truths }) (other_exprs n)
        ∙ sym (map-map (λ e. record { value = e; received = truths }) evaluated_replaced (other_exprs n)))

    -- ---- a choice

    one-taken : (xs : List NetEdge) (y : ℕ) (vs : List NetEdge) (ws : List NetEdge) → vs ≡ map (edge_replaced by) ws → cons_option (slice_get (map (edge_replaced by) xs) y) vs ≡ map (edge_replaced by) (cons_option (slice_get xs y) ws)
    one-taken [] y vs ws h = h
    one-taken (x ∷ xs) zero vs ws h = ap (λ zs. edge_replaced by x ∷ zs) h
    one-taken (x ∷ xs) (suc y) vs ws h = one-taken xs y vs ws h

    taken : (ds : List NetAuto) (ch : Choice) → filter_map edge_at (zip (map (auto_replaced by) ds) ch) ≡ map (edge_replaced by) (filter_map edge_at (zip ds ch))
    taken [] ch = refl
    taken (a ∷ ds) [] = refl
    taken (a ∷ ds) (None ∷ ch) = taken ds ch
    taken (a ∷ ds) (Some y ∷ ch) = one-taken a.edges y _ _ (taken ds ch)

    pub taken-replaced : (ch : Choice) → flat_map edge_exprs (edges_taken (net_replaced by n) ch) ≡ map (replaced by) (flat_map edge_exprs (edges_taken n ch))
    taken-replaced ch = ap (flat_map edge_exprs) (taken n.autos ch) ∙ flat_map-after (edge_replaced by) edge_exprs (replaced by) edge_exprs edge-written (edges_taken n ch)

    moves : (e k : ℕ) (ds : List NetAuto) (ch : Choice) → filter_map (move_if e) (zip (enumerate_from k (map (auto_replaced by) ds)) ch) ≡ filter_map (move_if e) (zip (enumerate_from k ds) ch)
    moves e k [] ch = refl
    moves e k (a ∷ ds) [] = refl
    moves e k (a ∷ ds) (None ∷ ch) = ap (cons_option (move_if e ((k, a), None))) (moves e (k + 1) ds ch)
    moves e k (a ∷ ds) (Some y ∷ ch) = ap (cons_option (move_if e ((k, a), Some y))) (moves e (k + 1) ds ch)

    pub moves-same : (e : ℕ) (ch : Choice) → moves_of (net_replaced by n) e ch ≡ moves_of n e ch
    moves-same e ch = moves e 0 n.autos ch
