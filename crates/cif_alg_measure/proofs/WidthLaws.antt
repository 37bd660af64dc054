-- The answers for all expressions that a net evaluates, one after the other, are the answer for their list; and what that says.
use Rattle.std.proofs.Common.{◌≡◌, true, List, [], ◌∷◌, ◌++◌, map, Option, Some, None, Result, Ok, Err, inl, inr, refl, sym, ◌∙◌, ap, subst, IfOk, IfErr}
use Rattle.std.specs.Prelude.{flat_map, option_to_list}
use Rattle.std.specs.List.{list_all}
use Rattle.std.proofs.lemmas.Grind.{flat_map-append}
use Rattle.cif_base.specs.Bounds.{Bounds}
use Rattle.cif_system.specs.System.{Range}
use Rattle.cif_net_expr.specs.Tree.{NetExpr, NetUpdate, net_set, net_choose, NetUpdates, no_net_updates, net_updates, NetUpdateBranches, no_net_update_branches, net_update_branches}
use Rattle.cif_net_model.specs.Net.{NetEdge, NetAuto, AlgValue, one_value, by_loc, NetAlg, NetExclusion, NetInvariant, Net}
use Rattle.cif_net_model.specs.Interval.{as_range, truths, Ranges, range_of}
use Rattle.cif_net_model.specs.Exprs.{updates_exprs, update_exprs, branches_exprs, edge_exprs, alg_exprs, all_edges, other_exprs}
use Rattle.cif_net_model.specs.Facts.{channel_of, is_net}
use Rattle.cif_net_model.specs.Parts.{parts}
use Rattle.cif_net_model.specs.Rules.{Evaluated, edge_evaluated, evaluated}
use Rattle.cif_net_model.specs.Shown.{channel_range}
use Rattle.cif_net_model.proofs.ValueLaws.{ap-two}
use Rattle.cif_alg_measure.specs.declared.error.WidthErr.{WidthErr}
use Rattle.cif_alg_measure.specs.Checked.{◌>>=◌, checked}
use Rattle.cif_alg_measure.specs.TypeBounds.{received_bounds}
use Rattle.cif_alg_measure.specs.Widths.{with_received, evaluated_divides, evaluated_is_narrow, SomeFault, checked_exprs, checked_updates, checked_update, checked_branches, checked_sent, checked_edge, checked_edges, checked_autos, checked_exclusions, checked_invariants, checked_algs, checked_others, checked_net}
use Rattle.cif_alg_measure.proofs.Says.{and-both, Says, Is}
use Rattle.cif_alg_measure.proofs.CheckedLaws.{checked-says, has-fault}
use Rattle.cif_alg_measure.proofs.TypeLaws.{received-is}

-- ---- one answer after another

abbrev Answer : Type 0
Answer = Result (Unit {0}) WidthErr

after : {A : Type 0} (r : Result A WidthErr) (s t : Answer) → ((r >>= λ a. s) >>= λ b. t) ≡ (r >>= λ a. (s >>= λ b. t))
after (Ok a) s t = refl
after (Err x) s t = refl

next : {A : Type 0} (r : Result A WidthErr) {s t : Answer} → s ≡ t → (r >>= λ a. s) ≡ (r >>= λ a. t)
next r h = ap (λ s. r >>= λ a. s) h

two : {r s t u : Answer} → r ≡ s → t ≡ u → (r >>= λ d. t) ≡ (s >>= λ d. u)
two h k = ap-two (λ r t. r >>= λ d. t) h k

-- ---- lists of expressions

module _ (h : Ranges) where
  exprs-append : (xs ys : List NetExpr) → checked_exprs h (xs ++ ys) ≡ (checked_exprs h xs >>= λ d. checked_exprs h ys)
  exprs-append [] ys = refl
  exprs-append (x ∷ xs) ys = next (checked h x) (exprs-append xs ys) ∙ sym (after (checked h x) (checked_exprs h xs) (checked_exprs h ys))

  mutual
    updates-are : (us : NetUpdates) → checked_updates h us ≡ checked_exprs h (updates_exprs us)
    updates-are no_net_updates = refl
    updates-are (net_updates u us) = two (update-is u) (updates-are us) ∙ sym (exprs-append (update_exprs u) (updates_exprs us))

    update-is : (u : NetUpdate) → checked_update h u ≡ checked_exprs h (update_exprs u)
    update-is (net_set v e) = refl
    update-is (net_choose bs us) = two (branches-are bs) (updates-are us) ∙ sym (exprs-append (branches_exprs bs) (updates_exprs us))

    branches-are : (bs : NetUpdateBranches) → checked_branches h bs ≡ checked_exprs h (branches_exprs bs)
    branches-are no_net_update_branches = refl
    branches-are (net_update_branches c us bs) = next (checked h c) (two (updates-are us) (branches-are bs) ∙ sym (exprs-append (updates_exprs us) (branches_exprs bs)))

  sent-is : (o : Option NetExpr) → checked_sent h o ≡ checked_exprs h (option_to_list o)
  sent-is None = refl
  sent-is (Some e) = refl

  edge-is : (x : NetEdge) → checked_edge h x ≡ checked_exprs h (edge_exprs x)
  edge-is x = next (checked h x.guard) (two (sent-is x.sent) (updates-are x.updates) ∙ sym (exprs-append (option_to_list x.sent) (updates_exprs x.updates)))

  exclusions-are : (xs : List NetExclusion) → checked_exclusions h xs ≡ checked_exprs h (map (λ (x : NetExclusion). x.pred) xs)
  exclusions-are [] = refl
  exclusions-are (x ∷ xs) = next (checked h x.pred) (exclusions-are xs)

  invariants-are : (xs : List NetInvariant) → checked_invariants h xs ≡ checked_exprs h (map (λ (i : NetInvariant). i.pred) xs)
  invariants-are [] = refl
  invariants-are (x ∷ xs) = next (checked h x.pred) (invariants-are xs)

  value-is : (v : AlgValue) → elim v [ one_value e ↦ checked h e >>= λ b. Ok tt | by_loc k es ↦ checked_exprs h es ] ≡ checked_exprs h (elim v [ one_value e ↦ e ∷ [] | by_loc k es ↦ es ])
  value-is (one_value e) = refl
  value-is (by_loc k es) = refl

  algs-are : (xs : List NetAlg) → checked_algs h xs ≡ checked_exprs h (flat_map alg_exprs xs)
  algs-are [] = refl
  algs-are (a ∷ xs) = two (value-is a.value) (algs-are xs) ∙ sym (exprs-append (alg_exprs a) (flat_map alg_exprs xs))

  others-are : (n : Net) → checked_others h n ≡ checked_exprs h (other_exprs n)
  others-are n =
      two (exclusions-are n.exclusions) (two (invariants-are n.invariants) (algs-are n.algs) ∙ sym (exprs-append (map (λ (i : NetInvariant). i.pred) n.invariants) (flat_map alg_exprs n.algs)))
      ∙ sym (exprs-append (map (λ (x : NetExclusion). x.pred) n.exclusions) (map (λ (i : NetInvariant). i.pred) n.invariants ++ flat_map alg_exprs n.algs))

-- ---- all that is evaluated

module _ (g : Ranges) where
  abbrev each : List Evaluated → Answer
  each [] = Ok tt
  each (x ∷ xs) = checked (with_received g x.received) x.value >>= λ a. each xs

  each-append : (xs ys : List Evaluated) → each (xs ++ ys) ≡ (each xs >>= λ d. each ys)
  each-append [] ys = refl
  each-append (x ∷ xs) ys = next (checked (with_received g x.received) x.value) (each-append xs ys) ∙ sym (after (checked (with_received g x.received) x.value) (each xs) (each ys))

  exprs-each : (r : Range) (es : List NetExpr) → checked_exprs (with_received g r) es ≡ each (map (λ e. record { value = e; received = r }) es)
  exprs-each r [] = refl
  exprs-each r (e ∷ es) = next (checked (with_received g r) e) (exprs-each r es)

  module _ (n : Net) (net : is_net n ≡ true) where
    edge-each : (x : NetEdge) → checked_edge (with_received g (as_range (received_bounds n.events x))) x ≡ each (edge_evaluated n x)
    edge-each x =
        ap (λ r. checked_edge (with_received g r) x) (received-is n net x)
        ∙ edge-is (with_received g (channel_range (channel_of n x.event))) x
        ∙ exprs-each (channel_range (channel_of n x.event)) (edge_exprs x)

    edges-each : (xs : List NetEdge) → checked_edges g n.events xs ≡ each (flat_map (edge_evaluated n) xs)
    edges-each [] = refl
    edges-each (x ∷ xs) = two (edge-each x) (edges-each xs) ∙ sym (each-append (edge_evaluated n x) (flat_map (edge_evaluated n) xs))

    autos-each : (xs : List NetAuto) → checked_autos g n.events xs ≡ each (flat_map (edge_evaluated n) (flat_map (λ (a : NetAuto). a.edges) xs))
    autos-each [] = refl
    autos-each (a ∷ xs) =
        two (edges-each a.edges) (autos-each xs)
        ∙ sym (each-append (flat_map (edge_evaluated n) a.edges) (flat_map (edge_evaluated n) (flat_map (λ (b : NetAuto). b.edges) xs)))
        ∙ ap each (sym (flat_map-append (edge_evaluated n) a.edges (flat_map (λ (b : NetAuto). b.edges) xs)))

    net-each : checked_net g n ≡ each (evaluated n)
    net-each =
        two (autos-each n.autos) (others-are (with_received g truths) n ∙ exprs-each truths (other_exprs n))
        ∙ sym (each-append (flat_map (edge_evaluated n) (all_edges n)) (map (λ e. record { value = e; received = truths }) (other_exprs n)))

  -- ---- what the answer says

  abbrev Tells : List Evaluated → Answer → Type 0
  Tells xs (Ok d) = (list_all (evaluated_divides g) xs ≡ true) × (list_all (evaluated_is_narrow g) xs ≡ true)
  Tells xs (Err e) = SomeFault g xs e

  more-tells : (x : Evaluated) (xs : List Evaluated) (r : Result Bounds WidthErr) (s : Answer)
      → Says (with_received g x.received) (parts x.value) (Is (range_of (with_received g x.received) x.value)) r → Tells xs s → Tells (x ∷ xs) (r >>= λ a. s)
  more-tells x xs (Ok a) (Ok d) h t = (and-both _ _ h.1.0 t.0, and-both _ _ h.1.1 t.1)
  more-tells x xs (Ok a) (Err e) h t = (t.0, inr t.1, t.2)
  more-tells x xs (Err e) s h t = (x, inl refl, has-fault (with_received g x.received) x.value e h)

  each-tells : (xs : List Evaluated) → Tells xs (each xs)
  each-tells [] = (refl, refl)
  each-tells (x ∷ xs) = more-tells x xs (checked (with_received g x.received) x.value) (each xs) (checked-says (with_received g x.received) x.value) (each-tells xs)

  module _ (n : Net) (net : is_net n ≡ true) where
    told : (r : Answer) → r ≡ checked_net g n → Tells (evaluated n) r
    told r h = subst (Tells (evaluated n)) (sym (h ∙ net-each n net)) (each-tells (evaluated n))

    pub all-divide : (r : Answer) → r ≡ checked_net g n → IfOk r (λ d. list_all (evaluated_divides g) (evaluated n) ≡ true)
    all-divide (Ok d) h = (told (Ok d) h).0
    all-divide (Err e) h = tt

    pub all-narrow : (r : Answer) → r ≡ checked_net g n → IfOk r (λ d. list_all (evaluated_is_narrow g) (evaluated n) ≡ true)
    all-narrow (Ok d) h = (told (Ok d) h).1
    all-narrow (Err e) h = tt

    pub some-fault : (r : Answer) → r ≡ checked_net g n → IfErr r (SomeFault g (evaluated n))
    some-fault (Ok d) h = tt
    some-fault (Err e) h = told (Err e) h
