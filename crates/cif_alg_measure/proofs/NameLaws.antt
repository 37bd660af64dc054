-- In a net without algebraic variables no expression names one.
use Rattle.std.proofs.Common.{◌≡◌, ℕ, Bool, true, false, ◌&&◌, ◌||◌, List, [], ◌∷◌, ◌++◌, map, slice_get, Option, Some, None, inl, inr, refl, sym, ◌∙◌, ap, subst, if◌then◌else◌}
use Rattle.std.specs.Prelude.{flat_map, option_to_list}
use Rattle.std.specs.List.{list_all, list_any}
use Rattle.cif_base.specs.declared.types.Ty.{Ty}
use Rattle.cif_system.specs.System.{Role, syncing, sending, receiving}
use Rattle.cif_system.specs.Words.{Member}
use Rattle.cif_system.proofs.Distinct.{member-append, member-map, member-flat_map}
use Rattle.cif_net_expr.specs.Tree.{NetExpr, net_expr, NetForm, n_truth, n_number, n_loc, n_var, n_input, n_alg, n_received, n_minus, n_plus, n_not, n_abs, n_min, n_max, n_sum, n_product, n_compare, n_and, n_or, n_implies, n_iff, n_if, NetExprs, no_net_exprs, net_exprs, NetTerms, no_net_terms, net_terms, NetFactors, no_net_factors, net_factors, NetBranches, no_net_branches, net_branches, NetUpdate, net_set, net_choose, NetUpdates, no_net_updates, net_updates, NetUpdateBranches, no_net_update_branches, net_update_branches}
use Rattle.cif_net_model.specs.Net.{NetChan, no_net_chan, void_net_chan, net_chan_of, NetEdge, NetAuto, NetExclusion, NetInvariant, Net}
use Rattle.cif_net_model.specs.Interval.{truths}
use Rattle.cif_net_model.specs.Exprs.{updates_exprs, update_exprs, branches_exprs, edge_exprs, alg_exprs, all_edges, other_exprs}
use Rattle.cif_net_model.specs.Kinds.{Kind, bool_kind, int_kind, is_equality, has_type, alg_fits, kinds_in, fits, form_fits, terms_fit, factors_fit, all_fit, branches_fit, fits_type}
use Rattle.cif_net_model.specs.Facts.{channel_of, received_type, assigns_kind, var_kind, updates_stand, update_stands, branches_stand, role_stands, edge_stands, auto_stands, exclusion_stands, invariant_stands, is_net}
use Rattle.cif_net_model.specs.Reads.{Read, alg_passes, names_in, form_names, term_names, factor_names, list_names, branch_names, names_no_alg}
use Rattle.cif_net_model.specs.Rules.{Evaluated, edge_evaluated, evaluated}
use Rattle.cif_net_model.specs.Shown.{channel_range}
use Rattle.cif_net_model.proofs.Passing.{and-left, and-right, all-member}
use Rattle.cif_net_model.proofs.PlainLaws.{never}
use Rattle.cif_alg_measure.proofs.Says.{and-both, pass-both}

some-any : {A : Type 0} (p : A → Bool) (xs : List A) → list_any p xs ≡ true → (x : A) × (p x ≡ true)
some-any p [] h = never h
some-any {A = A} p (x ∷ xs) h =
    elim (p x) as (λ b. p x ≡ b → (b || list_any p xs) ≡ true → (y : A) × (p y ≡ true)) [
      | true ↦ λ e k. (x, e)
      | false ↦ λ e k. some-any p xs k
    ] refl h

module _ (n : Net) (none : n.algs ≡ []) where
  abbrev Free : List Read → Type 0
  Free xs = list_all (alg_passes (λ k. false)) xs ≡ true

  free-both : (xs ys : List Read) → Free xs → Free ys → Free (xs ++ ys)
  free-both xs ys h k = pass-both (alg_passes (λ j. false)) xs ys h k

  no-alg : {A : Type 0} (k : Kind) (v : ℕ) → alg_fits k (slice_get n.algs v) ≡ true → A
  no-alg k v h = never (ap (λ ds. alg_fits k (slice_get ds v)) (sym none) ∙ h)

  module _ (r : Option Ty) where
    -- operands of a comparison have some kind
    operands : (t : Bool) (a b : NetExpr) → (if t then list_any (λ q. fits n r q a && fits n r q b) (kinds_in n) else fits n r int_kind a && fits n r int_kind b) ≡ true → (q : Kind) × (fits n r q a ≡ true) × (fits n r q b ≡ true)
    operands true a b h = let s : (q : Kind) × ((fits n r q a && fits n r q b) ≡ true) = some-any (λ q. fits n r q a && fits n r q b) (kinds_in n) h in (s.0, and-left _ _ s.1, and-right _ _ s.1)
    operands false a b h = (int_kind, and-left _ _ h, and-right _ _ h)

    mutual
      free : (e : NetExpr) (k : Kind) → fits n r k e ≡ true → Free (names_in e)
      free (net_expr f at) k h = form-free f k h

      form-free : (f : NetForm) (k : Kind) → form_fits n r k f ≡ true → Free (form_names f)
      form-free (n_truth b) k h = refl
      form-free (n_number z) k h = refl
      form-free (n_loc a p) k h = refl
      form-free (n_var v) k h = refl
      form-free (n_input v) k h = refl
      form-free (n_alg v) k h = no-alg k v h
      form-free n_received k h = refl
      form-free (n_minus e) k h = free e int_kind (and-right _ _ h)
      form-free (n_plus e) k h = free e int_kind (and-right _ _ h)
      form-free (n_not e) k h = free e bool_kind (and-right _ _ h)
      form-free (n_abs e) k h = free e int_kind (and-right _ _ h)
      form-free (n_min a b) k h = free-both (names_in a) (names_in b) (free a int_kind (and-right _ _ (and-left _ _ h))) (free b int_kind (and-right _ _ h))
      form-free (n_max a b) k h = free-both (names_in a) (names_in b) (free a int_kind (and-right _ _ (and-left _ _ h))) (free b int_kind (and-right _ _ h))
      form-free (n_sum e es) k h = free-both (names_in e) (term_names es) (free e int_kind (and-right _ _ (and-left _ _ h))) (terms-free es (and-right _ _ h))
      form-free (n_product e es) k h = free-both (names_in e) (factor_names es) (free e int_kind (and-right _ _ (and-left _ _ h))) (factors-free es (and-right _ _ h))
      form-free (n_compare a op b) k h =
          let s : (q : Kind) × (fits n r q a ≡ true) × (fits n r q b ≡ true) = operands (is_equality op) a b (and-right _ _ h) in
          free-both (names_in a) (names_in b) (free a s.0 s.1) (free b s.0 s.2)
      form-free (n_and es) k h = list-free es (and-right _ _ h)
      form-free (n_or es) k h = list-free es (and-right _ _ h)
      form-free (n_implies a b) k h = free-both (names_in a) (names_in b) (free a bool_kind (and-right _ _ (and-left _ _ h))) (free b bool_kind (and-right _ _ h))
      form-free (n_iff a b) k h = free-both (names_in a) (names_in b) (free a bool_kind (and-right _ _ (and-left _ _ h))) (free b bool_kind (and-right _ _ h))
      form-free (n_if bs e) k h = free-both (branch_names bs) (names_in e) (cases-free bs k (and-left _ _ h)) (free e k (and-right _ _ h))

      terms-free : (es : NetTerms) → terms_fit n r es ≡ true → Free (term_names es)
      terms-free no_net_terms h = refl
      terms-free (net_terms m e es) h = free-both (names_in e) (term_names es) (free e int_kind (and-left _ _ h)) (terms-free es (and-right _ _ h))

      factors-free : (es : NetFactors) → factors_fit n r es ≡ true → Free (factor_names es)
      factors-free no_net_factors h = refl
      factors-free (net_factors op e es) h = free-both (names_in e) (factor_names es) (free e int_kind (and-left _ _ h)) (factors-free es (and-right _ _ h))

      list-free : (es : NetExprs) → all_fit n r es ≡ true → Free (list_names es)
      list-free no_net_exprs h = refl
      list-free (net_exprs e es) h = free-both (names_in e) (list_names es) (free e bool_kind (and-left _ _ h)) (list-free es (and-right _ _ h))

      cases-free : (bs : NetBranches) (k : Kind) → branches_fit n r k bs ≡ true → Free (branch_names bs)
      cases-free no_net_branches k h = refl
      cases-free (net_branches c e bs) k h =
          free-both (names_in c) (names_in e ++ branch_names bs) (free c bool_kind (and-left _ _ (and-left _ _ h)))
          (free-both (names_in e) (branch_names bs) (free e k (and-right _ _ (and-left _ _ h))) (cases-free bs k (and-right _ _ h)))

    -- ---- updates

    assigned-free : (o : Option Kind) (e : NetExpr) → assigns_kind n r o e ≡ true → names_no_alg e ≡ true
    assigned-free None e h = never h
    assigned-free (Some k) e h = free e k h

    mutual
      updates-free : (us : NetUpdates) → updates_stand n r us ≡ true → list_all names_no_alg (updates_exprs us) ≡ true
      updates-free no_net_updates h = refl
      updates-free (net_updates u us) h = pass-both names_no_alg (update_exprs u) (updates_exprs us) (update-free u (and-left _ _ (and-left _ _ h))) (updates-free us (and-right _ _ h))

      update-free : (u : NetUpdate) → update_stands n r u ≡ true → list_all names_no_alg (update_exprs u) ≡ true
      update-free (net_set v e) h = and-both _ _ (assigned-free (var_kind (slice_get n.vars v)) e h) refl
      update-free (net_choose bs us) h = pass-both names_no_alg (branches_exprs bs) (updates_exprs us) (branches-free bs (and-left _ _ h)) (updates-free us (and-right _ _ h))

      branches-free : (bs : NetUpdateBranches) → branches_stand n r bs ≡ true → list_all names_no_alg (branches_exprs bs) ≡ true
      branches-free no_net_update_branches h = refl
      branches-free (net_update_branches c us bs) h =
          and-both _ _ (free c bool_kind (and-left _ _ (and-left _ _ h)))
          (pass-both names_no_alg (updates_exprs us) (branches_exprs bs) (updates-free us (and-right _ _ (and-left _ _ h))) (branches-free bs (and-right _ _ h)))

  -- ---- edges

  typed-free : (t : Ty) (e : NetExpr) → fits_type n t e ≡ true → names_no_alg e ≡ true
  typed-free t e h = let s : (k : Kind) × ((has_type t k && fits n None k e) ≡ true) = some-any (λ k. has_type t k && fits n None k e) (kinds_in n) h in free None e s.0 (and-right _ _ s.1)

  sent-free : (p : Role) (c : NetChan) (o : Option NetExpr) → role_stands n p c o ≡ true → list_all names_no_alg (option_to_list o) ≡ true
  sent-free p c None h = refl
  sent-free syncing no_net_chan (Some e) h = never h
  sent-free syncing void_net_chan (Some e) h = never h
  sent-free syncing (net_chan_of t) (Some e) h = never h
  sent-free sending no_net_chan (Some e) h = never h
  sent-free sending void_net_chan (Some e) h = never h
  sent-free sending (net_chan_of t) (Some e) h = and-both _ _ (typed-free t e h) refl
  sent-free receiving no_net_chan (Some e) h = never h
  sent-free receiving void_net_chan (Some e) h = never h
  sent-free receiving (net_chan_of t) (Some e) h = never h

  edge-free : (a : NetAuto) (x : NetEdge) → edge_stands n a x ≡ true → list_all names_no_alg (edge_exprs x) ≡ true
  edge-free a x h =
      let guard : fits n None bool_kind x.guard ≡ true = and-right _ _ (and-left _ _ (and-left _ _ (and-left _ _ (and-left _ _ (and-left _ _ h))))) in
      let sent : role_stands n x.role (channel_of n x.event) x.sent ≡ true = and-right _ _ (and-left _ _ (and-left _ _ (and-left _ _ (and-left _ _ h)))) in
      let updates : updates_stand n (received_type n x) x.updates ≡ true = and-right _ _ (and-left _ _ (and-left _ _ (and-left _ _ h))) in
      and-both _ _ (free None x.guard bool_kind guard)
      (pass-both names_no_alg (option_to_list x.sent) (updates_exprs x.updates) (sent-free x.role (channel_of n x.event) x.sent sent) (updates-free (received_type n x) x.updates updates))

  -- ---- all that is evaluated

  module _ (net : is_net n ≡ true) where
    autos-stand : list_all (auto_stands n) n.autos ≡ true
    autos-stand = and-right _ _ (and-left _ _ (and-left _ _ (and-left _ _ (and-left _ _ net))))

    exclusions-stand : list_all (exclusion_stands n) n.exclusions ≡ true
    exclusions-stand = and-right _ _ (and-left _ _ (and-left _ _ net))

    invariants-stand : list_all (invariant_stands n) n.invariants ≡ true
    invariants-stand = and-right _ _ (and-left _ _ net)

    edges-free : (x : Evaluated) → Member x (flat_map (edge_evaluated n) (all_edges n)) → names_no_alg x.value ≡ true
    edges-free x m =
        let y = member-flat_map (edge_evaluated n) x (all_edges n) m in
        let a = member-flat_map (λ (b : NetAuto). b.edges) y.0 n.autos y.1 in
        let e = member-map (λ e. record { value = e; received = channel_range (channel_of n y.0.event) }) x (edge_exprs y.0) y.2 in
        let stands : edge_stands n a.0 y.0 ≡ true = all-member (edge_stands n a.0) a.0.edges y.0 (and-right _ _ (all-member (auto_stands n) n.autos a.0 autos-stand a.1)) a.2 in
        subst (λ (z : Evaluated). names_no_alg z.value ≡ true) (sym e.2) (all-member names_no_alg (edge_exprs y.0) e.0 (edge-free a.0 y.0 stands) e.1)

    exclusion-free : (e : NetExpr) → Member e (map (λ (x : NetExclusion). x.pred) n.exclusions) → names_no_alg e ≡ true
    exclusion-free e m =
        let x = member-map (λ (x : NetExclusion). x.pred) e n.exclusions m in
        subst (λ g. names_no_alg g ≡ true) (sym x.2) (free None x.0.pred bool_kind (and-right _ _ (all-member (exclusion_stands n) n.exclusions x.0 exclusions-stand x.1)))

    invariant-free : (e : NetExpr) → Member e (map (λ (i : NetInvariant). i.pred) n.invariants) → names_no_alg e ≡ true
    invariant-free e m =
        let x = member-map (λ (i : NetInvariant). i.pred) e n.invariants m in
        subst (λ g. names_no_alg g ≡ true) (sym x.2) (free None x.0.pred bool_kind (all-member (invariant_stands n) n.invariants x.0 invariants-stand x.1))

    other-free : (e : NetExpr) → Member e (other_exprs n) → names_no_alg e ≡ true
    other-free e m =
        elim (member-append e (map (λ (x : NetExclusion). x.pred) n.exclusions) (map (λ (i : NetInvariant). i.pred) n.invariants ++ flat_map alg_exprs n.algs) m) [
          | inl w ↦ exclusion-free e w
          | inr v ↦
              elim (member-append e (map (λ (i : NetInvariant). i.pred) n.invariants) (flat_map alg_exprs n.algs) v) [
                | inl w ↦ invariant-free e w
                | inr w ↦ absurd (subst (λ ds. Member e (flat_map alg_exprs ds)) none w)
              ]
        ]

    pub evaluated-free : (x : Evaluated) → Member x (evaluated n) → names_no_alg x.value ≡ true
    evaluated-free x m =
        elim (member-append x (flat_map (edge_evaluated n) (all_edges n)) (map (λ e. record { value = e; received = truths }) (other_exprs n)) m) [
          | inl w ↦ edges-free x w
          | inr w ↦
              let e = member-map (λ e. record { value = e; received = truths }) x (other_exprs n) w in
              subst (λ (z : Evaluated). names_no_alg z.value ≡ true) (sym e.2) (other-free e.0 e.1)
        ]
