-- In a net no expression names an algebraic variable that isn't there.
use Rattle.std.proofs.Common.{◌≡◌, ℕ, zero, suc, ◌<◌, Bool, true, false, ◌&&◌, List, [], ◌∷◌, ◌++◌, length, nat_eq, slice_get, Option, Some, None, refl, if◌then◌else◌, arith}
use Rattle.std.specs.Prelude.{nat_lt, flat_map, option_to_list}
use Rattle.std.specs.List.{list_all, list_any}
use Rattle.std.proofs.lemmas.Bool.Decides.{nat_tests}
use Rattle.cif_base.specs.declared.types.Ty.{Ty}
use Rattle.cif_system.specs.System.{Role, syncing, sending, receiving}
use Rattle.cif_system.proofs.Picks.{all-at}
use Rattle.cif_net_expr.specs.Tree.{NetExpr, net_expr, NetForm, n_truth, n_number, n_loc, n_var, n_input, n_alg, n_received, n_minus, n_plus, n_not, n_abs, n_min, n_max, n_sum, n_product, n_compare, n_and, n_or, n_implies, n_iff, n_if, NetExprs, no_net_exprs, net_exprs, NetTerms, no_net_terms, net_terms, NetFactors, no_net_factors, net_factors, NetBranches, no_net_branches, net_branches, NetUpdate, net_set, net_choose, NetUpdates, no_net_updates, net_updates, NetUpdateBranches, no_net_update_branches, net_update_branches}
use Rattle.cif_net_model.specs.Net.{NetChan, no_net_chan, void_net_chan, net_chan_of, NetEdge, NetAuto, AlgValue, one_value, by_loc, NetAlg, NetExclusion, NetInvariant, Net}
use Rattle.cif_net_model.specs.Exprs.{updates_exprs, update_exprs, branches_exprs, edge_exprs, alg_exprs}
use Rattle.cif_net_model.specs.Kinds.{Kind, bool_kind, int_kind, kind_of, is_equality, has_type, alg_fits, received_fits, kinds_in, places_of, fits, form_fits, terms_fit, factors_fit, all_fit, branches_fit, fits_type}
use Rattle.cif_net_model.specs.Facts.{channel_of, received_type, assigns_kind, var_kind, updates_stand, update_stands, branches_stand, role_stands, edge_stands, auto_stands, alg_stands, exclusion_stands, invariant_stands, is_net}
use Rattle.cif_net_model.specs.Reads.{Read, a_var, an_input, an_alg, a_place, the_received, alg_passes, names_in, form_names, term_names, factor_names, list_names, branch_names}
use Rattle.cif_net_model.proofs.Passing.{and-left, and-right}
use Rattle.cif_net_model.proofs.PlainLaws.{never}
use Rattle.cif_net_laws.proofs.Lists.{and-both, pass-both, some-any}

-- no algebraic variable is named but those that pass
abbrev pub Names : (ℕ → Bool) → List Read → Type 0
Names p xs = list_all (alg_passes p) xs ≡ true

abbrev pub NamesIn : (ℕ → Bool) → NetExpr → Type 0
NamesIn p e = Names p (names_in e)

abbrev pub all_name : (ℕ → Bool) → List NetExpr → Bool
all_name p es = list_all (λ e. list_all (alg_passes p) (names_in e)) es

pub all-names : (p : ℕ → Bool) (es : List NetExpr) → all_name p es ≡ true → Names p (flat_map names_in es)
all-names p [] h = refl
all-names p (e ∷ es) h = pass-both (alg_passes p) (names_in e) (flat_map names_in es) (and-left _ _ h) (all-names p es (and-right _ _ h))

-- an algebraic variable that is there
abbrev pub is_there : Net → ℕ → Bool
is_there n k = nat_lt k (length n.algs)

fits-there : (k : Kind) (ds : List NetAlg) (v : ℕ) → alg_fits k (slice_get ds v) ≡ true → nat_lt v (length ds) ≡ true
fits-there k ds v h = by (slice_get ds v) refl h
  where
    within : (ds : List NetAlg) (v : ℕ) (a : NetAlg) → slice_get ds v ≡ Some a → v < length ds
    within [] v a g = absurd cc
    within (d ∷ ds) zero a g = omega arith
    within (d ∷ ds) (suc v) a g = omega (arith, within ds v a g)

    by : (o : Option NetAlg) → slice_get ds v ≡ o → alg_fits k o ≡ true → nat_lt v (length ds) ≡ true
    by None g f = never f
    by (Some a) g f = let l : v < length ds = within ds v a g in grind (arith, nat_tests)

module _ (n : Net) (r : Option Ty) (p : Read → Bool)
    (vars : (k : ℕ) → p (a_var k) ≡ true) (inputs : (k : ℕ) → p (an_input k) ≡ true) (places : (k : ℕ) → p (a_place k) ≡ true)
    (algs : (k : Kind) (v : ℕ) → alg_fits k (slice_get n.algs v) ≡ true → p (an_alg v) ≡ true)
    (received : (k : Kind) → received_fits k r ≡ true → p the_received ≡ true) where
  abbrev All : List Read → Type 0
  All xs = list_all p xs ≡ true

  -- operands of a comparison have some kind
  operands : (t : Bool) (a b : NetExpr) → (if t then list_any (λ q. fits n r q a && fits n r q b) (kinds_in n) else fits n r int_kind a && fits n r int_kind b) ≡ true → (q : Kind) × (fits n r q a ≡ true) × (fits n r q b ≡ true)
  operands true a b h = let s : (q : Kind) × ((fits n r q a && fits n r q b) ≡ true) = some-any (λ q. fits n r q a && fits n r q b) (kinds_in n) h in (s.0, and-left _ _ s.1, and-right _ _ s.1)
  operands false a b h = (int_kind, and-left _ _ h, and-right _ _ h)

  mutual
    pub all-pass : (e : NetExpr) (k : Kind) → fits n r k e ≡ true → All (names_in e)
    all-pass (net_expr f at) k h = form-names f k h

    form-names : (f : NetForm) (k : Kind) → form_fits n r k f ≡ true → All (form_names f)
    form-names (n_truth b) k h = refl
    form-names (n_number z) k h = refl
    form-names (n_loc a j) k h = and-both _ _ (places a) refl
    form-names (n_var v) k h = and-both _ _ (vars v) refl
    form-names (n_input v) k h = and-both _ _ (inputs v) refl
    form-names (n_alg v) k h = and-both _ _ (algs k v h) refl
    form-names n_received k h = and-both _ _ (received k h) refl
    form-names (n_minus e) k h = all-pass e int_kind (and-right _ _ h)
    form-names (n_plus e) k h = all-pass e int_kind (and-right _ _ h)
    form-names (n_not e) k h = all-pass e bool_kind (and-right _ _ h)
    form-names (n_abs e) k h = all-pass e int_kind (and-right _ _ h)
    form-names (n_min a b) k h = pass-both p (names_in a) (names_in b) (all-pass a int_kind (and-right _ _ (and-left _ _ h))) (all-pass b int_kind (and-right _ _ h))
    form-names (n_max a b) k h = pass-both p (names_in a) (names_in b) (all-pass a int_kind (and-right _ _ (and-left _ _ h))) (all-pass b int_kind (and-right _ _ h))
    form-names (n_sum e es) k h = pass-both p (names_in e) (term_names es) (all-pass e int_kind (and-right _ _ (and-left _ _ h))) (terms-names es (and-right _ _ h))
    form-names (n_product e es) k h = pass-both p (names_in e) (factor_names es) (all-pass e int_kind (and-right _ _ (and-left _ _ h))) (factors-names es (and-right _ _ h))
    form-names (n_compare a op b) k h =
        let s : (q : Kind) × (fits n r q a ≡ true) × (fits n r q b ≡ true) = operands (is_equality op) a b (and-right _ _ h) in
        pass-both p (names_in a) (names_in b) (all-pass a s.0 s.1) (all-pass b s.0 s.2)
    form-names (n_and es) k h = list-names es (and-right _ _ h)
    form-names (n_or es) k h = list-names es (and-right _ _ h)
    form-names (n_implies a b) k h = pass-both p (names_in a) (names_in b) (all-pass a bool_kind (and-right _ _ (and-left _ _ h))) (all-pass b bool_kind (and-right _ _ h))
    form-names (n_iff a b) k h = pass-both p (names_in a) (names_in b) (all-pass a bool_kind (and-right _ _ (and-left _ _ h))) (all-pass b bool_kind (and-right _ _ h))
    form-names (n_if bs e) k h = pass-both p (branch_names bs) (names_in e) (cases-names bs k (and-left _ _ h)) (all-pass e k (and-right _ _ h))

    terms-names : (es : NetTerms) → terms_fit n r es ≡ true → All (term_names es)
    terms-names no_net_terms h = refl
    terms-names (net_terms m e es) h = pass-both p (names_in e) (term_names es) (all-pass e int_kind (and-left _ _ h)) (terms-names es (and-right _ _ h))

    factors-names : (es : NetFactors) → factors_fit n r es ≡ true → All (factor_names es)
    factors-names no_net_factors h = refl
    factors-names (net_factors op e es) h = pass-both p (names_in e) (factor_names es) (all-pass e int_kind (and-left _ _ h)) (factors-names es (and-right _ _ h))

    list-names : (es : NetExprs) → all_fit n r es ≡ true → All (list_names es)
    list-names no_net_exprs h = refl
    list-names (net_exprs e es) h = pass-both p (names_in e) (list_names es) (all-pass e bool_kind (and-left _ _ h)) (list-names es (and-right _ _ h))

    cases-names : (bs : NetBranches) (k : Kind) → branches_fit n r k bs ≡ true → All (branch_names bs)
    cases-names no_net_branches k h = refl
    cases-names (net_branches c e bs) k h =
        pass-both p (names_in c) (names_in e ++ branch_names bs) (all-pass c bool_kind (and-left _ _ (and-left _ _ h)))
        (pass-both p (names_in e) (branch_names bs) (all-pass e k (and-right _ _ (and-left _ _ h))) (cases-names bs k (and-right _ _ h)))

-- a name that isn't the received value
abbrev pub not_received : Read → Bool
not_received the_received = false
not_received x = true

module _ (n : Net) where
  abbrev Within : List Read → Type 0
  Within xs = Names (is_there n) xs

  -- where nothing is received, nothing names it
  pub quiet : (e : NetExpr) (k : Kind) → fits n None k e ≡ true → list_all not_received (names_in e) ≡ true
  quiet = all-pass n None not_received (λ k. refl) (λ k. refl) (λ k. refl) (λ k v h. refl) (λ k h. never h)

  module _ (r : Option Ty) where
    pub names : (e : NetExpr) (k : Kind) → fits n r k e ≡ true → Within (names_in e)
    names = all-pass n r (alg_passes (is_there n)) (λ k. refl) (λ k. refl) (λ k. refl) (λ k v h. fits-there k n.algs v h) (λ k h. refl)

    -- ---- updates

    assigned-names : (o : Option Kind) (e : NetExpr) → assigns_kind n r o e ≡ true → Within (names_in e)
    assigned-names None e h = never h
    assigned-names (Some k) e h = names e k h

    mutual
      updates-names : (us : NetUpdates) → updates_stand n r us ≡ true → all_name (is_there n) (updates_exprs us) ≡ true
      updates-names no_net_updates h = refl
      updates-names (net_updates u us) h = pass-both _ (update_exprs u) (updates_exprs us) (update-names u (and-left _ _ (and-left _ _ h))) (updates-names us (and-right _ _ h))

      update-names : (u : NetUpdate) → update_stands n r u ≡ true → all_name (is_there n) (update_exprs u) ≡ true
      update-names (net_set v e) h = and-both _ _ (assigned-names (var_kind (slice_get n.vars v)) e h) refl
      update-names (net_choose bs us) h = pass-both _ (branches_exprs bs) (updates_exprs us) (branches-names bs (and-left _ _ h)) (updates-names us (and-right _ _ h))

      branches-names : (bs : NetUpdateBranches) → branches_stand n r bs ≡ true → all_name (is_there n) (branches_exprs bs) ≡ true
      branches-names no_net_update_branches h = refl
      branches-names (net_update_branches c us bs) h =
          and-both _ _ (names c bool_kind (and-left _ _ (and-left _ _ h)))
          (pass-both _ (updates_exprs us) (branches_exprs bs) (updates-names us (and-right _ _ (and-left _ _ h))) (branches-names bs (and-right _ _ h)))

  -- ---- edges

  typed-names : (t : Ty) (e : NetExpr) → fits_type n t e ≡ true → Within (names_in e)
  typed-names t e h = let s : (k : Kind) × ((has_type t k && fits n None k e) ≡ true) = some-any (λ k. has_type t k && fits n None k e) (kinds_in n) h in names None e s.0 (and-right _ _ s.1)

  sent-names : (p : Role) (c : NetChan) (o : Option NetExpr) → role_stands n p c o ≡ true → all_name (is_there n) (option_to_list o) ≡ true
  sent-names p c None h = refl
  sent-names syncing no_net_chan (Some e) h = never h
  sent-names syncing void_net_chan (Some e) h = never h
  sent-names syncing (net_chan_of t) (Some e) h = never h
  sent-names sending no_net_chan (Some e) h = never h
  sent-names sending void_net_chan (Some e) h = never h
  sent-names sending (net_chan_of t) (Some e) h = and-both _ _ (typed-names t e h) refl
  sent-names receiving no_net_chan (Some e) h = never h
  sent-names receiving void_net_chan (Some e) h = never h
  sent-names receiving (net_chan_of t) (Some e) h = never h

  pub edge-names : (a : NetAuto) (x : NetEdge) → edge_stands n a x ≡ true → all_name (is_there n) (edge_exprs x) ≡ true
  edge-names a x h =
      let guard : fits n None bool_kind x.guard ≡ true = and-right _ _ (and-left _ _ (and-left _ _ (and-left _ _ (and-left _ _ (and-left _ _ h))))) in
      let sent : role_stands n x.role (channel_of n x.event) x.sent ≡ true = and-right _ _ (and-left _ _ (and-left _ _ (and-left _ _ (and-left _ _ h)))) in
      let updates : updates_stand n (received_type n x) x.updates ≡ true = and-right _ _ (and-left _ _ (and-left _ _ (and-left _ _ h))) in
      and-both _ _ (names None x.guard bool_kind guard)
      (pass-both _ (option_to_list x.sent) (updates_exprs x.updates) (sent-names x.role (channel_of n x.event) x.sent sent) (updates-names (received_type n x) x.updates updates))

  -- ---- definitions

  all-fit-names : (k : Kind) (es : List NetExpr) → list_all (fits n None k) es ≡ true → all_name (is_there n) es ≡ true
  all-fit-names k [] h = refl
  all-fit-names k (e ∷ es) h = and-both _ _ (names None e k (and-left _ _ h)) (all-fit-names k es (and-right _ _ h))

  value-names : (k : Kind) (v : AlgValue)
      → (elim v [ one_value e ↦ fits n None k e | by_loc a es ↦ nat_lt a (length n.autos) && nat_eq (length es) (places_of (slice_get n.autos a)) && list_all (fits n None k) es ]) ≡ true
      → all_name (is_there n) (elim v [ one_value e ↦ e ∷ [] | by_loc a es ↦ es ]) ≡ true
  value-names k (one_value e) h = and-both _ _ (names None e k h) refl
  value-names k (by_loc a es) h = all-fit-names k es (and-right _ _ h)

  pub alg-names : (a : NetAlg) → alg_stands n a ≡ true → all_name (is_there n) (alg_exprs a) ≡ true
  alg-names a h = value-names (kind_of a.type_of a.literals) a.value (and-right _ _ h)

  -- ---- what a net keeps

  module _ (net : is_net n ≡ true) where
    pub autos-stand : list_all (auto_stands n) n.autos ≡ true
    autos-stand = and-right _ _ (and-left _ _ (and-left _ _ (and-left _ _ (and-left _ _ net))))

    pub algs-stand : list_all (alg_stands n) n.algs ≡ true
    algs-stand = and-right _ _ (and-left _ _ (and-left _ _ (and-left _ _ net)))

    pub exclusions-stand : list_all (exclusion_stands n) n.exclusions ≡ true
    exclusions-stand = and-right _ _ (and-left _ _ (and-left _ _ net))

    pub invariants-stand : list_all (invariant_stands n) n.invariants ≡ true
    invariants-stand = and-right _ _ (and-left _ _ net)

    pub exclusion-names : (x : NetExclusion) → exclusion_stands n x ≡ true → Within (names_in x.pred)
    exclusion-names x h = names None x.pred bool_kind (and-right _ _ h)

    pub invariant-names : (i : NetInvariant) → invariant_stands n i ≡ true → Within (names_in i.pred)
    invariant-names i h = names None i.pred bool_kind h

-- in a net there is a value for one place at least
pub some-place : (n : Net) → is_net n ≡ true → (k : ℕ) (m : ℕ) → nat_lt k (length n.autos) ≡ true → nat_eq m (places_of (slice_get n.autos k)) ≡ true → 0 < m
some-place n net k m h e = by (slice_get n.autos k) refl e
  where
    there : (ds : List NetAuto) (k : ℕ) → k < length ds → slice_get ds k ≡ None → ⊥
    there [] k l g = absurd (omega (arith, l))
    there (a ∷ ds) zero l g = absurd cc
    there (a ∷ ds) (suc k) l g = there ds k (omega (arith, l)) g

    by : (o : Option NetAuto) → slice_get n.autos k ≡ o → nat_eq m (places_of o) ≡ true → 0 < m
    by None g t = let l : k < length n.autos = grind (arith, nat_tests) in absurd (there n.autos k l g)
    by (Some a) g t =
        let f : nat_lt a.first (length a.locs) ≡ true = and-left _ _ (and-left _ _ (and-left _ _ (all-at (auto_stands n) n.autos k a (autos-stand n net) g))) in
        grind (arith, nat_tests)
