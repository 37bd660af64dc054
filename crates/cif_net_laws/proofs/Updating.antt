-- The updates of the edges of a choice stand together: automata assign different variables.
use Rattle.std.proofs.Common.{◌≡◌, ◌⊎◌, ℕ, Bool, true, false, not, ◌||◌, inl, inr, List, [], ◌∷◌, ◌++◌, map, filter_map, zip, Option, Some, None, refl, sym, ◌∙◌, ap, subst}
use Rattle.std.specs.Prelude.{slice_get, nat_eq}
use Rattle.std.specs.List.{cons_option, AllByRecursion}
use Rattle.std.proofs.lemmas.Bool.{eqb-true, eq-eqb}
use Rattle.cif_base.specs.declared.types.Ty.{Ty}
use Rattle.cif_system.specs.Words.{Member}
use Rattle.cif_system.specs.System.{Role, syncing, sending, receiving}
use Rattle.cif_system.specs.Step.{Choice}
use Rattle.cif_system.proofs.Distinct.{member-append, member-map}
use Rattle.cif_system.proofs.Lists.{false-true}
use Rattle.cif_system.proofs.Picks.{append-left, append-right, at-member, flat_map-member, map-member, true-or-right}
use Rattle.cif_net_expr.specs.Tree.{NetExpr, NetUpdate, net_set, net_choose, NetUpdates, no_net_updates, net_updates, NetUpdateBranches, no_net_update_branches, net_update_branches}
use Rattle.cif_net_model.specs.Net.{NetChan, no_net_chan, void_net_chan, net_chan_of, NetAuto, NetEdge, Net}
use Rattle.cif_net_model.specs.Exprs.{Written, writes_all, writes_by, targets}
use Rattle.cif_net_model.specs.Kinds.{Kind, bool_kind}
use Rattle.cif_net_model.specs.Facts.{are_apart, are_all_apart, assigns_kind, auto_targets, branches_stand, channel_of, has, received_type, update_stands, updates_stand, var_kind}
use Rattle.cif_net_model.specs.Shown.{channel_type}
use Rattle.cif_net_model.specs.Listing.{both, edge_at, writes_of}
use Rattle.cif_net_model.proofs.Passing.{and-left, and-right, not-true, all-member}
use Rattle.cif_net_model.proofs.PlainLaws.{never}
use Rattle.cif_net_laws.proofs.Received.{and-true, fits-any}
use Rattle.cif_net_laws.proofs.Sound.{Kept}

-- ---- with a received value

module _ (n : Net) (r : Option Ty) where
  assigns-any : (o : Option Kind) (e : NetExpr) → assigns_kind n None o e ≡ true → assigns_kind n r o e ≡ true
  assigns-any None e h = never h
  assigns-any (Some k) e h = fits-any n r k e h

  mutual
    updates-any : (us : NetUpdates) → updates_stand n None us ≡ true → updates_stand n r us ≡ true
    updates-any no_net_updates h = refl
    updates-any (net_updates u us) h = let g = and-left _ _ h in and-true (and-true (update-any u (and-left _ _ g)) (and-right _ _ g)) (updates-any us (and-right _ _ h))

    update-any : (u : NetUpdate) → update_stands n None u ≡ true → update_stands n r u ≡ true
    update-any (net_set v e) h = assigns-any (var_kind (slice_get n.vars v)) e h
    update-any (net_choose bs us) h = and-true (branches-any bs (and-left _ _ h)) (updates-any us (and-right _ _ h))

    branches-any : (bs : NetUpdateBranches) → branches_stand n None bs ≡ true → branches_stand n r bs ≡ true
    branches-any no_net_update_branches h = refl
    branches-any (net_update_branches c us bs) h = let g = and-left _ _ h in and-true (and-true (fits-any n r bool_kind c (and-left _ _ g)) (updates-any us (and-right _ _ g))) (branches-any bs (and-right _ _ h))

-- an edge that takes part in an event, of an automaton of the net
pub record Taking (n : Net) (e : ℕ) (x : NetEdge) : Type 0 where
  pub auto : NetAuto
  pub kept : Kept n auto x
  pub event : x.event ≡ e

module _ (n : Net) where
  -- where it doesn't receive its updates read nothing that is received
  edge-updates : (p : Role) (c : NetChan) (o : Option Ty) (us : NetUpdates) → o ≡ (elim p [ receiving ↦ elim c [ net_chan_of t ↦ Some t | _ ↦ None ] | _ ↦ None ]) → updates_stand n o us ≡ true → updates_stand n (channel_type c) us ≡ true
  edge-updates syncing c o us q h = updates-any n (channel_type c) us (subst (λ z. updates_stand n z us ≡ true) q h)
  edge-updates sending c o us q h = updates-any n (channel_type c) us (subst (λ z. updates_stand n z us ≡ true) q h)
  edge-updates receiving no_net_chan o us q h = subst (λ z. updates_stand n z us ≡ true) q h
  edge-updates receiving void_net_chan o us q h = subst (λ z. updates_stand n z us ≡ true) q h
  edge-updates receiving (net_chan_of t) o us q h = subst (λ z. updates_stand n z us ≡ true) q h

  taking-updates : (e : ℕ) (x : NetEdge) → Taking n e x → updates_stand n (channel_type (channel_of n e)) x.updates ≡ true
  taking-updates e x t =
      subst (λ z. updates_stand n (channel_type (channel_of n z)) x.updates ≡ true) t.event
      (edge-updates x.role (channel_of n x.event) (received_type n x) x.updates refl (and-right _ _ (and-left _ _ (and-left _ _ (and-left _ _ t.kept.stands)))))

-- ---- numbers apart

has-member : (x : ℕ) (ys : List ℕ) → Member x ys → has ys x ≡ true
has-member x [] m = absurd m
has-member x (y ∷ ys) (inl w) = ap (λ b. b || has ys x) (eq-eqb x y w)
has-member x (y ∷ ys) (inr m) = ap (λ b. nat_eq x y || b) (has-member x ys m) ∙ true-or-right (nat_eq x y)

member-has : (x : ℕ) (ys : List ℕ) → has ys x ≡ true → Member x ys
member-has x [] h = never h
member-has x (y ∷ ys) h = by (nat_eq x y) refl (member-has x ys) h
  where
    by : (b : Bool) → nat_eq x y ≡ b → (has ys x ≡ true → Member x ys) → (b || has ys x) ≡ true → Member x (y ∷ ys)
    by true e r h = inl (eqb-true x y e)
    by false e r h = inr (r h)

apart-member : (xs ys : List ℕ) (v : ℕ) → are_apart xs ys ≡ true → Member v xs → Member v ys → ⊥
apart-member xs ys v h m w = false-true (not-true _ (all-member (λ x. not (has ys x)) xs v h m)) (has-member v ys w)

member-apart : (xs ys : List ℕ) → ((v : ℕ) → Member v xs → Member v ys → ⊥) → are_apart xs ys ≡ true
member-apart [] ys f = refl
member-apart (x ∷ xs) ys f = and-true (by (has ys x) refl) (member-apart xs ys (λ v m. f v (inr m)))
  where
    by : (b : Bool) → has ys x ≡ b → not b ≡ true
    by true h = absurd (f x (inl refl) (member-has x ys h))
    by false h = refl

-- ---- updates of one choice

both-writes : (us vs : NetUpdates) (w : Written) → Member w (writes_all (both us vs)) → Member w (writes_all us) ⊎ Member w (writes_all vs)
both-writes no_net_updates vs w m = inr m
both-writes (net_updates u us) vs w m = by (both-writes us vs w) (member-append w (writes_by u) (writes_all (both us vs)) m)
  where
    later : Member w (writes_all us) ⊎ Member w (writes_all vs) → Member w (writes_by u ++ writes_all us) ⊎ Member w (writes_all vs)
    later (inl h) = inl (append-right w (writes_by u) (writes_all us) h)
    later (inr h) = inr h

    by : (Member w (writes_all (both us vs)) → Member w (writes_all us) ⊎ Member w (writes_all vs)) → Member w (writes_by u) ⊎ Member w (writes_all (both us vs)) → Member w (writes_by u ++ writes_all us) ⊎ Member w (writes_all vs)
    by rest (inl h) = inl (append-left w (writes_by u) (writes_all us) h)
    by rest (inr h) = later (rest h)

both-targets : (us vs : NetUpdates) (v : ℕ) → Member v (targets (both us vs)) → Member v (targets us) ⊎ Member v (targets vs)
both-targets us vs v m = let r = member-map (λ (w : Written). w.var) v (writes_all (both us vs)) m in by r.0 r.2 (both-writes us vs r.0 r.1)
  where
    by : (w : Written) → v ≡ w.var → Member w (writes_all us) ⊎ Member w (writes_all vs) → Member v (targets us) ⊎ Member v (targets vs)
    by w e (inl h) = inl (subst (λ z. Member z (targets us)) (sym e) (map-member (λ (x : Written). x.var) w (writes_all us) h))
    by w e (inr h) = inr (subst (λ z. Member z (targets vs)) (sym e) (map-member (λ (x : Written). x.var) w (writes_all vs) h))

-- the targets of the first update, and of those after it
first-targets : (u : NetUpdate) (us : NetUpdates) (v : ℕ) → Member v (targets (net_updates u no_net_updates)) → Member v (targets (net_updates u us))
first-targets u us v m =
    let r = member-map (λ (w : Written). w.var) v (writes_by u ++ []) m in
    by r.0 r.2 (member-append r.0 (writes_by u) [] r.1)
  where
    by : (w : Written) → v ≡ w.var → Member w (writes_by u) ⊎ ⊥ → Member v (targets (net_updates u us))
    by w e (inl h) = subst (λ z. Member z (targets (net_updates u us))) (sym e) (map-member (λ (x : Written). x.var) w (writes_by u ++ writes_all us) (append-left w (writes_by u) (writes_all us) h))
    by w e (inr h) = absurd h

later-targets : (u : NetUpdate) (us : NetUpdates) (v : ℕ) → Member v (targets us) → Member v (targets (net_updates u us))
later-targets u us v m =
    let r = member-map (λ (w : Written). w.var) v (writes_all us) m in
    subst (λ z. Member z (targets (net_updates u us))) (sym r.2) (map-member (λ (x : Written). x.var) r.0 (writes_by u ++ writes_all us) (append-right r.0 (writes_by u) (writes_all us) r.1))

module _ (n : Net) (r : Option Ty) where
  both-stand : (us vs : NetUpdates) → updates_stand n r us ≡ true → updates_stand n r vs ≡ true → ((v : ℕ) → Member v (targets us) → Member v (targets vs) → ⊥) → updates_stand n r (both us vs) ≡ true
  both-stand no_net_updates vs h g f = g
  both-stand (net_updates u us) vs h g f =
      let k = and-left _ _ h in
      and-true
      (and-true (and-left _ _ k) (member-apart (targets (net_updates u no_net_updates)) (targets (both us vs)) (λ v m w. by v m (both-targets us vs v w))))
      (both-stand us vs (and-right _ _ h) g (λ v m w. f v (later-targets u us v m) w))
    where
      by : (v : ℕ) → Member v (targets (net_updates u no_net_updates)) → Member v (targets us) ⊎ Member v (targets vs) → ⊥
      by v m (inl w) = apart-member (targets (net_updates u no_net_updates)) (targets us) v (and-right _ _ (and-left _ _ h)) m w
      by v m (inr w) = f v (first-targets u us v m) w

-- ---- updates of several automata

-- what the taken edges assign, their automata assign
taken-targets : (ds : List NetAuto) (ch : Choice) (v : ℕ) → Member v (targets (writes_of (filter_map edge_at (zip ds ch)))) → (xs : List ℕ) × Member xs (map auto_targets ds) × Member v xs
taken-targets [] ch v m = absurd m
taken-targets (a ∷ ds) [] v m = absurd m
taken-targets (a ∷ ds) (None ∷ ch) v m = let r = taken-targets ds ch v m in (r.0, inr r.1, r.2)
taken-targets (a ∷ ds) (Some y ∷ ch) v m = by (slice_get a.edges y) refl (taken-targets ds ch v) m
  where
    one : (x : NetEdge) → slice_get a.edges y ≡ Some x → Member v (targets x.updates) → (xs : List ℕ) × Member xs (map auto_targets (a ∷ ds)) × Member v xs
    one x g h = (auto_targets a, inl refl, flat_map-member (λ (z : NetEdge). targets z.updates) x a.edges v (at-member a.edges y x g) h)

    by : (o : Option NetEdge) → slice_get a.edges y ≡ o → (Member v (targets (writes_of (filter_map edge_at (zip ds ch)))) → (xs : List ℕ) × Member xs (map auto_targets ds) × Member v xs)
        → Member v (targets (writes_of (cons_option o (filter_map edge_at (zip ds ch))))) → (xs : List ℕ) × Member xs (map auto_targets (a ∷ ds)) × Member v xs
    by None g rest h = let r = rest h in (r.0, inr r.1, r.2)
    by (Some x) g rest h = elim (both-targets x.updates (writes_of (filter_map edge_at (zip ds ch))) v h) [
      | inl w ↦ one x g w
      | inr w ↦ let r = rest w in (r.0, inr r.1, r.2)
    ]

module _ (n : Net) (e : ℕ) where
  pub writes-stand : (ds : List NetAuto) (ch : Choice) → are_all_apart (map auto_targets ds) ≡ true → AllByRecursion (Taking n e) (filter_map edge_at (zip ds ch)) → updates_stand n (channel_type (channel_of n e)) (writes_of (filter_map edge_at (zip ds ch))) ≡ true
  writes-stand [] ch h t = refl
  writes-stand (a ∷ ds) [] h t = refl
  writes-stand (a ∷ ds) (None ∷ ch) h t = writes-stand ds ch (and-right _ _ h) t
  writes-stand (a ∷ ds) (Some y ∷ ch) h t = by (slice_get a.edges y) refl (writes-stand ds ch (and-right _ _ h)) t
    where
      by : (o : Option NetEdge) → slice_get a.edges y ≡ o
          → (AllByRecursion (Taking n e) (filter_map edge_at (zip ds ch)) → updates_stand n (channel_type (channel_of n e)) (writes_of (filter_map edge_at (zip ds ch))) ≡ true)
          → AllByRecursion (Taking n e) (cons_option o (filter_map edge_at (zip ds ch))) → updates_stand n (channel_type (channel_of n e)) (writes_of (cons_option o (filter_map edge_at (zip ds ch)))) ≡ true
      by None g rest t = rest t
      by (Some x) g rest t =
          both-stand n (channel_type (channel_of n e)) x.updates (writes_of (filter_map edge_at (zip ds ch))) (taking-updates n e x t.0) (rest t.1)
          (λ v m w.
          let r = taken-targets ds ch v w in
          apart-member (auto_targets a) r.0 v (all-member (are_apart (auto_targets a)) (map auto_targets ds) r.0 (and-left _ _ h) r.1)
          (flat_map-member (λ (z : NetEdge). targets z.updates) x a.edges v (at-member a.edges y x g) m) r.2)
