-- The edges of a listed choice send one value at most, and what a choice sends and assigns is what they send and assign.
use Rattle.std.proofs.Common.{◌≡◌, ◌⊎◌, ℕ, ℤ, zero, suc, ◌+◌, ◌<◌, pos, true, inl, inr, List, [], ◌∷◌, ◌++◌, map, flat_map, filter_map, zip, Option, Some, None, is_none, refl, sym, ◌∙◌, ap, subst, arith, append_assoc}
use Rattle.std.specs.Prelude.{slice_get, option_map, option_to_list}
use Rattle.std.specs.List.{cons_option, list_all, enumerate_from}
use Rattle.std.proofs.lemmas.Bool.{eqb-true}
use Rattle.cif_system.specs.System.{Edge, Role, State, syncing, sending, receiving}
use Rattle.cif_system.specs.Step.{Choice, assigned, edge_taken, first_or, sent, taken}
use Rattle.cif_system.proofs.Picks.{and-left, and-right, all-at}
use Rattle.cif_net_expr.specs.Tree.{NetExpr, NetUpdates, no_net_updates, net_updates}
use Rattle.cif_net_model.specs.Net.{NetAuto, NetEdge, NetChan, no_net_chan, void_net_chan, net_chan_of, Net}
use Rattle.cif_net_model.specs.Meaning.{automaton_in, edge_meant, net_assigned_all, net_assigned_by, system_of_net, value_in}
use Rattle.cif_net_model.specs.Facts.{auto_stands, channel_of, edge_stands, is_net, role_stands}
use Rattle.cif_net_model.specs.Listing.{both, edge_at, edges_taken, sent_by, writes_of}
use Rattle.cif_net_laws.proofs.Parties.{RolePart, Parts}
use Rattle.cif_net_laws.proofs.Picked.{Picked, autos-stand}

-- ---- the edges that are taken

module _ (n : Net) where
  edges-taken : (k : ℕ) (ds : List NetAuto) (ch : Choice) → filter_map edge_taken (zip (enumerate_from k (map (automaton_in n) ds)) ch) ≡ map (edge_meant n) (filter_map edge_at (zip ds ch))
  edges-taken k [] ch = refl
  edges-taken k (a ∷ ds) [] = refl
  edges-taken k (a ∷ ds) (None ∷ ch) = edges-taken (k + 1) ds ch
  edges-taken k (a ∷ ds) (Some y ∷ ch) = same (edges-taken (k + 1) ds ch) a.edges y
    where
      same : filter_map edge_taken (zip (enumerate_from (k + 1) (map (automaton_in n) ds)) ch) ≡ map (edge_meant n) (filter_map edge_at (zip ds ch)) → (xs : List NetEdge) (z : ℕ)
          → cons_option (slice_get (map (edge_meant n) xs) z) (filter_map edge_taken (zip (enumerate_from (k + 1) (map (automaton_in n) ds)) ch))
          ≡ map (edge_meant n) (cons_option (slice_get xs z) (filter_map edge_at (zip ds ch)))
      same h [] z = h
      same h (x ∷ xs) zero = ap (λ ys. edge_meant n x ∷ ys) h
      same h (x ∷ xs) (suc z) = same h xs z

  pub taken-same : (ch : Choice) → taken (system_of_net n) ch ≡ map (edge_meant n) (edges_taken n ch)
  taken-same ch = edges-taken 0 n.autos ch

-- ---- what is sent

-- none of the edges sends a value
abbrev pub SendNone : List NetEdge → Type 0
SendNone [] = Unit {0}
SendNone (x ∷ xs) = (x.sent ≡ None) × SendNone xs

-- one of them at most
abbrev pub SendOne : List NetEdge → Type 0
SendOne [] = Unit {0}
SendOne (x ∷ xs) = ((x.sent ≡ None) × SendOne xs) ⊎ SendNone xs

module _ (n : Net) where
  none-is : (o : Option NetExpr) → is_none o ≡ true → o ≡ None
  none-is None h = refl
  none-is (Some e) h = absurd cc

  -- an edge that does not send has no value to send
  role-none : (p : Role) (c : NetChan) (o : Option NetExpr) → role_stands n p c o ≡ true → (p ≡ sending → ⊥) → o ≡ None
  role-none syncing c o h g = none-is o h
  role-none sending c o h g = absurd (g refl)
  role-none receiving no_net_chan o h g = absurd cc
  role-none receiving void_net_chan o h g = none-is o h
  role-none receiving (net_chan_of t) o h g = none-is o h

  pub edge-at : (a : NetAuto) (y : ℕ) (x : NetEdge) → auto_stands n a ≡ true → slice_get a.edges y ≡ Some x → edge_stands n a x ≡ true
  edge-at a y x h g = all-at (edge_stands n a) a.edges y x (and-right _ _ h) g

  pub edge-role : (a : NetAuto) (x : NetEdge) → edge_stands n a x ≡ true → role_stands n x.role (channel_of n x.event) x.sent ≡ true
  edge-role a x h = and-right _ _ (and-left _ _ (and-left _ _ (and-left _ _ (and-left _ _ h))))

  module _ (e i j : ℕ) where
    sync-no-send : syncing ≡ sending → ⊥
    sync-no-send h = cc

    receive-no-send : receiving ≡ sending → ⊥
    receive-no-send h = cc

    unsent : (a : NetAuto) (y : ℕ) (x : NetEdge) (p : Role) → auto_stands n a ≡ true → slice_get a.edges y ≡ Some x → x.role ≡ p → (p ≡ sending → ⊥) → x.sent ≡ None
    unsent a y x p h g r z = role-none x.role (channel_of n x.event) x.sent (edge-role a x (edge-at a y x h g)) (subst (λ q. q ≡ sending → ⊥) (sym r) z)

    none-sent : (k : ℕ) (ds : List NetAuto) (ch : Choice) → list_all (auto_stands n) ds ≡ true → Parts e i j k ds ch → i < k → SendNone (filter_map edge_at (zip ds ch))
    none-sent k [] ch h p l = tt
    none-sent k (a ∷ ds) [] h p l = absurd p
    none-sent k (a ∷ ds) (None ∷ ch) h p l = none-sent (k + 1) ds ch (and-right _ _ h) p.1 (omega (arith, l))
    none-sent k (a ∷ ds) (Some y ∷ ch) h ((x, g, v, r), ps) l =
        subst (λ o. SendNone (cons_option o (filter_map edge_at (zip ds ch)))) (sym g)
        (by r, none-sent (k + 1) ds ch (and-right _ _ h) ps (omega (arith, l)))
      where
        by : RolePart e i j k a x.role → x.sent ≡ None
        by (inl r) = unsent a y x syncing (and-left _ _ h) g r.0 sync-no-send
        by (inr (inl r)) = let q : k ≡ i = eqb-true k i r.2 in absurd (omega (arith, q, l))
        by (inr (inr r)) = unsent a y x receiving (and-left _ _ h) g r.0 receive-no-send

    one-sent : (k : ℕ) (ds : List NetAuto) (ch : Choice) → list_all (auto_stands n) ds ≡ true → Parts e i j k ds ch → SendOne (filter_map edge_at (zip ds ch))
    one-sent k [] ch h p = tt
    one-sent k (a ∷ ds) [] h p = absurd p
    one-sent k (a ∷ ds) (None ∷ ch) h p = one-sent (k + 1) ds ch (and-right _ _ h) p.1
    one-sent k (a ∷ ds) (Some y ∷ ch) h ((x, g, v, r), ps) =
        subst (λ o. SendOne (cons_option o (filter_map edge_at (zip ds ch)))) (sym g) (by (one-sent (k + 1) ds ch (and-right _ _ h) ps) r)
      where
        by : SendOne (filter_map edge_at (zip ds ch)) → RolePart e i j k a x.role → ((x.sent ≡ None) × SendOne (filter_map edge_at (zip ds ch))) ⊎ SendNone (filter_map edge_at (zip ds ch))
        by rest (inl r) = inl (unsent a y x syncing (and-left _ _ h) g r.0 sync-no-send, rest)
        by rest (inr (inl r)) = let q : k ≡ i = eqb-true k i r.2 in inr (none-sent (k + 1) ds ch (and-right _ _ h) ps (omega (arith, q)))
        by rest (inr (inr r)) = inl (unsent a y x receiving (and-left _ _ h) g r.0 receive-no-send, rest)

-- ---- values

module _ (n : Net) (s : State) where
  abbrev value : NetExpr → ℤ
  value = value_in n s (pos 0)

  sends-none : (xs : List NetEdge) → SendNone xs → filter_map (λ (x : Edge). x.sent s) (map (edge_meant n) xs) ≡ []
  sends-none [] h = refl
  sends-none (x ∷ xs) h = ap (λ o. cons_option (option_map value o) (filter_map (λ (y : Edge). y.sent s) (map (edge_meant n) xs))) h.0 ∙ sends-none xs h.1

  sent-none : (xs : List NetEdge) → SendNone xs → sent_by xs ≡ None
  sent-none [] h = refl
  sent-none (x ∷ xs) h = ap (λ (o : Option NetExpr). elim o [ Some e ↦ Some e | None ↦ sent_by xs ]) h.0 ∙ sent-none xs h.1

  sends-one : (xs : List NetEdge) → SendOne xs → option_to_list (option_map value (sent_by xs)) ≡ filter_map (λ (x : Edge). x.sent s) (map (edge_meant n) xs)
  sends-one [] h = refl
  sends-one (x ∷ xs) (inl h) =
      ap (λ (o : Option NetExpr). option_to_list (option_map value (elim o [ Some e ↦ Some e | None ↦ sent_by xs ]))) h.0
      ∙ sends-one xs h.1
      ∙ sym (ap (λ o. cons_option (option_map value o) (filter_map (λ (y : Edge). y.sent s) (map (edge_meant n) xs))) h.0)
  sends-one (x ∷ xs) (inr h) = by x.sent (sends-none xs h) (sent-none xs h)
    where
      by : (o : Option NetExpr) → filter_map (λ (y : Edge). y.sent s) (map (edge_meant n) xs) ≡ [] → sent_by xs ≡ None
          → option_to_list (option_map value (elim o [ Some e ↦ Some e | None ↦ sent_by xs ])) ≡ cons_option (option_map value o) (filter_map (λ (y : Edge). y.sent s) (map (edge_meant n) xs))
      by None p q = ap (λ o. option_to_list (option_map value o)) q ∙ sym p
      by (Some e) p q = ap (λ zs. value e ∷ zs) (sym p)

  both-assigned : (z : ℤ) (us vs : NetUpdates) → net_assigned_all n s z (both us vs) ≡ net_assigned_all n s z us ++ net_assigned_all n s z vs
  both-assigned z no_net_updates vs = refl
  both-assigned z (net_updates u us) vs =
      ap (λ ws. net_assigned_by n s z u ++ ws) (both-assigned z us vs)
      ∙ sym (append_assoc (net_assigned_by n s z u) (net_assigned_all n s z us) (net_assigned_all n s z vs))

  all-assigned : (z : ℤ) (xs : List NetEdge) → net_assigned_all n s z (writes_of xs) ≡ flat_map (λ (x : Edge). x.assigned s z) (map (edge_meant n) xs)
  all-assigned z [] = refl
  all-assigned z (x ∷ xs) = both-assigned z x.updates (writes_of xs) ∙ ap (λ ws. net_assigned_all n s z x.updates ++ ws) (all-assigned z xs)

  first-sent : (o : Option NetExpr) → (elim (option_map value o) [ None ↦ pos 0 | Some z ↦ z ]) ≡ first_or (pos 0) (option_to_list (option_map value o))
  first-sent None = refl
  first-sent (Some e) = refl

  module _ (net : is_net n ≡ true) (e : ℕ) (ch : Choice) (p : Picked n e ch) where
    pub sent-same : option_to_list (option_map (value_in n s (pos 0)) (sent_by (edges_taken n ch))) ≡ sent (system_of_net n) s ch
    sent-same =
        sends-one (edges_taken n ch) (one-sent n e p.from p.to 0 n.autos ch (autos-stand n net) p.each)
        ∙ sym (ap (filter_map (λ (x : Edge). x.sent s)) (taken-same n ch))

    pub assigned-same : net_assigned_all n s (elim (option_map (value_in n s (pos 0)) (sent_by (edges_taken n ch))) [ None ↦ pos 0 | Some z ↦ z ]) (writes_of (edges_taken n ch)) ≡ assigned (system_of_net n) s ch
    assigned-same =
        ap (λ z. net_assigned_all n s z (writes_of (edges_taken n ch))) (first-sent (sent_by (edges_taken n ch)) ∙ ap (first_or (pos 0)) sent-same)
        ∙ all-assigned (first_or (pos 0) (sent (system_of_net n) s ch)) (edges_taken n ch)
        ∙ sym (ap (flat_map (λ (x : Edge). x.assigned s (first_or (pos 0) (sent (system_of_net n) s ch)))) (taken-same n ch))
