-- A choice leaves all places and values that it neither moves nor assigns.
use Rattle.std.proofs.Common.{◌≡◌, ◌⊎◌, inl, inr, ℕ, zero, suc, ◌<◌, ℤ, pos, Bool, true, false, List, [], ◌∷◌, ◌++◌, length, map, Some, None, refl, sym, ap, subst, ◌∙◌, arith}
use Rattle.std.specs.Prelude.{option_map, slice_get, slice_index_or, slice_set, unwrap_or, if◌then◌else◌}
use Rattle.std.specs.List.{Contains}
use Rattle.std.proofs.lemmas.Option.{get_or_from_slice_get}
use Rattle.std.proofs.lemmas.List.Elements.{Contains-append_cases, Contains-append_left, Contains-append_right}
use Rattle.cif_system.specs.System.{IsState, State}
use Rattle.cif_system.specs.Step as step
use Rattle.cif_system.specs.Step.{after, new_values}
use Rattle.cif_net_expr.specs.Tree.{NetUpdate, net_set, net_choose, NetUpdates, no_net_updates, net_updates, NetUpdateBranches, no_net_update_branches, net_update_branches}
use Rattle.cif_net_model.specs.Net.{NetAuto}
use Rattle.cif_net_model.specs.Listing.{NetChoice, NetMove, full_choice}
use Rattle.cif_net_model.specs.Meaning.{net_assigned_all, net_assigned_by, net_assigned_in, system_of_net, value_in}
use Rattle.cif_net_model.specs.Value.{is_true}
use Rattle.cif_net.specs.View.{choice_tree, net_tree}
use Rattle.cif_net.specs.declared.guarded.Guarded.{Guarded}
use Rattle.cif_net.specs.declared.listing.Choice.{Choice}
use Rattle.cif_net_laws.proofs.Steps.{guarded-steps}
use Rattle.cif_net_model.specs.Safe.{value_at}
use Rattle.cif_eval.specs.Choices.{choice_at, system_of}
use Rattle.cif_eval.specs.Within.{within}
use Rattle.cif_eval.specs.Writes.{assigned_all, assigned_by, assigned_in, end_of, moved, moved_to, nothing, written}
use Rattle.cif_eval.proofs.Chosen.{after-written, chosen-of}
use Rattle.cif_eval.proofs.Reading.{at_mapped}
use Rattle.cif_eval.proofs.Stored.{none_stored, stored_first}
use Rattle.cif_sim.specs.Stays.{SameBut, StaysBut, movers, targets_all, targets_by, targets_in}
use Rattle.cif_sim.proofs.Listed.{all_of, event-at}

-- ---- items of lists

first-item : (x : ℕ) (xs : List ℕ) (k : ℕ) → x ≡ k → Contains (x ∷ xs) k
first-item x xs k h = (0, omega arith, h)

later-item : (x : ℕ) (xs : List ℕ) (k : ℕ) → Contains xs k → Contains (x ∷ xs) k
later-item x xs k h = (suc h.0, (let l = h.1 in omega (arith, l)), h.2)

other-set : {A : Type 0} (xs : List A) (i k : ℕ) (y : A) → (i ≡ k → ⊥) → slice_get (slice_set xs i y) k ≡ slice_get xs k
other-set [] i k y h = refl
other-set (x ∷ xs) zero zero y h = absurd (h refl)
other-set (x ∷ xs) zero (suc k) y h = refl
other-set (x ∷ xs) (suc i) zero y h = refl
other-set (x ∷ xs) (suc i) (suc k) y h = other-set xs i k y (λ e. h (ap suc e))

-- ---- places

moved-stays : (autos : List NetAuto) (ms : List NetMove) (xs : List ℕ) → SameBut (movers ms) xs (moved autos ms xs)
moved-stays autos [] xs k h = refl
moved-stays autos (m ∷ ms) xs k h =
    let others : Contains (movers ms) k → ⊥ = λ c. h (later-item m.auto (movers ms) k c) in
    elim (end_of autos m) as (λ o. slice_get xs k ≡ slice_get (moved autos ms (moved_to xs m.auto o)) k) [
      | None ↦ moved-stays autos ms xs k others
      | Some p ↦ sym (other-set xs m.auto k p (λ e. h (first-item m.auto (movers ms) k e))) ∙ moved-stays autos ms (slice_set xs m.auto p) k others
    ]

-- ---- values

abbrev keys : List (ℕ × ℤ) → List ℕ
keys ws = map (λ (w : ℕ × ℤ). w.0) ws

stored-stays : (ws : List (ℕ × ℤ)) (zs : List ℤ) → SameBut (keys ws) zs (new_values ws 0 zs)
stored-stays [] zs k h = ap (λ xs. slice_get xs k) (sym (none_stored 0 zs))
stored-stays (w ∷ ws) zs k h =
    stored-stays ws zs k (λ c. h (later-item w.0 (keys ws) k c))
    ∙ sym (other-set (new_values ws 0 zs) w.0 k w.1 (λ e. h (first-item w.0 (keys ws) k e)))
    ∙ ap (λ xs. slice_get xs k) (sym (stored_first w ws zs))

keys-append : (vs ws : List (ℕ × ℤ)) → keys (vs ++ ws) ≡ keys vs ++ keys ws
keys-append [] ws = refl
keys-append (v ∷ vs) ws = ap (λ ks. v.0 ∷ ks) (keys-append vs ws)

either : (vs ws : List (ℕ × ℤ)) (k : ℕ) → Contains (keys (vs ++ ws)) k → Contains (keys vs) k ⊎ Contains (keys ws) k
either vs ws k h = Contains-append_cases (keys vs) (keys ws) k (subst (λ ks. Contains ks k) (keys-append vs ws) h)

module _ (s : State) (r : ℤ) (k : ℕ) where
  of-branch : (b : Bool) (ws vs other : List (ℕ × ℤ)) (ts us : List ℕ) → (Contains (keys ws) k → Contains ts k) → (Contains (keys vs) k → Contains us k ⊎ Contains (keys other) k)
      → Contains (keys (if b then ws else vs)) k → Contains (ts ++ us) k ⊎ Contains (keys other) k
  of-branch true ws vs other ts us f g h = inl (Contains-append_left ts us k (f h))
  of-branch false ws vs other ts us f g h =
      elim (g h) [
        | inl i ↦ inl (Contains-append_right ts us k i)
        | inr o ↦ inr o
      ]

  -- a variable that is assigned is one of those that may be
  mutual
    all-targets : (us : NetUpdates) → Contains (keys (assigned_all s r us)) k → Contains (targets_all us) k
    all-targets no_net_updates h = h
    all-targets (net_updates u us) h =
        elim (either (assigned_by s r u) (assigned_all s r us) k h) [
          | inl g ↦ Contains-append_left (targets_by u) (targets_all us) k (by-targets u g)
          | inr g ↦ Contains-append_right (targets_by u) (targets_all us) k (all-targets us g)
        ]

    by-targets : (u : NetUpdate) → Contains (keys (assigned_by s r u)) k → Contains (targets_by u) k
    by-targets (net_set v e) h = h
    by-targets (net_choose bs us) h =
        elim (in-targets (assigned_all s r us) bs h) [
          | inl g ↦ Contains-append_left (targets_in bs) (targets_all us) k g
          | inr g ↦ Contains-append_right (targets_in bs) (targets_all us) k (all-targets us g)
        ]

    in-targets : (other : List (ℕ × ℤ)) (bs : NetUpdateBranches) → Contains (keys (net_assigned_in nothing s r other bs)) k → Contains (targets_in bs) k ⊎ Contains (keys other) k
    in-targets other no_net_update_branches h = inr h
    in-targets other (net_update_branches c us bs) h =
        of-branch (is_true (value_in nothing s r c)) (assigned_all s r us) (net_assigned_in nothing s r other bs) other (targets_all us) (targets_in bs) (λ g. all-targets us g) (λ g. in-targets other bs g) h

-- ---- the state after a choice

written-stays : (autos : List NetAuto) (c : NetChoice) (r : ℤ) (s : State) → StaysBut c s (written autos c.moves (assigned_all s r c.writes) s)
written-stays autos c r s = record {
  places = moved-stays autos c.moves s.locs;
  values = λ k h. stored-stays (assigned_all s r c.writes) s.vals k (λ a. h (all-targets s r k c.writes a));
}

module _ (g : Guarded) (k : ℕ) (c : Choice) (at : slice_get g.choices k ≡ Some c) (s : State) (valid : IsState (system_of g) s) where
  pub choice-stays : StaysBut (choice_tree c) s (after (system_of g) s (choice_at g k).1)
  choice-stays =
      let n = net_tree g.plain.net in
      let ch = choice_tree c in
      let stands = chosen-of n (map choice_tree g.choices) g.plain.plain (guarded-steps g) k ch (at_mapped choice_tree g.choices k ∙ ap (option_map choice_tree) at) s valid in
      subst (StaysBut ch s)
      (after-written n ch s stands ∙ ap (λ (p : ℕ × step.Choice). after (system_of_net n) s p.1) (sym (get_or_from_slice_get (all_of g) k (full_choice n ch) (0, []) (event-at g k c at))))
      (written-stays n.autos ch (unwrap_or (option_map (value_at (within s (pos 0))) ch.sent) (pos 0)) s)
