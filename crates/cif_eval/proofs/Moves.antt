-- What the moves and pairs of a choice come to: the state after it.
use Rattle.std.proofs.Common.{◌≡◌, ℕ, zero, suc, ◌+◌, ◌<◌, ◌≤◌, ℤ, pos, Bool, true, false, List, [], ◌∷◌, ◌++◌, length, map, filter_map, zip, Option, Some, None, option_and_then, refl, sym, ap, subst, ◌∙◌, arith, append_assoc, length-append, length-set}
use Rattle.std.specs.Prelude.{option_map, slice_get, slice_index_or, slice_set, if◌then◌else◌}
use Rattle.std.specs.List.{AllZip, cons_option, enumerate_from, list_all, range_with_len}
use Rattle.std.proofs.lemmas.List.{set_at}
use Rattle.cif_system.specs.System.{AllFit, Automaton, IsState, State, Stored, in_range}
use Rattle.cif_system.specs.Step.{Choice, after, assigned, fits_variable, new_place, new_value, new_values}
use Rattle.cif_system.proofs.Lists.{map-length, none-some, some-same}
use Rattle.cif_system.proofs.Picks.{and-left, and-right, map-at}
use Rattle.cif_net_model.specs.Net.{NetAuto, NetEdge, Net}
use Rattle.cif_net_model.specs.Facts.{is_net}
use Rattle.cif_net_model.specs.Listing.{NetChoice, NetMove, edge_at, edge_in, full_choice, move_if, syncs_on}
use Rattle.cif_net_model.specs.Meaning.{automaton_in, edge_meant, system_of_net}
use Rattle.cif_net_model.specs.Table.{MovesParties}
use Rattle.cif_eval.specs.Writes.{end_of, moved, moved_to, written}
use Rattle.cif_eval.proofs.Facts.{ends-within}
use Rattle.cif_eval.proofs.Lists.{set-alike, set-fits, zip-length}
use Rattle.cif_eval.proofs.Stored.{none_stored, stored_first}

-- ---- the places after the moves

module _ (n : Net) (s : State) (e : ℕ) where
  -- where an automaton is that was in place l
  abbrev place_then : ℕ → Option NetEdge → ℕ
  place_then l None = l
  place_then l (Some x) = x.to

  one-place : (i l : ℕ) (a : NetAuto) (o : Option ℕ) → slice_index_or s.locs i 0 ≡ l → new_place s ((i, automaton_in n a), o) ≡ place_then l (edge_at (a, o))
  one-place i l a None h = h
  one-place i l a (Some j) h = go a.edges j
    where
      go : (xs : List NetEdge) (j : ℕ) → new_place s ((i, record (automaton_in n a) { edges = map (edge_meant n) xs }), Some j) ≡ place_then l (slice_get xs j)
      go [] j = h
      go (x ∷ xs) zero = refl
      go (x ∷ xs) (suc j) = go xs j

  end-at : (i : ℕ) (a : NetAuto) (o : Option ℕ) → slice_get n.autos i ≡ Some a → end_of n.autos (record { auto = i; edge = o }) ≡ option_map (λ (x : NetEdge). x.to) (edge_at (a, o))
  end-at i a o at = ap (λ (r : Option NetAuto). option_map (λ (x : NetEdge). x.to) (option_and_then (λ (b : NetAuto). edge_at (b, o)) r)) at

  one-move : (done ls : List ℕ) (i l : ℕ) (o : Option NetEdge) → length done ≡ i → moved_to (done ++ l ∷ ls) i (option_map (λ (x : NetEdge). x.to) o) ≡ done ++ place_then l o ∷ ls
  one-move done ls i l None h = refl
  one-move done ls i l (Some x) h = set_at done l ls x.to i h

  -- the first automaton of those that are left
  one-moved : (i l : ℕ) (a : NetAuto) (o : Option ℕ) (ms : List NetMove) (done ls : List ℕ) → slice_get n.autos i ≡ Some a → length done ≡ i
      → moved n.autos (cons_option (move_if e ((i, a), o)) ms) (done ++ l ∷ ls) ≡ moved n.autos ms (done ++ place_then l (edge_at (a, o)) ∷ ls)
  one-moved i l a (Some j) ms done ls at long = ap (moved n.autos ms) (ap (moved_to (done ++ l ∷ ls) i) (end-at i a (Some j) at) ∙ one-move done ls i l (edge_at (a, Some j)) long)
  one-moved i l a None ms done ls at long = go (syncs_on e a)
    where
      go : (b : Bool) → moved n.autos (cons_option (if b then Some (record { auto = i; edge = None }) else None) ms) (done ++ l ∷ ls) ≡ moved n.autos ms (done ++ l ∷ ls)
      go true = ap (λ r. moved n.autos ms (moved_to (done ++ l ∷ ls) i r)) (end-at i a None at)
      go false = refl

  moves-from : (i : ℕ) (autos : List NetAuto) (ch : Choice) (done ls : List ℕ) → ((j : ℕ) → slice_get n.autos (i + j) ≡ slice_get autos j) → ((j : ℕ) → slice_index_or s.locs (i + j) 0 ≡ slice_index_or ls j 0)
      → length ch ≡ length autos → length ls ≡ length autos → length done ≡ i
      → moved n.autos (filter_map (move_if e) (zip (enumerate_from i autos) ch)) (done ++ ls) ≡ done ++ map (new_place s) (zip (enumerate_from i (map (automaton_in n) autos)) ch)
  moves-from i [] [] done [] at places long wide front = refl
  moves-from i [] [] done (l ∷ ls) at places long wide front = absurd (omega (arith, wide))
  moves-from i [] (o ∷ ch) done ls at places long wide front = absurd (omega (arith, long))
  moves-from i (a ∷ autos) [] done ls at places long wide front = absurd (omega (arith, long))
  moves-from i (a ∷ autos) (o ∷ ch) done [] at places long wide front = absurd (omega (arith, wide))
  moves-from i (a ∷ autos) (o ∷ ch) done (l ∷ ls) at places long wide front =
      let at_i : slice_get n.autos i ≡ Some a = ap (slice_get n.autos) (omega arith) ∙ at 0 in
      let place : slice_index_or s.locs i 0 ≡ l = ap (λ j. slice_index_or s.locs j 0) (omega arith) ∙ places 0 in
      let next : ℕ = place_then l (edge_at (a, o)) in
      let rest : List NetMove = filter_map (move_if e) (zip (enumerate_from (i + 1) autos) ch) in
      let behind : List ℕ = map (new_place s) (zip (enumerate_from (i + 1) (map (automaton_in n) autos)) ch) in
      let size : length (done ++ next ∷ []) ≡ i + 1 = length-append done (next ∷ []) ∙ ap (λ k. k + 1) front in
      one-moved i l a o rest done ls at_i front
      ∙ ap (moved n.autos rest) (sym (append_assoc done (next ∷ []) ls))
      ∙ moves-from (i + 1) autos ch (done ++ next ∷ []) ls (λ j. ap (slice_get n.autos) (omega arith) ∙ at (suc j)) (λ j. ap (λ q. slice_index_or s.locs q 0) (omega arith) ∙ places (suc j))
      (omega (arith, long)) (omega (arith, wide)) size
      ∙ append_assoc done (next ∷ []) behind
      ∙ ap (λ p. done ++ p ∷ behind) (sym (one-place i l a o place))

range-length : (k m : ℕ) → length (range_with_len k m) ≡ m
range-length k zero = refl
range-length k (suc m) = ap suc (range-length (k + 1) m)

pub locs-length : (n : Net) (s : State) → IsState (system_of_net n) s → length s.locs ≡ length n.autos
locs-length n s state = sym (zip-length (λ (a : Automaton) l. suc l ≤ a.places) (map (automaton_in n) n.autos) s.locs state.places) ∙ map-length (automaton_in n) n.autos

-- the state after a choice is what its moves and its pairs write
pub after-is : (n : Net) (c : NetChoice) (s : State) → IsState (system_of_net n) s → MovesParties n c
    → written n.autos c.moves (assigned (system_of_net n) s (full_choice n c).1) s ≡ after (system_of_net n) s (full_choice n c).1
after-is n c s state parties =
    let ch : Choice = (full_choice n c).1 in
    let long : length ch ≡ length n.autos = map-length (edge_in c.moves) (range_with_len 0 (length n.autos)) ∙ range-length 0 (length n.autos) in
    ap (λ ls. record { locs = ls; vals = new_values (assigned (system_of_net n) s ch) 0 s.vals; ins = s.ins })
    (ap (λ ms. moved n.autos ms s.locs) parties
    ∙ moves-from n s c.event 0 n.autos ch [] s.locs (λ j. ap (slice_get n.autos) (omega arith)) (λ j. ap (λ q. slice_index_or s.locs q 0) (omega arith)) long (locs-length n s state) refl)

-- ---- what is written to two states that are alike at a place

pub moved-alike : (autos : List NetAuto) (ms : List NetMove) (xs ys : List ℕ) (k : ℕ) → length xs ≡ length ys → slice_index_or xs k 0 ≡ slice_index_or ys k 0
    → slice_index_or (moved autos ms xs) k 0 ≡ slice_index_or (moved autos ms ys) k 0
moved-alike autos [] xs ys k long same = same
moved-alike autos (m ∷ ms) xs ys k long same =
    elim (end_of autos m) as (λ o. slice_index_or (moved autos ms (moved_to xs m.auto o)) k 0 ≡ slice_index_or (moved autos ms (moved_to ys m.auto o)) k 0) [
      | None ↦ moved-alike autos ms xs ys k long same
      | Some p ↦ moved-alike autos ms (slice_set xs m.auto p) (slice_set ys m.auto p) k (length-set xs m.auto p ∙ long ∙ sym (length-set ys m.auto p)) (set-alike 0 xs ys m.auto k p long same)
    ]

pub values-alike : (ws : List (ℕ × ℤ)) (i : ℕ) (xs ys : List ℤ) (k : ℕ) → length xs ≡ length ys → slice_index_or xs k (pos 0) ≡ slice_index_or ys k (pos 0)
    → slice_index_or (new_values ws i xs) k (pos 0) ≡ slice_index_or (new_values ws i ys) k (pos 0)
values-alike ws i [] [] k long same = refl
values-alike ws i [] (y ∷ ys) k long same = absurd (omega (arith, long))
values-alike ws i (x ∷ xs) [] k long same = absurd (omega (arith, long))
values-alike ws i (x ∷ xs) (y ∷ ys) zero long same = ap (new_value ws i) same
values-alike ws i (x ∷ xs) (y ∷ ys) (suc k) long same = values-alike ws (suc i) xs ys k (omega (arith, long)) same

-- ---- what is written to a state leaves a state

module _ (n : Net) (net : is_net n ≡ true) where
  inside : (a : NetAuto) (o : Option ℕ) (p : ℕ) → ((j : ℕ) (x : NetEdge) → slice_get a.edges j ≡ Some x → x.to < length a.locs) → option_map (λ (x : NetEdge). x.to) (edge_at (a, o)) ≡ Some p → p < length a.locs
  inside a None p ends h = absurd (none-some p h)
  inside a (Some j) p ends h = go (slice_get a.edges j) refl h
    where
      go : (o : Option NetEdge) → slice_get a.edges j ≡ o → option_map (λ (x : NetEdge). x.to) o ≡ Some p → p < length a.locs
      go None e h = absurd (none-some p h)
      go (Some x) e h = subst (λ q. q < length a.locs) (some-same x.to p h) (ends j x e)

  abbrev Inside : List ℕ → Type 0
  Inside ls = AllZip (λ (a : Automaton) l. suc l ≤ a.places) (map (automaton_in n) n.autos) ls

  move-fits : (m : NetMove) (ls : List ℕ) (o : Option ℕ) → end_of n.autos m ≡ o → Inside ls → Inside (moved_to ls m.auto o)
  move-fits m ls None h all = all
  move-fits m ls (Some p) h all =
      set-fits (λ (a : Automaton) l. suc l ≤ a.places) (map (automaton_in n) n.autos) ls m.auto p all
      (λ b at.
      let w = map-at (automaton_in n) n.autos m.auto b at in
      let bound : p < length w.0.locs = inside w.0 m.edge p (ends-within n net m.auto w.0 w.1) (sym (ap (λ (r : Option NetAuto). option_map (λ (x : NetEdge). x.to) (option_and_then (λ (d : NetAuto). edge_at (d, m.edge)) r)) w.1) ∙ h) in
      subst (λ (d : Automaton). suc p ≤ d.places) (sym w.2) bound)

  moved-fits : (ms : List NetMove) (ls : List ℕ) → Inside ls → Inside (moved n.autos ms ls)
  moved-fits [] ls h = h
  moved-fits (m ∷ ms) ls h = moved-fits ms (moved_to ls m.auto (end_of n.autos m)) (move-fits m ls (end_of n.autos m) refl h)

  values-fit : (vars : List Stored) (ws : List (ℕ × ℤ)) (zs : List ℤ) → list_all (λ (w : ℕ × ℤ). fits_variable (slice_get vars w.0) w.1) ws ≡ true → AllFit vars zs → AllFit vars (new_values ws 0 zs)
  values-fit vars [] zs h all = subst (AllFit vars) (sym (none_stored 0 zs)) all
  values-fit vars (w ∷ ws) zs h all =
      subst (AllFit vars) (sym (stored_first w ws zs))
      (set-fits (λ (v : Stored) z. in_range v.range z ≡ true) vars (new_values ws 0 zs) w.0 w.1 (values-fit vars ws zs (and-right _ _ h) all) (λ d at. subst (λ o. fits_variable o w.1 ≡ true) at (and-left _ _ h)))

  pub written-state : (ms : List NetMove) (ws : List (ℕ × ℤ)) (s : State) → list_all (λ (w : ℕ × ℤ). fits_variable (slice_get (system_of_net n).variables w.0) w.1) ws ≡ true → IsState (system_of_net n) s
      → IsState (system_of_net n) (written n.autos ms ws s)
  written-state ms ws s fit h = record { places = moved-fits ms s.locs h.places; values = values-fit (system_of_net n).variables ws s.vals fit h.values; inputs = h.inputs }
