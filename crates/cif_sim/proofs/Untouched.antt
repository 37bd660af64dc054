-- What a choice neither moves nor assigns stays as it is.
use Rattle.std.proofs.Common.{◌≡◌, ℕ, zero, suc, ◌+◌, ◌≢◌, ℤ, pos, Bool, true, false, List, [], ◌∷◌, ◌++◌, Option, Some, None, cond, find, nat_eq, refl, sym, ap, ◌∙◌, arith, get_or-set_other, if◌then◌else◌}
use Rattle.std.specs.Prelude.{option_map, option_and_then, slice_get, slice_index_or, unwrap_or}
use Rattle.std.specs.List.{AllByRecursion}
use Rattle.std.proofs.lemmas.Bool.{ne_eqb}
use Rattle.cif_system.specs.System.{State}
use Rattle.cif_system.specs.Step.{new_value, new_values}
use Rattle.cif_net_expr.specs.Tree.{NetUpdate, net_set, net_choose, NetUpdates, no_net_updates, net_updates, NetUpdateBranches, no_net_update_branches, net_update_branches}
use Rattle.cif_net_model.specs.Listing.{NetChoice, NetMove, edge_at}
use Rattle.cif_net_model.specs.Meaning.{net_assigned_by, net_assigned_in, value_in}
use Rattle.cif_net_model.specs.Net.{NetAuto, NetEdge}
use Rattle.cif_net_model.specs.Reads.{Read, a_var, an_input, an_alg, a_place, the_received}
use Rattle.cif_net_model.specs.Value.{is_true}
use Rattle.cif_net_model.proofs.ValueLaws.{all-parts}
use Rattle.cif_eval.specs.Writes.{assigned_all, end_of, moved, moved_to, nothing, written}
use Rattle.cif_sim.specs.Named.{SameAt}

-- the places that moves change
abbrev pub moved_name : ℕ → Option ℕ → List Read → List Read
moved_name auto None names = names
moved_name auto (Some edge) names = a_place auto ∷ names

abbrev pub moved_names : List NetMove → List Read
moved_names [] = []
moved_names (m ∷ ms) = moved_name m.auto m.edge (moved_names ms)

-- the variables that updates assign, in any branch
abbrev mutual
  pub targets : NetUpdates → List Read
  targets no_net_updates = []
  targets (net_updates u us) = targets_by u ++ targets us

  pub targets_by : NetUpdate → List Read
  targets_by (net_set v e) = a_var v ∷ []
  targets_by (net_choose bs us) = targets_in bs ++ targets us

  pub targets_in : NetUpdateBranches → List Read
  targets_in no_net_update_branches = []
  targets_in (net_update_branches c us bs) = targets us ++ targets_in bs

abbrev pub touched : NetChoice → List Read
touched c = moved_names c.moves ++ targets c.writes

-- none of them is x
abbrev pub Untouched : Read → List Read → Type 0
Untouched x names = AllByRecursion (λ y. y ≡ x → ⊥) names

-- ---- places

module _ (autos : List NetAuto) (k : ℕ) where
  no-end : (auto : ℕ) → end_of autos (record { auto = auto; edge = None }) ≡ None
  no-end auto = go (slice_get autos auto)
    where
      go : (o : Option NetAuto) → option_map (λ (x : NetEdge). x.to) (option_and_then (λ (a : NetAuto). edge_at (a, None)) o) ≡ None
      go None = refl
      go (Some a) = refl

  one-stays : (auto : ℕ) (edge : Option ℕ) (rest : List Read) (xs : List ℕ) → Untouched (a_place k) (moved_name auto edge rest)
      → (slice_index_or xs k 0 ≡ slice_index_or (moved_to xs auto (end_of autos (record { auto = auto; edge = edge }))) k 0) × Untouched (a_place k) rest
  one-stays auto None rest xs h = (ap (λ o. slice_index_or (moved_to xs auto o) k 0) (sym (no-end auto)), h)
  one-stays auto (Some edge) rest xs h = (go (end_of autos (record { auto = auto; edge = Some edge })), h.1)
    where
      other : k ≢ auto
      other same = h.0 (ap a_place (sym same))

      go : (o : Option ℕ) → slice_index_or xs k 0 ≡ slice_index_or (moved_to xs auto o) k 0
      go None = refl
      go (Some p) = sym (get_or-set_other xs auto k p 0 other)

  places-stay : (ms : List NetMove) (xs : List ℕ) → Untouched (a_place k) (moved_names ms) → slice_index_or xs k 0 ≡ slice_index_or (moved autos ms xs) k 0
  places-stay [] xs h = refl
  places-stay (m ∷ ms) xs h =
      let one = one-stays m.auto m.edge (moved_names ms) xs h in
      one.0 ∙ places-stay ms (moved_to xs m.auto (end_of autos m)) one.1

-- ---- values

module _ (k : ℕ) where
  abbrev IsFree : ℕ × ℤ → Type 0
  IsFree w = nat_eq w.0 k ≡ false

  value-stays : (ws : List (ℕ × ℤ)) (z : ℤ) → AllByRecursion IsFree ws → new_value ws k z ≡ z
  value-stays [] z h = refl
  value-stays (w ∷ ws) z h = ap (λ b. unwrap_or (option_map (λ (x : ℕ × ℤ). x.1) (cond b (Some w) (find (λ (x : ℕ × ℤ). nat_eq x.0 k) ws))) z) h.0 ∙ value-stays ws z h.1

  values-stay : (ws : List (ℕ × ℤ)) (i j : ℕ) (xs : List ℤ) → i + j ≡ k → AllByRecursion IsFree ws → slice_index_or xs j (pos 0) ≡ slice_index_or (new_values ws i xs) j (pos 0)
  values-stay ws i j [] at h = refl
  values-stay ws i zero (x ∷ xs) at h = sym (ap (λ v. new_value ws v x) (omega (arith, at)) ∙ value-stays ws x h)
  values-stay ws i (suc j) (x ∷ xs) at h = values-stay ws (suc i) j xs (omega (arith, at)) h

  both-free : (vs ws : List (ℕ × ℤ)) → AllByRecursion IsFree vs → AllByRecursion IsFree ws → AllByRecursion IsFree (vs ++ ws)
  both-free [] ws f g = g
  both-free (v ∷ vs) ws f g = (f.0, both-free vs ws f.1 g)

  chosen-free : (b : Bool) (vs ws : List (ℕ × ℤ)) → AllByRecursion IsFree vs → AllByRecursion IsFree ws → AllByRecursion IsFree (if b then vs else ws)
  chosen-free true vs ws f g = f
  chosen-free false vs ws f g = g

  module _ (s : State) (r : ℤ) where
    mutual
      all-free : (us : NetUpdates) → Untouched (a_var k) (targets us) → AllByRecursion IsFree (assigned_all s r us)
      all-free no_net_updates h = tt
      all-free (net_updates u us) h =
          let q = all-parts (λ y. y ≡ a_var k → ⊥) (targets_by u) (targets us) h in
          both-free (net_assigned_by nothing s r u) (assigned_all s r us) (one-free u q.0) (all-free us q.1)

      one-free : (u : NetUpdate) → Untouched (a_var k) (targets_by u) → AllByRecursion IsFree (net_assigned_by nothing s r u)
      one-free (net_set v e) h = (ne_eqb v k (λ same. h.0 (ap a_var same)), tt)
      one-free (net_choose bs us) h =
          let q = all-parts (λ y. y ≡ a_var k → ⊥) (targets_in bs) (targets us) h in
          branches-free (assigned_all s r us) bs q.0 (all-free us q.1)

      branches-free : (other : List (ℕ × ℤ)) (bs : NetUpdateBranches) → Untouched (a_var k) (targets_in bs) → AllByRecursion IsFree other → AllByRecursion IsFree (net_assigned_in nothing s r other bs)
      branches-free other no_net_update_branches h free = free
      branches-free other (net_update_branches c us bs) h free =
          let q = all-parts (λ y. y ≡ a_var k → ⊥) (targets us) (targets_in bs) h in
          chosen-free (is_true (value_in nothing s r c)) (assigned_all s r us) (net_assigned_in nothing s r other bs) (all-free us q.0) (branches-free other bs q.1 free)

-- ---- a choice

pub written-same : (autos : List NetAuto) (c : NetChoice) (s : State) (r : ℤ) (x : Read) → Untouched x (touched c) → SameAt s (written autos c.moves (assigned_all s r c.writes) s) x
written-same autos c s r (a_var k) h = values-stay k (assigned_all s r c.writes) 0 k s.vals (omega arith) (all-free k s r c.writes (all-parts (λ y. y ≡ a_var k → ⊥) (moved_names c.moves) (targets c.writes) h).1)
written-same autos c s r (an_input k) h = refl
written-same autos c s r (an_alg k) h = tt
written-same autos c s r (a_place k) h = places-stay autos k c.moves s.locs (all-parts (λ y. y ≡ a_place k → ⊥) (moved_names c.moves) (targets c.writes) h).0
written-same autos c s r the_received h = tt
