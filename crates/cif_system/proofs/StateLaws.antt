-- A step leads from a state to a state.
use Rattle.std.proofs.Common.{◌≡◌, ℕ, suc, ◌+◌, ◌<◌, ◌≤◌, ℤ, Bool, true, false, cond, List, [], ◌∷◌, length, map, Option, Some, None, find, refl, sym, ◌∙◌, ap, subst, arith}
use Rattle.std.specs.Prelude.{unwrap_or, option_map, slice_get, slice_index_or, nat_eq, zip, IsTrue}
use Rattle.std.specs.List.{list_all, enumerate_from, AllZip}
use Rattle.std.proofs.lemmas.Bool.{eqb-true}
use Rattle.cif_system.specs.System.{AllFit, Edge, Automaton, EndsInside, IsState, State, Stored, System, in_range}
use Rattle.cif_system.specs.Step.{Choice, Step, edge_taken, assigned, fits_variable, new_place, new_value, new_values, place_of}
use Rattle.cif_system.proofs.Lists.{some-same, none-some, find-passes}
use Rattle.cif_system.proofs.Picks.{and-left, and-right}
use Rattle.cif_system.proofs.ChoiceLaws.{agrees-parts, makes_step-agrees, Agreed}

-- what is found passes a test that all pass
find-all : {A : Type 0} → (p q : A → Bool) → (xs : List A) → (y : A) → list_all p xs ≡ true → find q xs ≡ Some y → p y ≡ true
find-all p q [] y h g = absurd (none-some y g)
find-all p q (x ∷ xs) y h g =
    (elim (q x) as (λ b. cond b (Some x) (find q xs) ≡ Some y → p y ≡ true) [
      | true ↦ λ i. subst (λ z. p z ≡ true) (some-same x y i) (and-left (p x) (list_all p xs) h)
      | false ↦ λ i. find-all p q xs y (and-right (p x) (list_all p xs) h) i
    ]) g

-- an assigned value fits its variable
new_value-fits : (m : System) (ws : List (ℕ × ℤ)) (v : ℕ) (d : Stored) (z : ℤ) → slice_get m.variables v ≡ Some d
    → list_all (λ w. fits_variable (slice_get m.variables w.0) w.1) ws ≡ true → IsTrue (in_range d.range z) → IsTrue (in_range d.range (new_value ws v z))
new_value-fits m ws v d z is all old =
    (elim (find (λ w. nat_eq w.0 v) ws) as (λ o. find (λ w. nat_eq w.0 v) ws ≡ o → IsTrue (in_range d.range (unwrap_or (option_map (λ w. w.1) o) z))) [
      | None ↦ λ h. old
      | Some w ↦ λ h.
          let fits : fits_variable (slice_get m.variables w.0) w.1 ≡ true = find-all (λ u. fits_variable (slice_get m.variables u.0) u.1) (λ u. nat_eq u.0 v) ws w all h in
          let number : w.0 ≡ v = eqb-true w.0 v (find-passes (λ u. nat_eq u.0 v) ws w h) in
          subst (λ o. fits_variable o w.1 ≡ true) (ap (slice_get m.variables) number ∙ is) fits
    ]) refl

-- from the k-th variable on
new_values-fit : (m : System) (ws : List (ℕ × ℤ)) → list_all (λ w. fits_variable (slice_get m.variables w.0) w.1) ws ≡ true
    → (k : ℕ) (ds : List Stored) (zs : List ℤ) → ((j : ℕ) → slice_get m.variables (k + j) ≡ slice_get ds j) → AllFit ds zs → AllFit ds (new_values ws k zs)
new_values-fit m ws all k [] [] same fit = tt
new_values-fit m ws all k [] (z ∷ zs) same fit = absurd fit
new_values-fit m ws all k (d ∷ ds) [] same fit = absurd fit
new_values-fit m ws all k (d ∷ ds) (z ∷ zs) same fit = (
  new_value-fits m ws k d z (ap (slice_get m.variables) (omega arith) ∙ same 0) all fit.0,
  new_values-fit m ws all (suc k) ds zs (λ j. ap (slice_get m.variables) (omega arith) ∙ same (suc j)) fit.1,
)

-- the places after a choice
new_places-inside : (m : System) (s : State) → EndsInside m → (k : ℕ) (xs : List Automaton) (ls : List ℕ) (ch : Choice)
    → ((j : ℕ) → slice_get m.automata (k + j) ≡ slice_get xs j) → ((j : ℕ) → slice_index_or s.locs (k + j) 0 ≡ slice_index_or ls j 0)
    → length ch ≡ length xs → AllZip (λ (a : Automaton) l. suc l ≤ a.places) xs ls
    → AllZip (λ (a : Automaton) l. suc l ≤ a.places) xs (map (new_place s) (zip (enumerate_from k xs) ch))
new_places-inside m s ends k [] ls ch same at len old = tt
new_places-inside m s ends k (x ∷ xs) ls [] same at len old = absurd (omega (arith, len))
new_places-inside m s ends k (x ∷ xs) [] (c ∷ ch) same at len old = absurd old
new_places-inside m s ends k (x ∷ xs) (l ∷ ls) (c ∷ ch) same at len old = (
  (elim (edge_taken ((k, x), c)) as (λ o. edge_taken ((k, x), c) ≡ o → suc (elim o [ None ↦ place_of s (k, x) | Some y ↦ y.to ]) ≤ x.places) [
    | None ↦ λ h. subst (λ i. suc i ≤ x.places) (sym (at 0) ∙ ap (λ j. slice_index_or s.locs j 0) (omega arith)) old.0
    | Some y ↦ λ h. inside c y h
  ]) refl,
  new_places-inside m s ends (k + 1) xs ls ch (λ j. ap (slice_get m.automata) (omega arith) ∙ same (suc j)) (λ j. ap (λ i. slice_index_or s.locs i 0) (omega arith) ∙ at (suc j)) (omega (arith, len)) old.1,
)
  where
    inside : (c : Option ℕ) (y : Edge) → edge_taken ((k, x), c) ≡ Some y → y.to < x.places
    inside None y h = absurd (none-some y h)
    inside (Some j) y h = ends k x (ap (slice_get m.automata) (omega arith) ∙ same 0) j y h

-- a step leads to a state
pub step-state : (m : System) → EndsInside m → (s : State) (e : ℕ) (next : State) → IsState m s → Step m s e next → IsState m next
step-state m ends s e next h step =
    subst (λ r. IsState m r) (sym step.is_after) record {
      places = new_places-inside m s ends 0 m.automata s.locs step.choice (λ j. ap (slice_get m.automata) (omega arith)) (λ j. ap (λ i. slice_index_or s.locs i 0) (omega arith)) agreed.one_each h.places;
      values = new_values-fit m (assigned m s step.choice) (and-right _ _ (and-left _ _ (and-left _ _ step.makes))) 0 m.variables s.vals (λ j. ap (slice_get m.variables) (omega arith)) h.values;
      inputs = h.inputs;
    }
  where
    agreed : Agreed m s e step.choice
    agreed = agrees-parts m s e step.choice (makes_step-agrees m s e step.choice step.makes)
