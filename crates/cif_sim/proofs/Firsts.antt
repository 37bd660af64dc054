-- The first item of a list that passes a test, and the first choice of an event that makes a step.
use Rattle.std.proofs.Common.{◌≡◌, ℕ, zero, suc, ◌+◌, ◌-◌, ◌<◌, ◌≤◌, Bool, true, false, List, [], ◌∷◌, length, Some, None, cond, find, refl, sym, ap, ◌∙◌, arith}
use Rattle.std.specs.Prelude.{option_map, slice_get, slice_index_or}
use Rattle.std.proofs.lemmas.Option.{get_or_from_slice_get}
use Rattle.cif_system.specs.System.{State, System}
use Rattle.cif_system.specs.Step.{Choice, after, makes_step}
use Rattle.cif_system.specs.Choices.{choices, first_step}
use Rattle.cif_system.proofs.Lists.{none-some, some-same, slice_get-below}
use Rattle.cif_sim.specs.Starts.{choices_below, items_below}
use Rattle.cif_sim.proofs.Segments.{at-segment, segments}

pub find-first : {A : Type 0} (p : A → Bool) (xs : List A) (k : ℕ) (x : A) → slice_get xs k ≡ Some x → p x ≡ true
    → ((j : ℕ) (y : A) → j < k → slice_get xs j ≡ Some y → p y ≡ false) → find p xs ≡ Some x
find-first p [] k x at is before = absurd (none-some x at)
find-first p (y ∷ xs) zero x at is before = ap (λ b. cond b (Some y) (find p xs)) (ap p (some-same y x at) ∙ is) ∙ at
find-first p (y ∷ xs) (suc k) x at is before =
    ap (λ b. cond b (Some y) (find p xs)) (before 0 y (omega arith) refl) ∙ find-first p xs k x at is (λ j z h g. before (suc j) z (omega (arith, h)) g)

pub find-no : {A : Type 0} (p : A → Bool) (xs : List A) → ((j : ℕ) (y : A) → slice_get xs j ≡ Some y → p y ≡ false) → find p xs ≡ None
find-no p [] none = refl
find-no p (y ∷ xs) none = ap (λ b. cond b (Some y) (find p xs)) (none 0 y refl) ∙ find-no p xs (λ j z g. none (suc j) z g)

pub get-some : {A : Type 0} (xs : List A) (k : ℕ) → k < length xs → (x : A) × (slice_get xs k ≡ Some x)
get-some [] k h = absurd (omega (arith, h))
get-some (x ∷ xs) zero h = (x, refl)
get-some (x ∷ xs) (suc k) h = get-some xs k (omega (arith, h))

-- the choices of event e, in the list xs of those of all events
module _ (m : System) (s : State) (e d : ℕ) (xs : List (ℕ × Choice)) (all : xs ≡ segments (choices m) 0 (e + suc d)) where
  abbrev choice_in : ℕ → ℕ × Choice
  choice_in k = slice_index_or xs k (0, [])

  abbrev Fails : ℕ → Type 0
  Fails k = makes_step m s (choice_in k).0 (choice_in k).1 ≡ false

  choice-is : (j : ℕ) (ch : Choice) → slice_get (choices m e) j ≡ Some ch → choice_in (choices_below m e + j) ≡ (e, ch)
  unfolding choices_below
  choice-is j ch at =
      get_or_from_slice_get xs (items_below (choices m) e + j) (e, ch) (0, [])
      (ap (λ ys. slice_get ys (items_below (choices m) e + j)) all
      ∙ at-segment (choices m) e d j (slice_get-below (choices m e) j ch at)
      ∙ ap (option_map (λ x. (e, x))) at)

  below-more : choices_below m (suc e) ≡ choices_below m e + length (choices m e)
  unfolding choices_below items_below
  below-more = refl

  pub first-makes : (k : ℕ) → choices_below m e ≤ k → k < choices_below m (suc e) → makes_step m s (choice_in k).0 (choice_in k).1 ≡ true
      → ((j : ℕ) → choices_below m e ≤ j → j < k → Fails j) → first_step m s e ≡ Some (after m s (choice_in k).1)
  first-makes k from to is before =
      let j : ℕ = k - choices_below m e in
      let same : choices_below m e + j ≡ k = omega (arith, from) in
      let here = get-some (choices m e) j (omega (arith, to, below-more, from)) in
      let choice : choice_in k ≡ (e, here.0) = ap choice_in (sym same) ∙ choice-is j here.0 here.1 in
      ap (option_map (after m s))
      (find-first (makes_step m s e) (choices m e) j here.0 here.1 (ap (λ (c : ℕ × Choice). makes_step m s c.0 c.1) (sym choice) ∙ is)
      (λ i y less at. ap (λ (c : ℕ × Choice). makes_step m s c.0 c.1) (sym (choice-is i y at)) ∙ before (choices_below m e + i) (omega arith) (omega (arith, less, same))))
      ∙ ap (λ (c : ℕ × Choice). Some (after m s c.1)) (sym choice)

  pub none-makes : ((j : ℕ) → choices_below m e ≤ j → j < choices_below m (suc e) → Fails j) → first_step m s e ≡ None
  none-makes none =
      ap (option_map (after m s))
      (find-no (makes_step m s e) (choices m e)
      (λ i y at. ap (λ (c : ℕ × Choice). makes_step m s c.0 c.1) (sym (choice-is i y at))
      ∙ none (choices_below m e + i) (omega arith) (omega (arith, below-more, slice_get-below (choices m e) i y at))))
