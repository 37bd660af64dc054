-- Choices that are tried one after the other.
use Rattle.std.specs.Prelude.{◌≡◌, ◌&&◌, ◌<◌, ◌≤◌, ℕ, Bool, true, false, Option, Some, None, is_some, length}
use Rattle.cif_system.specs.System.{Class, IsState, State}
use Rattle.cif_system.specs.Step.{after, is_of, makes_step}
use Rattle.cif_system.specs.Choices.{first_step}
use Rattle.cif_net.specs.declared.guarded.Guarded.{Guarded}
use Rattle.cif_eval.specs.Choices.{choice_at, system_of}

-- whether choice k makes a step
unfoldable pub makes_at : Guarded → State → ℕ → Bool
makes_at g s k = makes_step (system_of g) s (choice_at g k).0 (choice_at g k).1

-- the state after choice k
unfoldable pub after_at : Guarded → State → ℕ → State
after_at g s k = after (system_of g) s (choice_at g k).1

-- choice k makes a step
pub record Makes (g : Guarded) (s : State) (k : ℕ) : Type 0 where
  pub listed : k < length g.choices
  pub step : makes_at g s k ≡ true

-- choice k is one of event e, and its step leads from the valid state s to t
pub record Fires (g : Guarded) (s : State) (e k : ℕ) (t : State) : Type 0 where
  pub valid : IsState (system_of g) s
  pub makes : Makes g s k
  pub of_event : (choice_at g k).0 ≡ e
  pub after : t ≡ after_at g s k

-- no choice with a number from `from` on and below `to` makes a step
abbrev pub NoneMakes : Guarded → State → (from to : ℕ) → Type 0
NoneMakes g s from to = (k : ℕ) → from ≤ k → k < to → makes_at g s k ≡ false

-- the first of these that makes a step, if one does
abbrev pub IsFirst : Guarded → State → (from to : ℕ) → Option ℕ → Type 0
IsFirst g s from to None = NoneMakes g s from to
IsFirst g s from to (Some k) = (from ≤ k) × (k < to) × (makes_at g s k ≡ true) × NoneMakes g s from k

-- whether event e has a step
unfoldable pub has_step : Guarded → State → ℕ → Bool
has_step g s e = is_some (first_step (system_of g) s e)

-- whether event e is of the class and has a step
unfoldable pub has_step_in : Guarded → Class → State → ℕ → Bool
has_step_in g k s e = is_of (system_of g) k e && has_step g s e
