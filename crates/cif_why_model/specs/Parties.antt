-- When some choice agrees with an event.
use Rattle.std.specs.Prelude.{◌≡◌, ℕ, true, false, IsTrue, Some, slice_get}
use Rattle.cif_system.specs.System.{Automaton, State, System, receiving, sending}
use Rattle.cif_system.specs.Step.{Choice, agrees, has_edge, is_channel}
use Rattle.cif_why_model.specs.Reasons.{has_role, is_blocking, lacks}

-- An automaton has the event in one role: where it synchronises, no edge sends or receives, and no automaton does both. Only a
-- channel is sent and received along.
pub record HasOneRole (m : System) (e : ℕ) : Type 0 where
  pub syncs_alone : (k : ℕ) (a : Automaton) → slice_get m.automata k ≡ Some a → a.synchronises e ≡ true → (has_edge sending e a ≡ false) × (has_edge receiving e a ≡ false)
  pub sends_alone : (k : ℕ) (a : Automaton) → slice_get m.automata k ≡ Some a → has_edge sending e a ≡ true → has_edge receiving e a ≡ false
  pub along_channels : is_channel m e ≡ false → (k : ℕ) (a : Automaton) → slice_get m.automata k ≡ Some a → (has_edge sending e a ≡ false) × (has_edge receiving e a ≡ false)

-- no reason that tells of parties holds
pub record AllCan (m : System) (s : State) (e : ℕ) : Type 0 where
  pub role : has_role m e ≡ true
  pub free : (k : ℕ) (a : Automaton) → slice_get m.automata k ≡ Some a → is_blocking e s (k, a) ≡ false
  pub sender : lacks m s sending e ≡ false
  pub receiver : lacks m s receiving e ≡ false

abbrev pub SomeAgrees : System → State → ℕ → Type 0
SomeAgrees m s e = (ch : Choice) × IsTrue (agrees m s e ch)
