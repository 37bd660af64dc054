-- What is left of a run: the lines or steps from a state on.
use Rattle.std.specs.Prelude.{◌≡◌, ℕ, suc, ◌+◌, ◌<◌, ◌≤◌, false, List, ◌++◌, length, Option, None}
use Rattle.grammar.specs.Pieces.{Text}
use Rattle.cif_system.specs.System.{State, System}
use Rattle.cif_system.specs.Choices.{first_step}
use Rattle.cif_io.specs.Written.{grown}
use Rattle.cif_net.specs.View.{net_tree}
use Rattle.cif_net.specs.declared.guarded.Guarded.{Guarded}
use Rattle.cif_sim_model.specs.Names.{Names}
use Rattle.cif_sim_names.specs.Nets.{names_of_net}
use Rattle.cif_sim_model.specs.Script.{Action, idle, sets, fires}
use Rattle.cif_sim_model.specs.Runs.{Moment, input_fits, moments_by, end_of, first_moments}
use Rattle.cif_sim_model.specs.Simulation.{StopCause, out_of_range, not_enabled, FirstStop, actions_of, moments_text, ending}

-- the names of a guarded net
abbrev pub names_in : Guarded → Names
names_in g = names_of_net (net_tree g.plain.net)

-- ---- scripts

-- the actions that the lines make
abbrev pub moments_of : Names → System → State → List Text → List Moment
moments_of names m s ls = moments_by m s (actions_of names ls)

-- the text of the lines where k steps were made before
abbrev pub text_left : Names → System → State → (k : ℕ) → List Text → Text
text_left names m s k ls = moments_text names k (moments_of names m s ls)

abbrev pub state_left : Names → System → State → List Text → State
state_left names m s ls = end_of s (moments_of names m s ls)

-- no line meets a cause
abbrev pub NoStop : Names → System → State → List Text → Type 0
NoStop names m s ls = (k : ℕ) (why : StopCause) → FirstStop names m s ls k why → ⊥

-- the input or event exists
abbrev pub IsNamed : Names → Action → Type 0
IsNamed names idle = Unit {0}
IsNamed names (sets input z) = input < length names.inputs
IsNamed names (fires e) = e < length names.events

-- the action can't be made in this state, by this cause
abbrev pub Prevents : System → State → Action → StopCause → Type 0
Prevents m s (sets input z) (out_of_range y) = (y ≡ z) × (input_fits m input z ≡ false)
Prevents m s (fires e) not_enabled = first_step m s e ≡ None
Prevents m s _ _ = ⊥

-- Of the lines `all`, from the state `start` with `made` steps before, `count` were followed, and what they write is `done`. These
-- are left, from the state `s` with k steps before.
pub record Followed (names : Names) (m : System) (start : State) (made : ℕ) (all : List Text) (count : ℕ) (done : Text) (s : State) (k : ℕ) (ls : List Text) : Type 0 where
  pub text : text_left names m start made all ≡ done ++ text_left names m s k ls
  pub state : state_left names m start all ≡ state_left names m s ls
  pub counted : length all ≡ count + length ls
  pub stop : (j : ℕ) (why : StopCause) → FirstStop names m s ls (suc j) why → FirstStop names m start all (suc (count + j)) why
  pub runs : NoStop names m s ls → NoStop names m start all

-- both states show the same: the places and values, and not the inputs
abbrev pub Shows : State → State → Type 0
Shows s t = (s.locs ≡ t.locs) × (s.vals ≡ t.vals)

-- After an action, what is shown of the state before the next one: that of the state behind a step, and else what was shown.
abbrev pub IsUpToDate : Action → (old new after : State) → Type 0
IsUpToDate (fires e) old new after = Shows new after
IsUpToDate _ old new after = new ≡ old

-- a place for each automaton, and a value for each variable
abbrev pub IsSized : System → State → Type 0
IsSized m s = (length s.locs ≡ length m.automata) × (length s.vals ≡ length m.variables)

-- A run by the lines `all` from the state `start`, of which `number` were followed and `ls` are left, where a sink that had `old` now
-- has `now`.
pub record Running (names : Names) (m : System) (start : State) (all : List Text) (number : ℕ) (old now : Option Text) (s : State) (k : ℕ) (before : State) (ls : List Text) : Type 0 where
  pub done : Text
  pub followed : Followed names m start 0 all number done s k ls
  pub written : now ≡ grown old done
  pub shown : Shows before s
  pub sized : IsSized m s
  pub steps : k ≤ number

-- ---- steps by the first event that has one

-- the text of at most n steps, where k were made before of those asked for
abbrev pub first_left : Names → System → State → (k n : ℕ) → Text
first_left names m s k n = moments_text names k (first_moments m s n) ++ ending (length (first_moments m s n)) n

-- A run of n steps from the state `start`, of which k were made and `left` are left, where a sink that had `old` now has `now`.
pub record FirstRunning (names : Names) (m : System) (start : State) (n : ℕ) (old now : Option Text) (s : State) (k : ℕ) (before : State) : Type 0 where
  pub left : ℕ
  pub done : Text
  pub count : k + left ≡ n
  pub text : first_left names m start 0 n ≡ done ++ first_left names m s k left
  pub written : now ≡ grown old done
  pub shown : Shows before s
  pub sized : IsSized m s
