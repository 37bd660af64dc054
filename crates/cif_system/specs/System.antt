-- Automata whose edges are functions of the state, and the events, variables, exclusions and state invariants round them.
-- A specification is read as such a system, with numbers for names (CIF 3 language reference).
use Rattle.std.specs.Prelude.{◌≡◌, ℕ, suc, ◌≤◌, ◌<◌, ℤ, int_le, Bool, ◌&&◌, IsTrue, List, [], ◌∷◌, map, Option, Some, slice_get}
use Rattle.std.specs.List.{AllZip}

-- the class of an event: of neither kind, controllable or uncontrollable
pub data Class : Type 0 where
  plain con unc : Class

-- a place for each automaton, a number for each discrete variable and for each input
pub record State : Type 0 where
  pub locs : List ℕ
  pub vals : List ℤ
  pub ins : List ℤ

-- the numbers from lo to hi, both included
pub record Range : Type 0 where
  pub lo : ℤ
  pub hi : ℤ

abbrev pub in_range : Range → ℤ → Bool
in_range r z = int_le r.lo z && int_le z r.hi

-- the role of an edge for its event
pub data Role : Type 0 where
  syncing sending receiving : Role

-- an edge for one event: whether its guard holds in a state, what it sends, and the pairs of variable and value that it
-- assigns, given the received value
pub record Edge : Type 0 where
  pub event : Option ℕ
  pub role : Role
  pub from : ℕ
  pub to : ℕ
  pub guard : State → Bool
  pub sent : State → Option ℤ
  pub assigned : State → ℤ → List (ℕ × ℤ)

-- the events that it synchronises on and those that it monitors, its edges in text order, how many places it has, and
-- its first place
pub record Automaton : Type 0 where
  pub synchronises : ℕ → Bool
  pub monitors : ℕ → Bool
  pub edges : List Edge
  pub places : ℕ
  pub first : ℕ

-- an event that is no channel, a channel without a value, and one for the values of a range
pub data Channel : Type 0 where
  no_channel void_channel : Channel
  value_channel : Range → Channel

pub record Event : Type 0 where
  pub class : Class
  pub channel : Channel

-- a discrete variable or an input: its range and its first value
pub record Stored : Type 0 where
  pub range : Range
  pub first : ℤ

-- an exclusion of one event: whether it permits the event in a state
pub record Exclusion : Type 0 where
  pub event : ℕ
  pub permits : State → Bool

pub record System : Type 0 where
  pub automata : List Automaton
  pub events : List Event
  pub variables : List Stored
  pub inputs : List Stored
  pub algs : List (State → ℤ)
  pub exclusions : List Exclusion
  pub invariants : List (State → Bool)

-- a number in the range of each variable
abbrev pub AllFit : List Stored → List ℤ → Type 0
AllFit vs zs = AllZip (λ (v : Stored) z. IsTrue (in_range v.range z)) vs zs

-- a place of each automaton, and a number in the range of each variable and each input
pub record IsState (m : System) (s : State) : Type 0 where
  pub places : AllZip (λ (a : Automaton) k. suc k ≤ a.places) m.automata s.locs
  pub values : AllFit m.variables s.vals
  pub inputs : AllFit m.inputs s.ins

-- each edge ends in a place of its automaton
abbrev pub EndsInside : System → Type 0
EndsInside m = (k : ℕ) (a : Automaton) → slice_get m.automata k ≡ Some a → (j : ℕ) (x : Edge) → slice_get a.edges j ≡ Some x → x.to < a.places

-- the first places and the first values
abbrev pub initial : System → State
initial m = record { locs = map (λ (a : Automaton). a.first) m.automata; vals = map (λ (v : Stored). v.first) m.variables; ins = map (λ (v : Stored). v.first) m.inputs }

-- what is observed of a state: the place of each automaton, the value of each variable and of each algebraic variable
pub record Observation : Type 0 where
  pub places : List ℕ
  pub values : List ℤ
  pub algs : List ℤ

abbrev pub outputs : System → State → Observation
outputs m s = record { places = s.locs; values = s.vals; algs = map (λ (f : State → ℤ). f s) m.algs }
