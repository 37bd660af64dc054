-- A scan of a controller: which results are legal, and the one that rounds over the events in ascending number give
-- (Eclipse ESCET documentation, PLC code generator).
use Rattle.std.specs.Prelude.{◌≡◌, ℕ, zero, suc, ◌≤◌, ◌⊎◌, ℤ, IsTrue, Some, List, [], ◌∷◌, length, filter, unwrap_or}
use Rattle.cif_system.specs.System.{Class, State, System, con, unc}
use Rattle.cif_system.specs.Step.{Exhausted, Run, is_of}
use Rattle.cif_system.specs.Choices.{event_numbers, first_step}

-- a run of one class that fires at least so many events, or after which no event of the class has a step
pub record BoundedRun (m : System) (k : Class) (bound : ℕ) (s next : State) : Type 0 where
  pub fired : List ℕ
  pub run : Run m k s fired next
  pub enough : (bound ≤ length fired) ⊎ Exhausted m k next

-- the inputs are set to the row
abbrev pub with_inputs : State → List ℤ → State
with_inputs s row = record s { ins = row }

-- With the inputs set, uncontrollable events run and then controllable ones: U and C of them at least, or till none is
-- left. Which events fire, and in which order, is not said.
pub record ScanIsLegal (m : System) (s : State) (row : List ℤ) (next : State) (U C : ℕ) : Type 0 where
  pub middle : State
  pub uncontrollable : BoundedRun m unc U (with_inputs s row) middle
  pub controllable : BoundedRun m con C middle next

-- the first step of e, if it has one
abbrev pub fire : System → State → ℕ → State
fire m s e = unwrap_or (first_step m s e) s

-- each of the events in turn
abbrev pub fire_all : System → State → List ℕ → State
fire_all m s [] = s
fire_all m s (e ∷ es) = fire_all m (fire m s e) es

-- the events of the class in ascending number
abbrev pub of_class : System → Class → List ℕ
of_class m k = filter (is_of m k) (event_numbers m)

-- so many rounds, each of which tries every event of the class once
abbrev pub rounds : System → Class → ℕ → State → State
rounds m k zero s = s
rounds m k (suc n) s = rounds m k n (fire_all m s (of_class m k))

-- U rounds of the uncontrollable class, then C of the controllable one
abbrev pub exact_scan : System → State → List ℤ → ℕ → ℕ → State
exact_scan m s row U C = rounds m con C (rounds m unc U (with_inputs s row))

-- a run in which each event takes its first step
abbrev pub FirstRun : System → Class → State → List ℕ → State → Type 0
FirstRun m k s [] next = next ≡ s
FirstRun m k s (e ∷ es) next = (mid : State) × IsTrue (is_of m k e) × (first_step m s e ≡ Some mid) × FirstRun m k mid es next

-- With the inputs set to the row, a run of uncontrollable events and then one of controllable events, by first steps.
pub record ScanRunsFirstSteps (m : System) (s : State) (row : List ℤ) (next : State) : Type 0 where
  pub middle : State
  pub uncontrollable : List ℕ
  pub first : FirstRun m unc (with_inputs s row) uncontrollable middle
  pub controllable : List ℕ
  pub second : FirstRun m con middle controllable next
