-- Helper of the code: automata in which an event has two roles, by their alphabets.
use Rattle.std.specs.Prelude.{◌≡◌, ℕ, ◌<◌, Bool, ◌||◌, List, [], ◌∷◌, ◌++◌, Option, Some, None, slice_get, if◌then◌else◌}
use Rattle.std.specs.List.{list_any}
use Rattle.cif_system.specs.Words.{Member}
use Rattle.cif_system.specs.System.{sending, receiving}
use Rattle.cif_net_model.specs.Facts.{has}
use Rattle.cif_inst_names.specs.Looking.{source_for}
use Rattle.cif_inst_names.specs.declared.looking.Looking.{Looking}
use Rattle.cif_inst_paths.specs.Rows.{body_number}
use Rattle.cif_inst_automata.specs.Marks.{marked, is_marked}
use Rattle.cif_inst_automata.specs.Alphabets.{events_as}
use Rattle.cif_inst_automata.specs.BodyNames.{all_places}
use Rattle.cif_inst_automata.specs.declared.alphabets.Alphabet.{Alphabet}
use Rattle.cif_inst_automata.specs.declared.error.AutomataErr.{AutomataErr}
use Rattle.cif_inst_automata.specs.declared.error.AutomataErr.TheVariants.{AlphabetLacks, RoleMixed, Memory}

-- an event is received and in the alphabet, or sent and in one of the two
abbrev pub is_mixed : Alphabet → Bool
is_mixed a = list_any (has a.events) (events_as receiving a.used) || list_any (has (a.events ++ events_as receiving a.used)) (events_as sending a.used)

-- the component of the first mixed automaton
abbrev pub first_mixed : List Alphabet → Option ℕ
first_mixed [] = None
first_mixed (a ∷ rest) = if is_mixed a then Some a.component else first_mixed rest

-- where its name stands
abbrev pub mixed_place : Looking → Option ℕ → Option ℕ
mixed_place l None = None
mixed_place l (Some k) = slice_get (all_places (source_for l)) (body_number l.components.now.all k)

-- the error is at this place, or memory ran out
abbrev pub tells_mixed : AutomataErr → Option ℕ → Type 0
tells_mixed (RoleMixed at) o = o ≡ Some at
tells_mixed (AlphabetLacks at) o = ⊥
tells_mixed Memory o = Unit {0}

-- ---- by marks

-- with the mark of the automaton at its alphabet, and then at what it receives
abbrev pub marked_by : (mark : ℕ) → Alphabet → (marks : List ℕ) → List ℕ
marked_by own a ms = marked own (events_as receiving a.used) (marked own a.events ms)

abbrev pub is_mixed_by : (mark : ℕ) → Alphabet → (marks : List ℕ) → Bool
is_mixed_by own a ms = list_any (is_marked own (marked own a.events ms)) (events_as receiving a.used) || list_any (is_marked own (marked_by own a ms)) (events_as sending a.used)

-- the events there are numbers below
pub record AreBelow (count : ℕ) (a : Alphabet) : Type 0 where
  pub received : (e : ℕ) → Member e (events_as receiving a.used) → e < count
  pub sent : (e : ℕ) → Member e (events_as sending a.used) → e < count

abbrev pub AreAllBelow : (count : ℕ) → List Alphabet → Type 0
AreAllBelow count all = (a : Alphabet) → Member a all → AreBelow count a
