-- Which automata take part in an event and how, the state after it, and runs of such steps (CIF 3 language reference,
-- "Synchronization", "Channels", "Monitoring").
use Rattle.std.specs.Prelude.{◌≡◌, ℕ, suc, ℤ, pos, Bool, true, false, not, ◌&&◌, ◌||◌, IsTrue, nat_eq, List, [], ◌∷◌, map, length, filter, find, flat_map, filter_map, zip, Option, Some, None, option_map, option_and_then, unwrap_or, slice_get, slice_index_or, if◌then◌else◌}
use Rattle.std.specs.List.{list_all, list_any, enumerate_from}
use Rattle.cif_system.specs.System.{Edge, Automaton, Class, Event, Exclusion, Role, State, Stored, System, value_channel, con, in_range, no_channel, plain, receiving, sending, syncing, unc}

-- for each automaton the number of one of its edges, or none: it stays
abbrev pub Choice : Type 0
Choice = List (Option ℕ)

-- an automaton with its number
abbrev pub Numbered : Type 0
Numbered = ℕ × Automaton

abbrev pub numbered : System → List Numbered
numbered m = enumerate_from 0 m.automata

-- an automaton and what it does
abbrev pub Move : Type 0
Move = Numbered × Option ℕ

-- what each automaton does in a choice
abbrev pub moves : System → Choice → List Move
moves m ch = zip (numbered m) ch

-- where the automaton is
abbrev pub place_of : State → Numbered → ℕ
place_of s a = slice_index_or s.locs a.0 0

-- the edge that is taken
abbrev pub edge_taken : Move → Option Edge
edge_taken (a, m) = option_and_then (slice_get a.1.edges) m

abbrev pub stays : Move → Bool
stays (a, None) = true
stays (a, Some k) = false

-- whether two roles are one
abbrev pub same_role : Role → Role → Bool
same_role syncing syncing = true
same_role sending sending = true
same_role receiving receiving = true
same_role _ _ = false

abbrev pub is_number : ℕ → Option ℕ → Bool
is_number e None = false
is_number e (Some k) = nat_eq k e

-- the edge is one for e in that role
abbrev pub is_for : Role → ℕ → Edge → Bool
is_for p e x = same_role p x.role && is_number e x.event

abbrev pub has_edge : Role → ℕ → Automaton → Bool
has_edge p e a = list_any (is_for p e) a.edges

-- the automaton has the event in a role
abbrev pub is_party : ℕ → Automaton → Bool
is_party e a = a.synchronises e || has_edge sending e a || has_edge receiving e a

-- the edge can be taken for e in that role: it leaves the automaton's place, and its guard holds
abbrev pub is_enabled : Role → ℕ → State → Numbered → Edge → Bool
is_enabled p e s a x = is_for p e x && nat_eq x.from (place_of s a) && x.guard s

-- there is one, and it passes
abbrev pub passes : {A : Type 0} → (A → Bool) → Option A → Bool
passes p None = false
passes p (Some x) = p x

-- the automaton takes an enabled edge for e in that role
abbrev pub takes : Role → ℕ → State → Move → Bool
takes p e s m = passes (is_enabled p e s m.0) (edge_taken m)

-- An automaton that synchronises takes an enabled edge, or it monitors, has none and stays. Another one takes an enabled
-- edge that sends or receives, or it stays.
abbrev pub fits : ℕ → State → Move → Bool
fits e s m = if m.0.1.synchronises e
    then takes syncing e s m || (stays m && m.0.1.monitors e && not (list_any (is_enabled syncing e s m.0) m.0.1.edges))
    else takes sending e s m || takes receiving e s m || stays m

abbrev pub is_channel_of : Option Event → Bool
is_channel_of None = false
is_channel_of (Some e) = elim e.channel [ no_channel ↦ false | _ ↦ true ]

abbrev pub is_channel : System → ℕ → Bool
is_channel m e = is_channel_of (slice_get m.events e)

-- how many send, and how many receive
abbrev pub partners : System → ℕ → ℕ
partners m e = if is_channel m e then 1 else 0

-- Some automaton has the event in a role, and each does what it may. For a channel exactly one sends and exactly one
-- other receives: each takes one edge, in one role, so these are two.
abbrev pub agrees : System → State → ℕ → Choice → Bool
agrees m s e ch = nat_eq (length ch) (length m.automata)
    && list_any (is_party e) m.automata
    && list_all (fits e s) (moves m ch)
    && nat_eq (length (filter (takes sending e s) (moves m ch))) (partners m e)
    && nat_eq (length (filter (takes receiving e s) (moves m ch))) (partners m e)

-- the edges that are taken
abbrev pub taken : System → Choice → List Edge
taken m ch = filter_map edge_taken (moves m ch)

-- the values that the taken edges send
abbrev pub sent : System → State → Choice → List ℤ
sent m s ch = filter_map (λ (x : Edge). x.sent s) (taken m ch)

abbrev pub first_or : ℤ → List ℤ → ℤ
first_or d [] = d
first_or d (z ∷ zs) = z

-- the assigned pairs, all read in the old state, with the sent value for ?
abbrev pub assigned : System → State → Choice → List (ℕ × ℤ)
assigned m s ch = flat_map (λ (x : Edge). x.assigned s (first_or (pos 0) (sent m s ch))) (taken m ch)

-- the value of variable v, which was z
abbrev pub new_value : List (ℕ × ℤ) → ℕ → ℤ → ℤ
new_value ws v z = unwrap_or (option_map (λ w. w.1) (find (λ w. nat_eq w.0 v) ws)) z

-- the values of the variables from number v on
abbrev pub new_values : List (ℕ × ℤ) → ℕ → List ℤ → List ℤ
new_values ws v [] = []
new_values ws v (z ∷ zs) = new_value ws v z ∷ new_values ws (suc v) zs

abbrev pub new_place : State → Move → ℕ
new_place s m = elim (edge_taken m) [ None ↦ place_of s m.0 | Some x ↦ x.to ]

-- Assigned variables have their new values, and edges that are taken move their automata. All else is as it was.
abbrev pub after : System → State → Choice → State
after m s ch = record { locs = map (new_place s) (moves m ch); vals = new_values (assigned m s ch) 0 s.vals; ins = s.ins }

abbrev pub fits_channel : Option Event → ℤ → Bool
fits_channel None z = true
fits_channel (Some e) z = elim e.channel [ value_channel r ↦ in_range r z | _ ↦ true ]

abbrev pub fits_variable : Option Stored → ℤ → Bool
fits_variable None z = false
fits_variable (Some v) z = in_range v.range z

-- each sent value is in the channel's range
abbrev pub sent_fits : System → State → ℕ → Choice → Bool
sent_fits m s e ch = list_all (fits_channel (slice_get m.events e)) (sent m s ch)

-- each assigned value is in the range of its variable
abbrev pub assigned_fits : System → State → Choice → Bool
assigned_fits m s ch = list_all (λ w. fits_variable (slice_get m.variables w.0) w.1) (assigned m s ch)

-- each exclusion of the event permits it
abbrev pub is_permitted : System → ℕ → State → Bool
is_permitted m e s = list_all (λ (x : Exclusion). not (nat_eq x.event e) || x.permits s) m.exclusions

-- each state invariant holds
abbrev pub meets_invariants : System → State → Bool
meets_invariants m s = list_all (λ p. p s) m.invariants

-- the choice agrees, the values are in range, the exclusions permit the event before and the invariants hold after
abbrev pub makes_step : System → State → ℕ → Choice → Bool
makes_step m s e ch = agrees m s e ch && sent_fits m s e ch && assigned_fits m s ch && is_permitted m e s && meets_invariants m (after m s ch)

-- some choice makes a step, which leads to next
pub record Step (m : System) (s : State) (e : ℕ) (next : State) : Type 0 where
  pub choice : Choice
  pub makes : IsTrue (makes_step m s e choice)
  pub is_after : next ≡ after m s choice

abbrev pub same_class : Class → Class → Bool
same_class plain plain = true
same_class con con = true
same_class unc unc = true
same_class _ _ = false

abbrev pub has_class : Class → Option Event → Bool
has_class k None = false
has_class k (Some e) = same_class k e.class

-- e is the number of an event of the class
abbrev pub is_of : System → Class → ℕ → Bool
is_of m k e = has_class k (slice_get m.events e)

-- the events of the list, all of the class, lead from s to next
abbrev pub Run : System → Class → State → List ℕ → State → Type 0
Run m k s [] next = next ≡ s
Run m k s (e ∷ es) next = (mid : State) × IsTrue (is_of m k e) × Step m s e mid × Run m k mid es next

-- no event of the class has a step
abbrev pub Exhausted : System → Class → State → Type 0
Exhausted m k s = (e : ℕ) (next : State) → IsTrue (is_of m k e) → Step m s e next → ⊥
