-- Why an event has no step in a state (CIF 3 language reference, "Synchronization", "Channels", "Invariants").
use Rattle.std.specs.Prelude.{◌≡◌, ℕ, ℤ, pos, Bool, false, not, ◌&&◌, ◌||◌, IsTrue, nat_eq, List, [], ◌∷◌, ◌++◌, map, length, filter, flat_map, zip, Some, None, is_some, slice_get, if◌then◌else◌}
use Rattle.std.specs.List.{list_any, enumerate_from, range_with_len}
use Rattle.cif_system.specs.System.{Automaton, Edge, Exclusion, Role, State, System, receiving, sending, syncing}
use Rattle.cif_system.specs.Step.{Choice, Numbered, after, agrees, assigned_fits, first_or, fits_channel, fits_variable, is_channel, is_enabled, is_party, numbered, sent, sent_fits}
use Rattle.cif_system.specs.Choices.{choices, first_step}
use Rattle.cif_why_model.specs.Told.{Assigned, EdgeTold, AutomatonTold, Told}

pub data Reason : Type 0 where
  -- no automaton has the event in a role
  no_role : Reason
  -- the automaton synchronises on it, does not monitor it, and has no enabled edge for it
  blocks : (auto : ℕ) → Reason
  -- it is a channel with a role, and no edge that sends is enabled, or none that receives
  no_sender no_receiver : Reason
  -- the exclusion forbids it
  excluded : (exclusion : ℕ) → Reason
  -- a choice that agrees takes the edge, and this value of it is sent or assigned, and out of range
  leaves : (auto edge place : ℕ) → Reason
  -- after a choice that agrees, and whose values are in range, the state invariant is false
  breaks : (invariant : ℕ) → Reason

-- ---- parties

abbrev pub has_role : System → ℕ → Bool
has_role m e = list_any (is_party e) m.automata

-- the automaton has an edge for the event in that role, from its place, whose guard holds
abbrev pub can : Role → ℕ → State → Numbered → Bool
can p e s a = list_any (is_enabled p e s a) a.1.edges

abbrev pub is_blocking : ℕ → State → Numbered → Bool
is_blocking e s a = a.1.synchronises e && not (a.1.monitors e) && not (can syncing e s a)

-- no automaton can take part in the channel in that role
abbrev pub lacks : System → State → Role → ℕ → Bool
lacks m s p e = is_channel m e && has_role m e && not (list_any (can p e s) (numbered m))

abbrev pub forbids : ℕ → State → Exclusion → Bool
forbids e s x = nat_eq x.event e && not (x.permits s)

-- ---- choices

-- automaton k takes its edge j
abbrev pub takes_edge : Choice → (k j : ℕ) → Bool
takes_edge ch k j = elim (slice_get ch k) [ Some (Some i) ↦ nat_eq i j | _ ↦ false ]

-- the value of this number is sent, and outside the range of the channel
abbrev pub leaves_channel : System → State → ℕ → Edge → (number : ℕ) → Bool
leaves_channel m s e x number = elim (x.sent s) [ None ↦ false | Some z ↦ nat_eq number 0 && not (fits_channel (slice_get m.events e) z) ]

-- it is assigned, and outside the range of its variable
abbrev pub leaves_variable : System → (number : ℕ) → Assigned → Bool
leaves_variable m number w = nat_eq w.number number && not (fits_variable (slice_get m.variables w.variable) w.value)

-- what is received in a choice
abbrev pub received_in : System → State → Choice → ℤ
received_in m s ch = first_or (pos 0) (sent m s ch)

-- in the choice the value is out of range, as one that is sent, or as one that is assigned where what is sent is in range
abbrev pub value_leaves : System → State → ℕ → Choice → Edge → EdgeTold → (number : ℕ) → Bool
value_leaves m s e ch x t number =
    leaves_channel m s e x number || (list_any (leaves_variable m number) (t.assigned s (received_in m s ch)) && sent_fits m s e ch)

-- the values are in range, and the invariant is false afterwards
abbrev pub choice_breaks : System → State → ℕ → Choice → (State → Bool) → Bool
choice_breaks m s e ch p = sent_fits m s e ch && assigned_fits m s ch && not (p (after m s ch))

-- ---- which reasons hold

-- the edge j of automaton k, with what is told of it
abbrev pub IsEdge : System → Told → (k j : ℕ) → Edge → EdgeTold → Type 0
IsEdge m t k j x y = (a : Automaton) × (b : AutomatonTold) × (slice_get m.automata k ≡ Some a) × (slice_get t.automata k ≡ Some b)
    × (slice_get a.edges j ≡ Some x) × (slice_get b.edges j ≡ Some y)

abbrev pub Holds : System → Told → State → ℕ → Reason → Type 0
Holds m t s e no_role = has_role m e ≡ false
Holds m t s e (blocks k) = (a : Automaton) × (slice_get m.automata k ≡ Some a) × IsTrue (is_blocking e s (k, a))
Holds m t s e no_sender = IsTrue (lacks m s sending e)
Holds m t s e no_receiver = IsTrue (lacks m s receiving e)
Holds m t s e (excluded k) = (x : Exclusion) × (slice_get m.exclusions k ≡ Some x) × IsTrue (forbids e s x)
Holds m t s e (leaves k j number) = (ch : Choice) × (x : Edge) × (y : EdgeTold) × IsTrue (agrees m s e ch) × IsTrue (takes_edge ch k j)
    × IsEdge m t k j x y × IsTrue (value_leaves m s e ch x y number)
Holds m t s e (breaks k) = (ch : Choice) × (p : State → Bool) × IsTrue (agrees m s e ch) × (slice_get m.invariants k ≡ Some p)
    × IsTrue (choice_breaks m s e ch p)

-- ---- the list

-- the choices that agree
abbrev pub agreeing : System → State → ℕ → List Choice
agreeing m s e = filter (agrees m s e) (choices m e)

abbrev pub reason_if : Bool → Reason → List Reason
reason_if b r = if b then r ∷ [] else []

-- the numbers of the elements that pass, ascending, each in its reason
abbrev pub each_of : {A : Type 0} → (ℕ → Reason) → (ℕ × A → Bool) → List A → List Reason
each_of reason p xs = map (λ x. reason x.0) (filter p (enumerate_from 0 xs))

-- the values of an edge that leave their ranges in some choice
abbrev pub leaves_of_edge : System → State → ℕ → (k : ℕ) → ℕ × (Edge × EdgeTold) → List Reason
leaves_of_edge m s e k (j, (x, y)) =
    map (leaves k j) (filter (λ number. list_any (λ ch. takes_edge ch k j && value_leaves m s e ch x y number) (agreeing m s e)) (range_with_len 0 (length y.values)))

abbrev pub leaves_of : System → State → ℕ → ℕ × (Automaton × AutomatonTold) → List Reason
leaves_of m s e (k, (a, b)) = flat_map (leaves_of_edge m s e k) (enumerate_from 0 (zip a.edges b.edges))

-- all that hold, in the order of `Reason`, and of one kind in that of their numbers
abbrev pub all_reasons : System → Told → State → ℕ → List Reason
all_reasons m t s e =
    reason_if (not (has_role m e)) no_role
    ++ each_of blocks (is_blocking e s) m.automata
    ++ reason_if (lacks m s sending e) no_sender
    ++ reason_if (lacks m s receiving e) no_receiver
    ++ each_of excluded (λ x. forbids e s x.1) m.exclusions
    ++ flat_map (leaves_of m s e) (enumerate_from 0 (zip m.automata t.automata))
    ++ each_of breaks (λ x. list_any (λ ch. choice_breaks m s e ch x.1) (agreeing m s e)) m.invariants

-- none where the event has a step
abbrev pub reasons_of : System → Told → State → ℕ → List Reason
reasons_of m t s e = if is_some (first_step m s e) then [] else all_reasons m t s e
