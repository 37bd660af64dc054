-- Makers of the small systems and states of the worked examples.
use Rattle.std.proofs.Common.{ℕ, ℤ, pos, true, false, List, [], Some, None}
use Rattle.std.specs.Prelude.{slice_index_or}
use Rattle.cif_system.specs.System.{State, Range, Class, Role, syncing, Edge, Automaton, Event, Channel, no_channel, System}

-- an edge that is always enabled and assigns nothing
abbrev pub plain_edge : ℕ → ℕ → ℕ → Edge
plain_edge e from to = record { event = Some e; role = syncing; from = from; to = to; guard = λ s. true; sent = λ s. None; assigned = λ s r. [] }

-- the same, in a role for event 0
abbrev pub role_edge : Role → ℕ → ℕ → Edge
role_edge p from to = record (plain_edge 0 from to) { role = p }

-- an automaton that synchronises on every event and monitors none
abbrev pub synchronising : ℕ → List Edge → Automaton
synchronising places edges = record { synchronises = λ e. true; monitors = λ e. false; edges = edges; places = places; first = 0 }

-- one that synchronises on none
abbrev pub communicating : ℕ → List Edge → Automaton
communicating places edges = record { synchronises = λ e. false; monitors = λ e. false; edges = edges; places = places; first = 0 }

abbrev pub event_of : Class → Event
event_of k = record { class = k; channel = no_channel }

abbrev pub channel_of : Class → Channel → Event
channel_of k c = record { class = k; channel = c }

-- automata and events alone
abbrev pub system_with : List Automaton → List Event → System
system_with automata events = record { automata = automata; events = events; variables = []; inputs = []; algs = []; exclusions = []; invariants = [] }

abbrev pub at_places : List ℕ → State
at_places places = record { locs = places; vals = []; ins = [] }

abbrev pub zero_to_two : Range
zero_to_two = record { lo = pos 0; hi = pos 2 }

abbrev pub place_at : ℕ → State → ℕ
place_at k s = slice_index_or s.locs k 0

abbrev pub value_at : ℕ → State → ℤ
value_at v s = slice_index_or s.vals v (pos 0)

abbrev pub input_at : ℕ → State → ℤ
input_at v s = slice_index_or s.ins v (pos 0)
