-- Helper of the code: the alphabets of automata and what they monitor, by what names are looked up in, and the first event outside an
-- alphabet.
use Rattle.std.specs.Prelude.{◌≡◌, ℕ, ◌+◌, Bool, not, List, [], ◌∷◌, ◌++◌, map, flat_map, Option, Some, None, slice_get, unwrap_or, if◌then◌else◌}
use Rattle.std.specs.List.{position_or_len}
use Rattle.cif_ast.specs.declared.names.Name.{Name}
use Rattle.cif_system.specs.System.{Role, syncing}
use Rattle.cif_system.specs.Step.{same_role}
use Rattle.cif_net_model.specs.Facts.{has}
use Rattle.cif_net.specs.View.{role_of as net_role}
use Rattle.cif_source.specs.Source.{UseTree, EdgeTree, LocationTree, AutomatonTree, SourceBody, group_body, automaton_body}
use Rattle.cif_source.specs.Step.{role_of}
use Rattle.cif_inst_model.specs.Flat.{event_number}
use Rattle.cif_inst_names.specs.Looking.{component_at}
use Rattle.cif_inst_names.specs.declared.looking.Looking.{Looking}
use Rattle.cif_inst_paths.specs.Rows.{RowTree}
use Rattle.cif_inst_automata.specs.Views.{role_for}
use Rattle.cif_inst_automata.specs.declared.alphabets.Alphabet.{Alphabet}
use Rattle.cif_inst_automata.specs.declared.used.Used.{Used}
use Rattle.cif_inst_automata.specs.declared.error.AutomataErr.{AutomataErr}
use Rattle.cif_inst_automata.specs.declared.error.AutomataErr.TheVariants.{AlphabetLacks, RoleMixed, Memory}

-- ---- names of events

abbrev pub events_named : Looking → (component : ℕ) → List Name → List ℕ
events_named l k nms = map (event_number (component_at l k)) nms

abbrev pub name_places : List Name → List ℕ
name_places nms = map (λ (nm : Name). nm.at) nms

-- where the events of edges that synchronise are named
abbrev pub use_place : UseTree → List ℕ
use_place u = if same_role syncing (role_of u.role) then u.name.at ∷ [] else []

abbrev pub edge_places : EdgeTree → List ℕ
edge_places e = flat_map use_place e.uses

abbrev pub location_places : LocationTree → List ℕ
location_places l = flat_map edge_places l.edges

-- the events of edges with their roles
abbrev pub use_used : Looking → (component : ℕ) → UseTree → Used
use_used l k u = record { event = event_number (component_at l k) u.name; role = role_for u.role }

abbrev pub edge_used : Looking → (component : ℕ) → EdgeTree → List Used
edge_used l k e = map (use_used l k) e.uses

abbrev pub location_used : Looking → (component : ℕ) → LocationTree → List Used
location_used l k x = flat_map (edge_used l k) x.edges

abbrev pub automaton_used : Looking → (component : ℕ) → AutomatonTree → List Used
automaton_used l k a = flat_map (location_used l k) a.locs

-- the events of those in that role
abbrev pub event_as : Role → Used → List ℕ
event_as p u = if same_role p (net_role u.role) then u.event ∷ [] else []

abbrev pub events_as : Role → List Used → List ℕ
events_as p us = flat_map (event_as p) us

abbrev pub synced_events : Looking → (component : ℕ) → AutomatonTree → List ℕ
synced_events l k a = events_as syncing (automaton_used l k a)

-- ---- alphabets

-- the declared alphabet, or else the events of the edges that synchronise
abbrev pub alphabet_by : Looking → (component : ℕ) → Option (List Name) → (synced : List ℕ) → List ℕ
alphabet_by l k None synced = synced
alphabet_by l k (Some nms) synced = events_named l k nms

abbrev pub alphabet_for : Looking → (component : ℕ) → AutomatonTree → List ℕ
alphabet_for l k a = alphabet_by l k a.alphabet (synced_events l k a)

-- `monitor;` names no event and means all of the alphabet
abbrev pub monitors_by : Looking → (component : ℕ) → Option (List Name) → (alphabet : List ℕ) → List ℕ
monitors_by l k None es = []
monitors_by l k (Some []) es = es
monitors_by l k (Some (nm ∷ nms)) es = events_named l k (nm ∷ nms)

abbrev pub monitors_for : Looking → (component : ℕ) → AutomatonTree → List ℕ
monitors_for l k a = monitors_by l k a.monitor (alphabet_for l k a)

abbrev pub automaton_alphabet : Looking → (component : ℕ) → AutomatonTree → Alphabet
automaton_alphabet l k a = record { component = k; events = alphabet_for l k a; monitors = monitors_for l k a; used = automaton_used l k a }

abbrev pub body_alphabets : Looking → (component : ℕ) → SourceBody → List Alphabet
body_alphabets l k (group_body is) = []
body_alphabets l k (automaton_body a) = automaton_alphabet l k a ∷ []

-- those of the automata among the components from number k on
abbrev pub rows_alphabets : Looking → ℕ → List RowTree → List Alphabet
rows_alphabets l k [] = []
rows_alphabets l k (r ∷ rs) = body_alphabets l k r.1 ++ rows_alphabets l (k + 1) rs

-- ---- events outside

abbrev pub is_outside : (alphabet : List ℕ) → ℕ → Bool
is_outside es e = not (has es e)

-- where the first event that fails is named
abbrev pub first_failing : (ℕ → Bool) → (events places : List ℕ) → Option ℕ
first_failing fails es ps = slice_get ps (position_or_len fails es)

abbrev pub or_later : Option ℕ → Option ℕ → Option ℕ
or_later None o = o
or_later (Some at) o = Some at

-- where an edge of the automaton that synchronises, or else its `monitor`, first names an event outside the alphabet
abbrev pub automaton_lacks : Looking → (component : ℕ) → AutomatonTree → Option ℕ
automaton_lacks l k a = or_later (first_failing (is_outside (alphabet_for l k a)) (synced_events l k a) (flat_map location_places a.locs))
    (first_failing (is_outside (alphabet_for l k a)) (monitors_for l k a) (name_places (unwrap_or a.monitor [])))

abbrev pub body_lacks : Looking → (component : ℕ) → SourceBody → Option ℕ
body_lacks l k (group_body is) = None
body_lacks l k (automaton_body a) = automaton_lacks l k a

-- where the components from number k on first name an event outside the alphabet
abbrev pub rows_lacks : Looking → ℕ → List RowTree → Option ℕ
rows_lacks l k [] = None
rows_lacks l k (r ∷ rs) = or_later (body_lacks l k r.1) (rows_lacks l (k + 1) rs)

-- the error is at this place, or memory ran out
abbrev pub tells : AutomataErr → Option ℕ → Type 0
tells (AlphabetLacks at) o = o ≡ Some at
tells (RoleMixed at) o = ⊥
tells Memory o = Unit {0}
