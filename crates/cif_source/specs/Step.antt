-- A source read as a system of automata: what its automata, edges, declarations and invariants are (CIF 3 language reference,
-- "Automata", "Synchronization", "Channels", "Monitoring", "Invariants").
use Rattle.std.specs.Prelude.{ℕ, ℤ, pos, Bool, true, false, not, ◌&&◌, ◌||◌, List, [], ◌∷◌, ◌++◌, map, length, flat_map, filter_map, Option, Some, None, option_map, if◌then◌else◌}
use Rattle.std.specs.List.{list_all, list_any, position_or_len}
use Rattle.cif_ast.specs.Tree.{Tree, node, named, UpdateTree, assignment, selection, UpdateTrees, no_updates, updates, UpdateBranches, no_update_branches, update_branches}
use Rattle.cif_ast.specs.declared.names.Ident.{Ident}
use Rattle.cif_ast.specs.declared.names.Name.{Name}
use Rattle.cif_ast.specs.declared.declarations.Class.{Class}
use Rattle.cif_ast.specs.declared.declarations.Class.TheVariants as class
use Rattle.cif_system.specs.System as system
use Rattle.cif_system.specs.System.{State, Role, syncing, sending, receiving, Edge, Automaton, Channel, no_channel, void_channel, value_channel, Event, Exclusion, Stored, System}
use Rattle.cif_system.specs.Step.{same_role, is_number}
use Rattle.cif_source.specs.Source.{Text, ChannelTree, no_type, void_type, value_type, RoleTree, syncs, sends, receives, LocationTree, always, needs, disables, event_decl, disc_decl, input_decl, alg_decl, invariant_decl, SourceBody, group_body, automaton_body, Source, list_of_trees}
use Rattle.cif_source.specs.Components.{Component, body_of, specification_of, same_text, declared}
use Rattle.cif_source.specs.Lookup.{Object, thing, denotes}
use Rattle.cif_source.specs.Objects.{automata, events, variables, inputs, algs, declarations, Declared, number_in, locs_of, EventEdge, event_edges}
use Rattle.cif_source.specs.Value.{value_of, is_true}
use Rattle.cif_source.specs.Types.{range_of, first_of_type, from_to}

-- ---- what names denote

abbrev pub event_at : Option Object → Option ℕ
event_at (Some (thing c (declared (event_decl k h n)))) = Some (number_in (events (specification_of c)) c n.text)
event_at _ = None

abbrev pub variable_at : Option Object → Option ℕ
variable_at (Some (thing c (declared (disc_decl ty n e)))) = Some (number_in (variables (specification_of c)) c n.text)
variable_at _ = None

-- the name denotes the event e
abbrev pub denotes_event : ℕ → Component → Name → Bool
denotes_event e c nm = is_number e (event_at (denotes c nm))

-- ---- alphabets

abbrev pub role_of : RoleTree → Role
role_of syncs = syncing
role_of (sends e) = sending
role_of receives = receiving

-- the edge is one for e in that role
abbrev pub has_role : Role → ℕ → Component → EventEdge → Bool
has_role p e a w = same_role p (role_of w.event_use.role) && denotes_event e a w.event_use.name

abbrev pub has_edge : Role → ℕ → Component → Bool
has_edge p e a = list_any (has_role p e a) (event_edges a)

-- the declared alphabet, or else the events of the edges that neither send nor receive
abbrev pub synchronises_in : ℕ → Component → SourceBody → Bool
synchronises_in e a (group_body is) = false
synchronises_in e a (automaton_body b) = elim b.alphabet [ None ↦ has_edge syncing e a | Some nms ↦ list_any (denotes_event e a) nms ]

abbrev pub synchronises : ℕ → Component → Bool
synchronises e a = synchronises_in e a (body_of a)

-- `monitor;` names no event and means all of the alphabet
abbrev pub monitor_names : ℕ → Component → Option (List Name) → Bool
monitor_names e a None = false
monitor_names e a (Some []) = true
monitor_names e a (Some (nm ∷ nms)) = list_any (denotes_event e a) (nm ∷ nms)

abbrev pub monitors_in : ℕ → Component → SourceBody → Bool
monitors_in e a (group_body is) = false
monitors_in e a (automaton_body b) = monitor_names e a b.monitor

abbrev pub monitors : ℕ → Component → Bool
monitors e a = synchronises e a && monitors_in e a (body_of a)

-- ---- edges

-- a predicate of a component holds in a state
abbrev pub holds : Component → Tree → State → Bool
holds c p s = is_true (value_of c p s (pos 0))

abbrev pub sent_by : Component → RoleTree → State → Option ℤ
sent_by a (sends (Some e)) s = Some (value_of a e s (pos 0))
sent_by a _ s = None

-- the assigned pairs of variable and value, all read in the old state, with r for `?`
abbrev mutual
  pub assigned_all : Component → State → ℤ → UpdateTrees → List (ℕ × ℤ)
  assigned_all c s r no_updates = []
  assigned_all c s r (updates u us) = assigned_by c s r u ++ assigned_all c s r us

  pub assigned_by : Component → State → ℤ → UpdateTree → List (ℕ × ℤ)
  assigned_by c s r (assignment nm e) = elim (variable_at (denotes c nm)) [ None ↦ [] | Some v ↦ (v, value_of c e s r) ∷ [] ]
  assigned_by c s r (selection bs us) = assigned_in c s r (assigned_all c s r us) bs

  -- those of the first branch whose conditions hold, or else the others
  pub assigned_in : Component → State → ℤ → List (ℕ × ℤ) → UpdateBranches → List (ℕ × ℤ)
  assigned_in c s r others no_update_branches = others
  assigned_in c s r others (update_branches cs us bs) =
      if list_all (λ e. is_true (value_of c e s r)) (list_of_trees cs) then assigned_all c s r us else assigned_in c s r others bs

abbrev pub is_named : Text → LocationTree → Bool
is_named x l = elim l.name [ None ↦ false | Some n ↦ same_text n.text x ]

-- an edge without a target leads back
abbrev pub end_of : Component → EventEdge → ℕ
end_of a w = elim w.edge.target [ None ↦ w.from | Some n ↦ position_or_len (is_named n.text) (locs_of a) ]

abbrev pub edge_for : Component → EventEdge → Edge
edge_for a w = record {
  event = event_at (denotes a w.event_use.name);
  role = role_of w.event_use.role;
  from = w.from;
  to = end_of a w;
  guard = λ s. list_all (λ g. holds a g s) w.edge.guards;
  sent = sent_by a w.event_use.role;
  assigned = λ s r. assigned_all a s r w.edge.updates;
}

-- the place of the first initial location
abbrev pub first_place : Component → ℕ
first_place a = position_or_len (λ (l : LocationTree). l.initial) (locs_of a)

abbrev pub automaton_for : Component → Automaton
automaton_for a = record {
  synchronises = λ e. synchronises e a;
  monitors = λ e. monitors e a;
  edges = map (edge_for a) (event_edges a);
  places = length (locs_of a);
  first = first_place a;
}

-- ---- declarations

abbrev pub class_of : Class → system.Class
class_of class.Plain = system.plain
class_of class.Con = system.con
class_of class.Unc = system.unc

abbrev pub channel_of : Component → ChannelTree → Channel
channel_of c no_type = no_channel
channel_of c void_type = void_channel
channel_of c (value_type ty) = value_channel (range_of c ty)

abbrev pub event_for : Declared → Event
event_for (c, event_decl k h n) = record { class = class_of k; channel = channel_of c h }
event_for _ = record { class = system.plain; channel = no_channel }

abbrev pub stored_for : Declared → Stored
stored_for (c, disc_decl ty n e) = record { range = range_of c ty; first = first_of_type c ty e }
stored_for (c, input_decl ty n) = record { range = range_of c ty; first = first_of_type c ty None }
stored_for _ = record { range = from_to (pos 0) (pos 0); first = pos 0 }

-- an expression that is a name of one part
abbrev pub alone : Ident → Tree
alone n = node (named (record { from_root = false; parts = n ∷ []; at = n.at })) n.at

abbrev pub alg_value : Declared → State → ℤ
alg_value (c, alg_decl ty n e) s = value_of c (alone n) s (pos 0)
alg_value _ s = pos 0

-- the exclusion of the event that a name denotes
abbrev pub exclusion_for : Component → (State → Bool) → Name → Option Exclusion
exclusion_for c permits nm = option_map (λ e. record { event = e; permits = permits }) (event_at (denotes c nm))

-- one for each event that is named: it needs the predicate, or the predicate disables it
abbrev pub exclusions_for : Declared → List Exclusion
exclusions_for (c, invariant_decl (needs nms p)) = filter_map (exclusion_for c (holds c p)) nms
exclusions_for (c, invariant_decl (disables p nms)) = filter_map (exclusion_for c (λ s. not (holds c p s))) nms
exclusions_for _ = []

abbrev pub invariants_for : Declared → List (State → Bool)
invariants_for (c, invariant_decl (always p)) = holds c p ∷ []
invariants_for _ = []

abbrev pub system_of : Source → System
system_of t = record {
  automata = map automaton_for (automata t);
  events = map event_for (events t);
  variables = map stored_for (variables t);
  inputs = map stored_for (inputs t);
  algs = map alg_value (algs t);
  exclusions = flat_map exclusions_for (declarations t);
  invariants = flat_map invariants_for (declarations t);
}

-- ---- targets

-- the target, where there is one, is a location of the automaton
abbrev pub has_target : Component → EventEdge → Bool
has_target a w = elim w.edge.target [ None ↦ true | Some n ↦ list_any (is_named n.text) (locs_of a) ]

abbrev pub has_targets : Component → Bool
has_targets a = list_all (has_target a) (event_edges a)
