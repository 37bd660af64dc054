-- Helper of the code: the edges of an automaton, by what names are looked up in.
use Rattle.std.specs.Prelude.{ℕ, ◌+◌, List, [], ◌∷◌, ◌++◌, map, flat_map, length, Option, Some, None, option_map}
use Rattle.cif_ast.specs.declared.names.Ident.{Ident}
use Rattle.cif_net_model.specs.Net.{NetEdge}
use Rattle.cif_source.specs.Source.{UseTree, EdgeTree, LocationTree, AutomatonTree}
use Rattle.cif_source.specs.Step.{role_of}
use Rattle.cif_inst_model.specs.Flat.{event_number, sent_tree, net_updates_of, value_places}
use Rattle.cif_inst_model.specs.Translation.{net_of, net_guard}
use Rattle.cif_inst_names.specs.Looking.{component_at}
use Rattle.cif_inst_names.specs.declared.looking.Looking.{Looking}
use Rattle.cif_inst_automata.specs.Targets.{target_place}

-- an edge for one use of an event
abbrev pub use_edge : Looking → (component from to : ℕ) → EdgeTree → UseTree → NetEdge
use_edge l k from to e u = record {
  event = event_number (component_at l k) u.name;
  role = role_of u.role;
  from = from;
  to = to;
  guard = net_guard (component_at l k) u.name.at e.guards;
  sent = option_map (net_of (component_at l k)) (sent_tree u.role);
  updates = net_updates_of (component_at l k) e.updates;
  places = value_places (record { from = from; event_use = u; edge = e });
}

-- where an edge leads; one without a target leads back
abbrev pub end_place : Looking → (component from count : ℕ) → Option Ident → ℕ
end_place l k from count None = from
end_place l k from count (Some x) = target_place l k x count

abbrev pub uses_edges : Looking → (component from count : ℕ) → EdgeTree → List NetEdge
uses_edges l k from count e = map (use_edge l k from (end_place l k from count e.target) e) e.uses

-- the edges of the locations from the one at a place on
abbrev pub locations_edges : Looking → (component count from : ℕ) → List LocationTree → List NetEdge
locations_edges l k count from [] = []
locations_edges l k count from (x ∷ xs) = flat_map (uses_edges l k from count) x.edges ++ locations_edges l k count (from + 1) xs

abbrev pub automaton_edges : Looking → (component : ℕ) → AutomatonTree → List NetEdge
automaton_edges l k a = locations_edges l k (length a.locs) 0 a.locs
