-- The edges of an automaton for one event are uses on edges of its body.
use Rattle.cif_system.specs.Words.{Member}
use Rattle.cif_system.proofs.Lists.{filter-within}
use Rattle.cif_system.proofs.Picks.{flat_map-member}
use Rattle.cif_source.specs.Source.{LocationTree, Source}
use Rattle.cif_source.specs.Components.{Component, body_of}
use Rattle.cif_source.specs.Objects.{components_of, locs_of, automata, is_automaton, EventEdge, event_edges}
use Rattle.cif_source.specs.BodyRules.{edges_of}
use Rattle.cif_inst_model.proofs.StandingLaws.{edge-stands, enumerated}

pub edge-of : (c : Component) (w : EventEdge) → Member w (event_edges c) → Member w.edge (edges_of c)
edge-of c w k =
    let s = edge-stands c w k in
    flat_map-member (λ (l : LocationTree). l.edges) s.place.1 (locs_of c) w.edge (enumerated 0 s.place (locs_of c) s.location).0 s.edge

pub use-of : (c : Component) (w : EventEdge) → Member w (event_edges c) → Member w.event_use w.edge.uses
use-of c w k = let s = edge-stands c w k in s.event_use

pub automaton-home : (t : Source) (c : Component) → Member c (automata t) → Member c (components_of t)
automaton-home t c m = filter-within (λ c. is_automaton (body_of c)) (components_of t) c m
