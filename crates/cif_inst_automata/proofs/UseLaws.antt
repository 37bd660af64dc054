-- The events of edges are uses of their automaton.
use Rattle.std.proofs.Common.{inl, [], ◌++◌, refl}
use Rattle.std.specs.Prelude.{flat_map, unwrap_or}
use Rattle.cif_ast.specs.declared.names.Name.{Name}
use Rattle.cif_system.specs.Words.{Member}
use Rattle.cif_system.proofs.Lists.{filter-within}
use Rattle.cif_system.proofs.Picks.{append-left, append-right, flat_map-member}
use Rattle.cif_source.specs.Source.{UseTree, EquationTree, EdgeTree, LocationTree, SourceBody, group_body, automaton_body, Source}
use Rattle.cif_source.specs.Components.{Component, body_of, params_of}
use Rattle.cif_source.specs.Objects.{components_of, automata, is_automaton, locs_of, locs_in, EventEdge, event_edges}
use Rattle.cif_source.specs.Uses.{uses, event_asked, asking, param_uses, body_uses, decl_uses, location_uses, value_uses, edge_uses, event_uses, updates_uses}
use Rattle.cif_inst_model.proofs.StandingLaws.{edge-stands, enumerated}
use Rattle.cif_inst_paths.proofs.EventNameLaws.{event-use}

edge-used : (e : EdgeTree) (u : UseTree) → Member u e.uses → Member (event-use u.name) (edge_uses e)
edge-used e u m =
    append-left (event-use u.name) (flat_map event_uses e.uses ++ flat_map value_uses e.guards) (updates_uses e.updates)
    (append-left (event-use u.name) (flat_map event_uses e.uses) (flat_map value_uses e.guards) (flat_map-member event_uses u e.uses (event-use u.name) m (inl refl)))

location-used : (l : LocationTree) (e : EdgeTree) (u : UseTree) → Member e l.edges → Member u e.uses → Member (event-use u.name) (location_uses l)
location-used l e u k m =
    append-right (event-use u.name) (flat_map value_uses l.marked ++ flat_map (λ (q : EquationTree). value_uses q.value) l.equations) (flat_map edge_uses l.edges)
    (flat_map-member edge_uses e l.edges (event-use u.name) k (edge-used e u m))

body-used : (c : Component) (b : SourceBody) (l : LocationTree) (nm : Name) → Member l (locs_in b) → Member (event-use nm) (location_uses l) → Member (event-use nm) (body_uses c b)
body-used c (group_body is) l nm k m = absurd k
body-used c (automaton_body a) l nm k m =
    append-right (event-use nm) (flat_map decl_uses a.decls ++ asking event_asked (unwrap_or a.alphabet []) ++ asking event_asked (unwrap_or a.monitor [])) (flat_map location_uses a.locs)
    (flat_map-member location_uses l a.locs (event-use nm) k m)

pub edge-event-used : (c : Component) (w : EventEdge) → Member w (event_edges c) → Member (event-use w.event_use.name) (uses c)
edge-event-used c w m =
    let e = edge-stands c w m in
    let l = (enumerated 0 e.place (locs_of c) e.location).0 in
    append-right (event-use w.event_use.name) (flat_map param_uses (params_of c)) (body_uses c (body_of c))
    (body-used c (body_of c) e.place.1 w.event_use.name l (location-used e.place.1 w.edge w.event_use e.edge e.event_use))

pub automaton-listed : (t : Source) (c : Component) → Member c (automata t) → Member c (components_of t)
automaton-listed t c m = filter-within (λ c. is_automaton (body_of c)) (components_of t) c m
