-- An edge of the net of a source has the updates of an edge of a body, as deep as these.
use Rattle.std.proofs.Common.{◌≡◌, ◌≤◌, true, le-leb, sym, subst, arith}
use Rattle.std.specs.Prelude.{nat_le}
use Rattle.cif_ast.specs.View.{view_items}
use Rattle.cif_ast.specs.Shallow.{IsShallow}
use Rattle.cif_ast.specs.declared.components.Spec.{Spec}
use Rattle.cif_system.specs.Words.{Member}
use Rattle.cif_system.proofs.Lists.{filter-within}
use Rattle.cif_system.proofs.Distinct.{member-map, member-flat_map}
use Rattle.cif_net_model.specs.Net.{NetEdge, NetAuto}
use Rattle.cif_net_model.specs.Exprs.{all_edges}
use Rattle.cif_source.specs.Source.{Source, source_of}
use Rattle.cif_source.specs.Components.{Component, body_of, as_written}
use Rattle.cif_source.specs.Objects.{components_of, automata, is_automaton, event_edges, EventEdge, locs_of}
use Rattle.cif_inst_model.specs.Flat.{net_of_source, net_auto, net_edge}
use Rattle.cif_inst_model.proofs.RuleLaws.{all-from}
use Rattle.cif_inst_model.proofs.StandingLaws.{edge-stands, enumerated}
use Rattle.cif_inst_bodies.proofs.Alike.{body-written}
use Rattle.cif_inst_bodies.proofs.Bodies.{components-written}
use Rattle.cif_net_model.specs.Nesting.{updates_depth, most_nesting, is_shallow}
use Rattle.cif_inst_laws.proofs.DepthLaws.{updates-as-deep}
use Rattle.cif_inst_laws.proofs.NestedBodies.{IsShallowBody, bodies-shallow}

edge-shallow : (c : Component) → IsShallowBody (body_of c) → (w : EventEdge) → Member w (event_edges c) → updates_depth (net_edge c w).updates ≤ 100
edge-shallow c h w m =
    let at = edge-stands c w m in
    let few = h at.place.1 (enumerated 0 at.place (locs_of c) at.location).0 w.edge at.edge in
    omega (arith, few, updates-as-deep c w.edge.updates)

module _ (t : Source) (shallow : (c : Component) → Member c (components_of t) → IsShallowBody (body_of c)) where
  auto-shallow : (c : Component) → Member c (automata t) → (x : NetEdge) → Member x (net_auto c).edges → updates_depth x.updates ≤ 100
  auto-shallow c m x k =
      let w = member-map (net_edge c) x (event_edges c) k in
      subst (λ (y : NetEdge). updates_depth y.updates ≤ 100) (sym w.2)
      (edge-shallow c (shallow c (filter-within (λ c. is_automaton (body_of c)) (components_of t) c m)) w.0 w.1)

  net-shallow : is_shallow (net_of_source t) ≡ true
  net-shallow =
      all-from (λ (x : NetEdge). nat_le (updates_depth x.updates) most_nesting) (all_edges (net_of_source t)) (λ x m.
      let a = member-flat_map (λ (a : NetAuto). a.edges) x (net_of_source t).autos m in
      let c = member-map net_auto a.0 (automata t) a.1 in
      le-leb (updates_depth x.updates) most_nesting (omega (arith, auto-shallow c.0 c.1 x (subst (λ (y : NetAuto). Member x y.edges) c.2 a.2))))

-- a component has the body of it as written, which is one of the specification
pub shallow-nets : (spec : Spec) → IsShallow spec → is_shallow (net_of_source (source_of spec)) ≡ true
shallow-nets spec shallow =
    net-shallow (source_of spec) (λ c m. subst IsShallowBody (body-written c)
    (bodies-shallow (view_items spec.items) shallow.forms (as_written c) (components-written (source_of spec) c m)))
