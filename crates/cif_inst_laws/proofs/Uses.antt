-- The events of edges, those of alphabets and monitors, and the assigned variables are uses of their automaton, and the events of
-- exclusions are uses of their component.
use Rattle.std.proofs.Common.{◌≡◌, inl, inr, [], ◌++◌, refl, sym, subst}
use Rattle.std.specs.Prelude.{flat_map, unwrap_or}
use Rattle.cif_ast.specs.Tree.{UpdateTree, assignment, selection, UpdateTrees, no_updates, updates, UpdateBranches, no_update_branches, update_branches}
use Rattle.cif_ast.specs.declared.names.Name.{Name}
use Rattle.cif_system.specs.Words.{Member}
use Rattle.cif_system.proofs.Picks.{append-left, append-right, flat_map-member, map-member}
use Rattle.cif_system.proofs.Distinct.{member-append, member-flat_map}
use Rattle.cif_source.specs.Source.{UseTree, EquationTree, EdgeTree, LocationTree, DeclTree, AutomatonTree, SourceItem, decl_item, component_item, definition_item, instance_item, SourceBody, group_body, automaton_body, list_of_items}
use Rattle.cif_source.specs.Components.{Component, body_of, params_of}
use Rattle.cif_source.specs.Objects.{item_decls, decls_in, decls_of, locs_in, locs_of}
use Rattle.cif_source.specs.Uses.{Use, uses, event_asked, value_asked, asking, param_uses, body_uses, item_uses, decl_uses, location_uses, value_uses, edge_uses, event_uses, updates_uses, update_uses, branches_uses, names_in_all}
use Rattle.cif_source.specs.BodyRules.{edges_of, targets_of_all, targets_of, targets_of_branches}
use Rattle.cif_inst_laws.proofs.Finding.{event-use, variable-use}

-- ---- assigned names

mutual
  updates-used : (us : UpdateTrees) (nm : Name) → Member nm (targets_of_all us) → Member (variable-use nm) (updates_uses us)
  updates-used no_updates nm m = absurd m
  updates-used (updates u us) nm m =
      elim (member-append nm (targets_of u) (targets_of_all us) m) [
        | inl w ↦ append-left (variable-use nm) (update_uses u) (updates_uses us) (update-used u nm w)
        | inr w ↦ append-right (variable-use nm) (update_uses u) (updates_uses us) (updates-used us nm w)
      ]

  update-used : (u : UpdateTree) (nm : Name) → Member nm (targets_of u) → Member (variable-use nm) (update_uses u)
  update-used (assignment x e) nm m = elim m [ inl w ↦ subst (λ y. Member (variable-use nm) (update_uses (assignment y e))) w (inl refl) | inr w ↦ absurd w ]
  update-used (selection bs us) nm m =
      elim (member-append nm (targets_of_branches bs) (targets_of_all us) m) [
        | inl w ↦ append-left (variable-use nm) (branches_uses bs) (updates_uses us) (branches-used bs nm w)
        | inr w ↦ append-right (variable-use nm) (branches_uses bs) (updates_uses us) (updates-used us nm w)
      ]

  branches-used : (bs : UpdateBranches) (nm : Name) → Member nm (targets_of_branches bs) → Member (variable-use nm) (branches_uses bs)
  branches-used no_update_branches nm m = absurd m
  branches-used (update_branches cs us bs) nm m =
      elim (member-append nm (targets_of_all us) (targets_of_branches bs) m) [
        | inl w ↦ append-left (variable-use nm) (asking value_asked (names_in_all cs) ++ updates_uses us) (branches_uses bs) (append-right (variable-use nm) (asking value_asked (names_in_all cs)) (updates_uses us) (updates-used us nm w))
        | inr w ↦ append-right (variable-use nm) (asking value_asked (names_in_all cs) ++ updates_uses us) (branches_uses bs) (branches-used bs nm w)
      ]

-- ---- edges

edge-event : (e : EdgeTree) (u : UseTree) → Member u e.uses → Member (event-use u.name) (edge_uses e)
edge-event e u m =
    append-left (event-use u.name) (flat_map event_uses e.uses ++ flat_map value_uses e.guards) (updates_uses e.updates)
    (append-left (event-use u.name) (flat_map event_uses e.uses) (flat_map value_uses e.guards) (flat_map-member event_uses u e.uses (event-use u.name) m (inl refl)))

edge-variable : (e : EdgeTree) (nm : Name) → Member nm (targets_of_all e.updates) → Member (variable-use nm) (edge_uses e)
edge-variable e nm m = append-right (variable-use nm) (flat_map event_uses e.uses ++ flat_map value_uses e.guards) (updates_uses e.updates) (updates-used e.updates nm m)

-- what an edge uses, its location does, and so does the body
location-used : (l : LocationTree) (e : EdgeTree) (u : Use) → Member e l.edges → Member u (edge_uses e) → Member u (location_uses l)
location-used l e u k m =
    append-right u (flat_map value_uses l.marked ++ flat_map (λ (q : EquationTree). value_uses q.value) l.equations) (flat_map edge_uses l.edges)
    (flat_map-member edge_uses e l.edges u k m)

body-used : (c : Component) (b : SourceBody) (l : LocationTree) (u : Use) → Member l (locs_in b) → Member u (location_uses l) → Member u (body_uses c b)
body-used c (group_body is) l u k m = absurd k
body-used c (automaton_body a) l u k m =
    append-right u (flat_map decl_uses a.decls ++ asking event_asked (unwrap_or a.alphabet []) ++ asking event_asked (unwrap_or a.monitor [])) (flat_map location_uses a.locs)
    (flat_map-member location_uses l a.locs u k m)

edge-used : (c : Component) (e : EdgeTree) → Member e (edges_of c) → (u : Use) → Member u (edge_uses e) → Member u (uses c)
edge-used c e m u k =
    let l = member-flat_map (λ (l : LocationTree). l.edges) e (locs_of c) m in
    append-right u (flat_map param_uses (params_of c)) (body_uses c (body_of c))
    (body-used c (body_of c) l.0 u l.1 (location-used l.0 e u l.2 k))

pub event-used : (c : Component) (e : EdgeTree) → Member e (edges_of c) → (u : UseTree) → Member u e.uses → Member (event-use u.name) (uses c)
event-used c e m u k = edge-used c e m (event-use u.name) (edge-event e u k)

pub variable-used : (c : Component) (e : EdgeTree) → Member e (edges_of c) → (nm : Name) → Member nm (targets_of_all e.updates) → Member (variable-use nm) (uses c)
variable-used c e m nm k = edge-used c e m (variable-use nm) (edge-variable e nm k)

-- ---- alphabets and monitors

in-alphabet : (c : Component) (a : AutomatonTree) (nm : Name) → Member nm (unwrap_or a.alphabet []) → Member (event-use nm) (body_uses c (automaton_body a))
in-alphabet c a nm m =
    append-left (event-use nm) (flat_map decl_uses a.decls ++ asking event_asked (unwrap_or a.alphabet []) ++ asking event_asked (unwrap_or a.monitor [])) (flat_map location_uses a.locs)
    (append-left (event-use nm) (flat_map decl_uses a.decls ++ asking event_asked (unwrap_or a.alphabet [])) (asking event_asked (unwrap_or a.monitor []))
    (append-right (event-use nm) (flat_map decl_uses a.decls) (asking event_asked (unwrap_or a.alphabet [])) (map-member event-use nm (unwrap_or a.alphabet []) m)))

in-monitor : (c : Component) (a : AutomatonTree) (nm : Name) → Member nm (unwrap_or a.monitor []) → Member (event-use nm) (body_uses c (automaton_body a))
in-monitor c a nm m =
    append-left (event-use nm) (flat_map decl_uses a.decls ++ asking event_asked (unwrap_or a.alphabet []) ++ asking event_asked (unwrap_or a.monitor [])) (flat_map location_uses a.locs)
    (append-right (event-use nm) (flat_map decl_uses a.decls ++ asking event_asked (unwrap_or a.alphabet [])) (asking event_asked (unwrap_or a.monitor [])) (map-member event-use nm (unwrap_or a.monitor []) m))

module _ (c : Component) (a : AutomatonTree) (e : body_of c ≡ automaton_body a) where
  in-body : (u : Use) → Member u (body_uses c (automaton_body a)) → Member u (uses c)
  in-body u k = append-right u (flat_map param_uses (params_of c)) (body_uses c (body_of c)) (subst (λ b. Member u (body_uses c b)) (sym e) k)

  pub alphabet-used : (nm : Name) → Member nm (unwrap_or a.alphabet []) → Member (event-use nm) (uses c)
  alphabet-used nm m = in-body (event-use nm) (in-alphabet c a nm m)

  pub monitor-used : (nm : Name) → Member nm (unwrap_or a.monitor []) → Member (event-use nm) (uses c)
  monitor-used nm m = in-body (event-use nm) (in-monitor c a nm m)

-- ---- declarations

item-used : (c : Component) (i : SourceItem) (d : DeclTree) → Member d (item_decls i) → (u : Use) → Member u (decl_uses d) → Member u (item_uses c i)
item-used c (decl_item x) d m u k = elim m [ inl w ↦ subst (λ y. Member u (decl_uses y)) w k | inr w ↦ absurd w ]
item-used c (component_item n b) d m u k = absurd m
item-used c (definition_item n ps b) d m u k = absurd m
item-used c (instance_item i) d m u k = absurd m

in-decls : (c : Component) (b : SourceBody) (d : DeclTree) → Member d (decls_in b) → (u : Use) → Member u (decl_uses d) → Member u (body_uses c b)
in-decls c (group_body is) d m u k =
    let i = member-flat_map item_decls d (list_of_items is) m in
    flat_map-member (item_uses c) i.0 (list_of_items is) u i.1 (item-used c i.0 d i.2 u k)
in-decls c (automaton_body a) d m u k =
    append-left u (flat_map decl_uses a.decls ++ asking event_asked (unwrap_or a.alphabet []) ++ asking event_asked (unwrap_or a.monitor [])) (flat_map location_uses a.locs)
    (append-left u (flat_map decl_uses a.decls ++ asking event_asked (unwrap_or a.alphabet [])) (asking event_asked (unwrap_or a.monitor []))
    (append-left u (flat_map decl_uses a.decls) (asking event_asked (unwrap_or a.alphabet [])) (flat_map-member decl_uses d a.decls u m k)))

pub decl-used : (c : Component) (d : DeclTree) → Member d (decls_of c) → (u : Use) → Member u (decl_uses d) → Member u (uses c)
decl-used c d m u k = append-right u (flat_map param_uses (params_of c)) (body_uses c (body_of c)) (in-decls c (body_of c) d m u k)
