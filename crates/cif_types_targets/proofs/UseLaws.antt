-- An assigned name is one that its body uses as a discrete variable.
use Rattle.std.proofs.Common.{inl, inr, List, [], ◌∷◌, ◌++◌, flat_map, ap, subst}
use Rattle.std.specs.Prelude.{unwrap_or}
use Rattle.cif_ast.specs.Tree.{UpdateTree, assignment, selection, UpdateTrees, no_updates, updates, UpdateBranches, no_update_branches, update_branches}
use Rattle.cif_ast.specs.declared.names.Name.{Name}
use Rattle.cif_system.specs.Words.{Member}
use Rattle.cif_system.proofs.Distinct.{member-flat_map}
use Rattle.cif_system.proofs.Picks.{append-left, append-right, flat_map-member}
use Rattle.cif_source.specs.Source.{EdgeTree, EquationTree, LocationTree, SourceBody, group_body, automaton_body}
use Rattle.cif_source.specs.Components.{Component, body_of, params_of}
use Rattle.cif_source.specs.Objects.{locs_in}
use Rattle.cif_source.specs.Uses.{Use, names_in_all, asking, value_asked, variable_asked, event_asked, value_uses, event_uses, decl_uses, param_uses, updates_uses, update_uses, branches_uses, edge_uses, location_uses, body_uses, uses}
use Rattle.cif_source.proofs.ComponentLaws.{append-cases}
use Rattle.cif_source.specs.BodyRules.{edges_of, targets_of, targets_of_all, targets_of_branches, lists_of, lists_in, lists_in_all, lists_in_branches}

abbrev pub assigned_use : Name → Use
assigned_use nm = record { name = nm; asks = variable_asked }

mutual
  all-used : (us : UpdateTrees) (nm : Name) → Member nm (targets_of_all us) → Member (assigned_use nm) (updates_uses us)
  all-used no_updates nm m = absurd m
  all-used (updates u us) nm m =
      elim (append-cases nm (targets_of u) (targets_of_all us) m) [
        | inl w ↦ append-left (assigned_use nm) (update_uses u) (updates_uses us) (one-used u nm w)
        | inr w ↦ append-right (assigned_use nm) (update_uses u) (updates_uses us) (all-used us nm w)
      ]

  one-used : (u : UpdateTree) (nm : Name) → Member nm (targets_of u) → Member (assigned_use nm) (update_uses u)
  one-used (assignment x e) nm m = elim m [ inl w ↦ inl (ap assigned_use w) | inr w ↦ absurd w ]
  one-used (selection bs us) nm m =
      elim (append-cases nm (targets_of_branches bs) (targets_of_all us) m) [
        | inl w ↦ append-left (assigned_use nm) (branches_uses bs) (updates_uses us) (branches-used bs nm w)
        | inr w ↦ append-right (assigned_use nm) (branches_uses bs) (updates_uses us) (all-used us nm w)
      ]

  branches-used : (bs : UpdateBranches) (nm : Name) → Member nm (targets_of_branches bs) → Member (assigned_use nm) (branches_uses bs)
  branches-used no_update_branches nm m = absurd m
  branches-used (update_branches cs us bs) nm m =
      let conditions = asking value_asked (names_in_all cs) in
      elim (append-cases nm (targets_of_all us) (targets_of_branches bs) m) [
        | inl w ↦ append-left (assigned_use nm) (conditions ++ updates_uses us) (branches_uses bs) (append-right (assigned_use nm) conditions (updates_uses us) (all-used us nm w))
        | inr w ↦ append-right (assigned_use nm) (conditions ++ updates_uses us) (branches_uses bs) (branches-used bs nm w)
      ]

-- what a list within updates assigns, these updates assign
mutual
  within-all : (us vs : UpdateTrees) (nm : Name) → Member vs (lists_in_all us) → Member nm (targets_of_all vs) → Member nm (targets_of_all us)
  within-all no_updates vs nm l m = absurd l
  within-all (updates u us) vs nm l m =
      elim (append-cases vs (lists_in u) (lists_in_all us) l) [
        | inl w ↦ append-left nm (targets_of u) (targets_of_all us) (within-one u vs nm w m)
        | inr w ↦ append-right nm (targets_of u) (targets_of_all us) (within-all us vs nm w m)
      ]

  within-one : (u : UpdateTree) (vs : UpdateTrees) (nm : Name) → Member vs (lists_in u) → Member nm (targets_of_all vs) → Member nm (targets_of u)
  within-one (assignment x e) vs nm l m = absurd l
  within-one (selection bs us) vs nm l m =
      elim (append-cases vs (lists_in_branches bs) (us ∷ lists_in_all us) l) [
        | inl w ↦ append-left nm (targets_of_branches bs) (targets_of_all us) (within-branches bs vs nm w m)
        | inr w ↦ append-right nm (targets_of_branches bs) (targets_of_all us) (elim w [
          | inl v ↦ subst (λ z. Member nm (targets_of_all z)) v m
          | inr v ↦ within-all us vs nm v m
        ])
      ]

  within-branches : (bs : UpdateBranches) (vs : UpdateTrees) (nm : Name) → Member vs (lists_in_branches bs) → Member nm (targets_of_all vs) → Member nm (targets_of_branches bs)
  within-branches no_update_branches vs nm l m = absurd l
  within-branches (update_branches cs us bs) vs nm l m =
      elim l [
        | inl w ↦ append-left nm (targets_of_all us) (targets_of_branches bs) (subst (λ z. Member nm (targets_of_all z)) w m)
        | inr w ↦ elim (append-cases vs (lists_in_all us) (lists_in_branches bs) w) [
          | inl v ↦ append-left nm (targets_of_all us) (targets_of_branches bs) (within-all us vs nm v m)
          | inr v ↦ append-right nm (targets_of_all us) (targets_of_branches bs) (within-branches bs vs nm v m)
        ]
      ]

edge-within : (e : EdgeTree) (vs : UpdateTrees) (nm : Name) → Member vs (lists_of e) → Member nm (targets_of_all vs) → Member nm (targets_of_all e.updates)
edge-within e vs nm l m = elim l [ inl w ↦ subst (λ z. Member nm (targets_of_all z)) w m | inr w ↦ within-all e.updates vs nm w m ]

-- ---- a body

-- the names that are assigned
abbrev pub body_targets : Component → List Name
body_targets c = flat_map (λ (e : EdgeTree). targets_of_all e.updates) (edges_of c)

pub list-targets : (c : Component) (vs : UpdateTrees) (nm : Name) → Member vs (flat_map lists_of (edges_of c)) → Member nm (targets_of_all vs) → Member nm (body_targets c)
list-targets c vs nm l m =
    let e = member-flat_map lists_of vs (edges_of c) l in
    flat_map-member (λ (d : EdgeTree). targets_of_all d.updates) e.0 (edges_of c) nm e.1 (edge-within e.0 vs nm e.2 m)

edge-used : (e : EdgeTree) (nm : Name) → Member nm (targets_of_all e.updates) → Member (assigned_use nm) (edge_uses e)
edge-used e nm m =
    append-right (assigned_use nm) (flat_map event_uses e.uses ++ flat_map value_uses e.guards) (updates_uses e.updates) (all-used e.updates nm m)

location-used : (l : LocationTree) (e : EdgeTree) (nm : Name) → Member e l.edges → Member nm (targets_of_all e.updates) → Member (assigned_use nm) (location_uses l)
location-used l e nm k m =
    append-right (assigned_use nm) (flat_map value_uses l.marked ++ flat_map (λ (q : EquationTree). value_uses q.value) l.equations) (flat_map edge_uses l.edges)
    (flat_map-member edge_uses e l.edges (assigned_use nm) k (edge-used e nm m))

body-used : (c : Component) (b : SourceBody) (nm : Name) → Member nm (flat_map (λ (e : EdgeTree). targets_of_all e.updates) (flat_map (λ (l : LocationTree). l.edges) (locs_in b))) → Member (assigned_use nm) (body_uses c b)
body-used c (group_body is) nm m = absurd m
body-used c (automaton_body a) nm m =
    let e = member-flat_map (λ (e : EdgeTree). targets_of_all e.updates) nm (flat_map (λ (l : LocationTree). l.edges) a.locs) m in
    let l = member-flat_map (λ (l : LocationTree). l.edges) e.0 a.locs e.1 in
    append-right (assigned_use nm) (flat_map decl_uses a.decls ++ asking event_asked (unwrap_or a.alphabet []) ++ asking event_asked (unwrap_or a.monitor [])) (flat_map location_uses a.locs)
    (flat_map-member location_uses l.0 a.locs (assigned_use nm) l.1 (location-used l.0 e.0 nm l.2 e.2))

pub target-used : (c : Component) (nm : Name) → Member nm (body_targets c) → Member (assigned_use nm) (uses c)
target-used c nm m = append-right (assigned_use nm) (flat_map param_uses (params_of c)) (body_uses c (body_of c)) (body-used c (body_of c) nm m)
