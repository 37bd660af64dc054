-- The alphabets and monitors that are made are those of the net of a source.
use Rattle.std.proofs.Common.{◌≡◌, ℕ, ◌<◌, true, false, inl, inr, List, [], ◌∷◌, ◌++◌, length, map, Option, Some, None, refl, sym, ◌∙◌, ap, subst, arith}
use Rattle.std.specs.Prelude.{flat_map, unwrap_or, if◌then◌else◌}
use Rattle.cif_ast.specs.declared.names.Name.{Name}
use Rattle.cif_system.specs.Words.{Member}
use Rattle.cif_system.proofs.Picks.{append-left, append-right, map-member}
use Rattle.cif_system.proofs.Distinct.{member-map}
use Rattle.cif_source.specs.Source.{AutomatonTree, automaton_body, Source}
use Rattle.cif_source.specs.Components.{Component, body_of, params_of}
use Rattle.cif_source.specs.Objects.{components_of, EventEdge, event_edges, events}
use Rattle.cif_source.specs.Uses.{event_asked, asking, param_uses, body_uses, decl_uses, location_uses}
use Rattle.cif_source.specs.Step.{role_of}
use Rattle.cif_system.specs.System.{Role, syncing}
use Rattle.cif_system.specs.Step.{same_role}
use Rattle.cif_source.specs.InstanceRules.{synchronised_name}
use Rattle.cif_inst_model.proofs.FoundLaws.{flat-cases}
use Rattle.cif_inst_model.specs.Flat.{event_number, named_events, alphabet_in, alphabet_of, monitored_in, monitored_events, net_edge}
use Rattle.cif_inst_names.specs.Looking.{component_at}
use Rattle.cif_inst_names.specs.declared.looking.Looking.{Looking}
use Rattle.cif_inst_automata.specs.Edges.{automaton_edges}
use Rattle.cif_inst_automata.specs.Alphabets.{automaton_used, events_as, synced_events, alphabet_by, alphabet_for, monitors_by, monitors_for}
use Rattle.cif_inst_paths.proofs.SoundLaws.{IsSound}
use Rattle.cif_inst_automata.proofs.EdgeLaws.{role-back}
use Rattle.cif_inst_automata.proofs.ListedLaws.{used_by, used-edges}
use Rattle.cif_inst_paths.proofs.EventNameLaws.{event-use, Numbered, used-numbered, named-are}
use Rattle.cif_inst_automata.proofs.UseLaws.{edge-event-used}

-- ---- names of events

alphabet-in-body : (c : Component) (a : AutomatonTree) (nm : Name) → Member nm (unwrap_or a.alphabet []) → Member (event-use nm) (body_uses c (automaton_body a))
alphabet-in-body c a nm m =
    append-left (event-use nm) (flat_map decl_uses a.decls ++ asking event_asked (unwrap_or a.alphabet []) ++ asking event_asked (unwrap_or a.monitor [])) (flat_map location_uses a.locs)
    (append-left (event-use nm) (flat_map decl_uses a.decls ++ asking event_asked (unwrap_or a.alphabet [])) (asking event_asked (unwrap_or a.monitor []))
    (append-right (event-use nm) (flat_map decl_uses a.decls) (asking event_asked (unwrap_or a.alphabet [])) (map-member event-use nm (unwrap_or a.alphabet []) m)))

monitor-in-body : (c : Component) (a : AutomatonTree) (nm : Name) → Member nm (unwrap_or a.monitor []) → Member (event-use nm) (body_uses c (automaton_body a))
monitor-in-body c a nm m =
    append-left (event-use nm) (flat_map decl_uses a.decls ++ asking event_asked (unwrap_or a.alphabet []) ++ asking event_asked (unwrap_or a.monitor [])) (flat_map location_uses a.locs)
    (append-right (event-use nm) (flat_map decl_uses a.decls ++ asking event_asked (unwrap_or a.alphabet [])) (asking event_asked (unwrap_or a.monitor [])) (map-member event-use nm (unwrap_or a.monitor []) m))

-- ---- the names of the edges in one role

abbrev pub role_name : Role → EventEdge → List Name
role_name p w = if same_role p (role_of w.event_use.role) then w.event_use.name ∷ [] else []

abbrev pub role_names : Role → Component → List Name
role_names p c = flat_map (role_name p) (event_edges c)

its-name : (p : Role) (w : EventEdge) (nm : Name) → Member nm (role_name p w) → nm ≡ w.event_use.name
its-name p w nm m =
    (elim (same_role p (role_of w.event_use.role)) as (λ b. Member nm (if b then w.event_use.name ∷ [] else []) → nm ≡ w.event_use.name) [
      | true ↦ λ k. elim k [ inl x ↦ x | inr x ↦ absurd x ]
      | false ↦ λ k. absurd k
    ]) m

-- the events in one role, of the uses of edges of the net
pub role-events : (p : Role) (c : Component) (ws : List EventEdge) → events_as p (map used_by (map (net_edge c) ws)) ≡ map (event_number c) (flat_map (role_name p) ws)
role-events p c [] = refl
role-events p c (w ∷ ws) =
    ap (λ r. (if same_role p r then event_number c w.event_use.name ∷ [] else []) ++ events_as p (map used_by (map (net_edge c) ws))) (role-back (role_of w.event_use.role))
    ∙ (elim (same_role p (role_of w.event_use.role)) as (λ b. (if b then event_number c w.event_use.name ∷ [] else []) ++ events_as p (map used_by (map (net_edge c) ws))
    ≡ map (event_number c) ((if b then w.event_use.name ∷ [] else []) ++ flat_map (role_name p) ws)) [
      | true ↦ ap (λ es. event_number c w.event_use.name ∷ es) (role-events p c ws)
      | false ↦ role-events p c ws
    ])

module _ (t : Source) (h : IsSound t) where
  pub edge-numbered : (c : Component) → Member c (components_of t) → (w : EventEdge) → Member w (event_edges c) → Numbered t c w.event_use.name
  edge-numbered c m w k = used-numbered t h c m w.event_use.name (edge-event-used c w k)

  pub role-numbered : (c : Component) → Member c (components_of t) → (p : Role) (nm : Name) → Member nm (role_names p c) → Numbered t c nm
  role-numbered c m p nm k =
      let w = flat-cases (role_name p) nm (event_edges c) k in
      subst (Numbered t c) (sym (its-name p w.0 nm w.2)) (edge-numbered c m w.0 w.1)

  module _ (c : Component) (m : Member c (components_of t)) (a : AutomatonTree) (e : body_of c ≡ automaton_body a) where
    in-body : (nm : Name) → Member (event-use nm) (body_uses c (automaton_body a)) → Numbered t c nm
    in-body nm k = used-numbered t h c m nm (append-right (event-use nm) (flat_map param_uses (params_of c)) (body_uses c (body_of c)) (subst (λ b. Member (event-use nm) (body_uses c b)) (sym e) k))

    alphabet-numbered : (nm : Name) → Member nm (unwrap_or a.alphabet []) → Numbered t c nm
    alphabet-numbered nm k = in-body nm (alphabet-in-body c a nm k)

    pub monitor-numbered : (nm : Name) → Member nm (unwrap_or a.monitor []) → Numbered t c nm
    monitor-numbered nm k = in-body nm (monitor-in-body c a nm k)

    -- ---- numbers below that of all events

    below-of : (nms : List Name) → ((nm : Name) → Member nm nms → Numbered t c nm) → (x : ℕ) → Member x (named_events c nms) → x < length (events t)
    below-of nms u x y =
        let nm = member-map (event_number c) x nms (subst (Member x) (named-are c nms (λ nm k. (u nm k).number)) y) in
        omega (arith, nm.2, (u nm.0 nm.1).below)

    pub alphabet-below : (x : ℕ) → Member x (alphabet_of c) → x < length (events t)
    alphabet-below x y = named a.alphabet alphabet-numbered (subst (Member x) (ap (alphabet_in c) e) y)
      where
        named : (o : Option (List Name)) → ((nm : Name) → Member nm (unwrap_or o []) → Numbered t c nm)
            → Member x (named_events c (elim o [ None ↦ flat_map synchronised_name (event_edges c) | Some nms ↦ nms ])) → x < length (events t)
        named None u y = below-of (role_names syncing c) (role-numbered c m syncing) x y
        named (Some nms) u y = below-of nms u x y

    pub monitors-below : (x : ℕ) → Member x (monitored_in c (body_of c)) → x < length (events t)
    monitors-below x y = named a.monitor monitor-numbered (subst (Member x) (ap (monitored_in c) e) y)
      where
        named : (o : Option (List Name)) → ((nm : Name) → Member nm (unwrap_or o []) → Numbered t c nm) → Member x (monitored_events c o) → x < length (events t)
        named None u y = absurd y
        named (Some []) u y = alphabet-below x y
        named (Some (nm ∷ nms)) u y = below-of (nm ∷ nms) u x y

-- ---- alphabets

module _ (l : Looking) (k : ℕ) (t : Source) (h : IsSound t) (m : Member (component_at l k) (components_of t)) (a : AutomatonTree) (e : body_of (component_at l k) ≡ automaton_body a) (edges : automaton_edges l k a ≡ map (net_edge (component_at l k)) (event_edges (component_at l k))) where
  abbrev own : Component
  own = component_at l k

  -- the events of its edges in one role
  pub roles-are : (p : Role) → events_as p (automaton_used l k a) ≡ map (event_number own) (role_names p own)
  roles-are p = ap (events_as p) (used-edges l k a ∙ ap (map used_by) edges) ∙ role-events p own (event_edges own)

  pub alphabet-is : alphabet_of own ≡ alphabet_for l k a
  alphabet-is =
      ap (alphabet_in own) e
      ∙ (elim a.alphabet as (λ o. ((nm : Name) → Member nm (unwrap_or o []) → Numbered t own nm)
      → named_events own (elim o [ None ↦ flat_map synchronised_name (event_edges own) | Some nms ↦ nms ]) ≡ alphabet_by l k o (synced_events l k a)) [
        | None ↦ λ u. named-are own (role_names syncing own) (λ nm x. (role-numbered t h own m syncing nm x).number) ∙ sym (roles-are syncing)
        | Some nms ↦ λ u. named-are own nms (λ nm x. (u nm x).number)
      ]) (alphabet-numbered t h own m a e)

  pub monitors-are : monitored_in own (body_of own) ≡ monitors_for l k a
  monitors-are =
      ap (monitored_in own) e
      ∙ named a.monitor (monitor-numbered t h own m a e)
    where
      named : (o : Option (List Name)) → ((nm : Name) → Member nm (unwrap_or o []) → Numbered t own nm) → monitored_events own o ≡ monitors_by l k o (alphabet_for l k a)
      named None u = refl
      named (Some []) u = alphabet-is
      named (Some (nm ∷ nms)) u = named-are own (nm ∷ nms) (λ x y. (u x y).number)

  pub role-below : (p : Role) (x : ℕ) → Member x (events_as p (automaton_used l k a)) → x < length (events t)
  role-below p x y =
      let nm = member-map (event_number own) x (role_names p own) (subst (Member x) (roles-are p) y) in
      omega (arith, nm.2, (role-numbered t h own m p nm.0 nm.1).below)
