-- The alphabets of a net have events of the net, and the events that an automaton monitors or synchronises on.
use Rattle.std.proofs.Common.{◌≡◌, ℕ, ◌<◌, true, false, inl, inr, List, [], ◌∷◌, ◌++◌, length, map, Option, Some, None, refl, sym, ◌∙◌, ap, subst, arith}
use Rattle.std.specs.Prelude.{not, nat_eq, flat_map, unwrap_or, IsTrue, if◌then◌else◌}
use Rattle.std.specs.List.{list_all, Any, cons_option}
use Rattle.cif_ast.specs.declared.names.Name.{Name}
use Rattle.cif_system.specs.Words.{Member}
use Rattle.cif_system.specs.System.{syncing}
use Rattle.cif_system.specs.Step.{same_role}
use Rattle.cif_system.proofs.Picks.{append-left, append-right, flat_map-member}
use Rattle.cif_system.proofs.Distinct.{member-map, member-flat_map}
use Rattle.cif_net_model.specs.Facts.{has}
use Rattle.cif_source.specs.Source.{RoleTree, syncs, sends, receives, AutomatonTree, automaton_body, Source}
use Rattle.cif_source.specs.Components.{Component, body_of}
use Rattle.cif_source.specs.Lookup.{denotes}
use Rattle.cif_source.specs.Objects.{components_of, automata, EventEdge, event_edges, events}
use Rattle.cif_source.specs.Uses.{uses}
use Rattle.cif_source.specs.Step.{event_at, role_of, synchronises}
use Rattle.cif_source.specs.InstanceRules as rules
use Rattle.cif_source.specs.InstanceRules.{synchronised_name, is_lacking}
use Rattle.cif_inst_model.specs.Flat.{event_number, named_events, alphabet_in, alphabet_of, monitored_in, monitored_events}
use Rattle.cif_inst_model.proofs.SystemLaws.{alphabet-same}
use Rattle.cif_inst_model.proofs.KeptLaws.{member-passes}
use Rattle.cif_inst_model.proofs.RuleLaws.{member-any, all-from}
use Rattle.cif_inst_laws.proofs.Sound.{IsSound, alphabets}
use Rattle.cif_inst_laws.proofs.Forms.{automaton-home, edge-of, use-of}
use Rattle.cif_inst_laws.proofs.Finding.{event-use, Numbered, numbered}
use Rattle.cif_inst_laws.proofs.Uses.{event-used, alphabet-used, monitor-used}
use Rattle.cif_inst_laws.proofs.Tests.{eq-true, true-else}

named-are : (c : Component) (nms : List Name) → ((nm : Name) → Member nm nms → event_at (denotes c nm) ≡ Some (event_number c nm)) → named_events c nms ≡ map (event_number c) nms
named-are c [] h = refl
named-are c (nm ∷ nms) h = ap (λ o. cons_option o (named_events c nms)) (h nm (inl refl)) ∙ ap (λ es. event_number c nm ∷ es) (named-are c nms (λ x m. h x (inr m)))

-- the name of the event of an edge
abbrev use_name : EventEdge → Name
use_name w = w.event_use.name

abbrev asked_by : RoleTree → Name → List Name
asked_by r nm = if same_role syncing (role_of r) then nm ∷ [] else []

-- an edge that synchronises names its event
synchronised-in : (w : EventEdge) (ws : List EventEdge) → Member w ws → w.event_use.role ≡ syncs → Member w.event_use.name (flat_map synchronised_name ws)
synchronised-in w ws m is = flat_map-member synchronised_name w ws w.event_use.name m (subst (λ r. Member w.event_use.name (asked_by r w.event_use.name)) (sym is) (inl refl))

only-asked : (r : RoleTree) (nm x : Name) → Member x (asked_by r nm) → x ≡ nm
only-asked syncs nm x m = elim m [ inl w ↦ w | inr w ↦ absurd w ]
only-asked (sends e) nm x m = absurd m
only-asked receives nm x m = absurd m

synchronised-from : (ws : List EventEdge) (x : Name) → Member x (flat_map synchronised_name ws) → (w : EventEdge) × Member w ws × (x ≡ use_name w)
synchronised-from ws x m =
    let w = member-flat_map synchronised_name x ws m in
    (w.0, w.1, only-asked w.0.event_use.role w.0.event_use.name x w.2)

-- the names there that are to be in the alphabet
abbrev asked_names : Component → List Name
asked_names c = flat_map synchronised_name (event_edges c) ++ rules.monitored_in (body_of c)

module _ (t : Source) (h : IsSound t) where
  used-numbered : (c : Component) → Member c (components_of t) → (nm : Name) → Member (event-use nm) (uses c) → Numbered t h c nm
  used-numbered c m nm k = numbered t h c m nm k

  pub edge-numbered : (c : Component) → Member c (components_of t) → (w : EventEdge) → Member w (event_edges c) → Numbered t h c w.event_use.name
  edge-numbered c m w k = used-numbered c m w.event_use.name (event-used c w.edge (edge-of c w k) w.event_use (use-of c w k))

  -- an event that is asked for stands in the alphabet
  inside-alphabet : (c : Component) → Member c (automata t) → (nm : Name) → Member nm (asked_names c) → event_at (denotes c nm) ≡ Some (event_number c nm) → has (alphabet_of c) (event_number c nm) ≡ true
  inside-alphabet c m nm k number =
      alphabet-same c (event_number c nm)
      ∙ true-else (synchronises (event_number c nm) c) (λ g.
      alphabets t h nm.at (member-any (λ d. Any (λ (x : Name). (x.at ≡ nm.at) × IsTrue (is_lacking d x)) (asked_names d)) c (automata t) m (member-any (λ (x : Name). (x.at ≡ nm.at) × IsTrue (is_lacking c x)) nm (asked_names c) k
      (refl, ap (λ o. elim o [ None ↦ false | Some x ↦ not (synchronises x c) ]) number ∙ ap not g))))

  -- the event of an edge that synchronises stands in the alphabet
  pub edge-inside : (c : Component) → Member c (automata t) → (w : EventEdge) → Member w (event_edges c) → w.event_use.role ≡ syncs → has (alphabet_of c) (event_number c w.event_use.name) ≡ true
  edge-inside c a w k is =
      inside-alphabet c a w.event_use.name
      (append-left w.event_use.name (flat_map synchronised_name (event_edges c)) (rules.monitored_in (body_of c)) (synchronised-in w (event_edges c) k is))
      (edge-numbered c (automaton-home t c a) w k).number

  module _ (c : Component) (m : Member c (automata t)) (a : AutomatonTree) (e : body_of c ≡ automaton_body a) where
    home : Member c (components_of t)
    home = automaton-home t c m

    alphabet-numbered : (nm : Name) → Member nm (unwrap_or a.alphabet []) → Numbered t h c nm
    alphabet-numbered nm k = used-numbered c home nm (alphabet-used c a e nm k)

    monitor-numbered : (nm : Name) → Member nm (unwrap_or a.monitor []) → Numbered t h c nm
    monitor-numbered nm k = used-numbered c home nm (monitor-used c a e nm k)

    -- ---- numbers below that of all events

    below-of : (nms : List Name) → ((nm : Name) → Member nm nms → Numbered t h c nm) → (x : ℕ) → Member x (named_events c nms) → x < length (events t)
    below-of nms u x y =
        let nm = member-map (event_number c) x nms (subst (Member x) (named-are c nms (λ nm k. (u nm k).number)) y) in
        omega (arith, nm.2, (u nm.0 nm.1).below)

    synchronised-numbered : (nm : Name) → Member nm (flat_map synchronised_name (event_edges c)) → Numbered t h c nm
    synchronised-numbered nm k =
        let w = synchronised-from (event_edges c) nm k in
        subst (Numbered t h c) (sym w.2) (edge-numbered c home w.0 w.1)

    pub alphabet-below : (x : ℕ) → Member x (alphabet_of c) → x < length (events t)
    alphabet-below x y = named a.alphabet alphabet-numbered (subst (Member x) (ap (alphabet_in c) e) y)
      where
        named : (o : Option (List Name)) → ((nm : Name) → Member nm (unwrap_or o []) → Numbered t h c nm)
            → Member x (named_events c (elim o [ None ↦ flat_map synchronised_name (event_edges c) | Some nms ↦ nms ])) → x < length (events t)
        named None u y = below-of (flat_map synchronised_name (event_edges c)) synchronised-numbered x y
        named (Some nms) u y = below-of nms u x y

    -- ---- what is monitored

    pub monitors-inside : list_all (has (alphabet_of c)) (monitored_in c (body_of c)) ≡ true
    monitors-inside = ap (λ b. list_all (has (alphabet_of c)) (monitored_in c b)) e ∙ named a.monitor refl
      where
        each : (nms : List Name) → a.monitor ≡ Some nms → (x : ℕ) → Member x (named_events c nms) → has (alphabet_of c) x ≡ true
        each nms is x y =
            let known = λ (nm : Name) (k : Member nm nms). monitor-numbered nm (subst (λ o. Member nm (unwrap_or o [])) (sym is) k) in
            let nm = member-map (event_number c) x nms (subst (Member x) (named-are c nms (λ nm k. (known nm k).number)) y) in
            let asked : Member nm.0 (rules.monitored_in (body_of c)) = subst (λ b. Member nm.0 (rules.monitored_in b)) (sym e) (subst (λ o. Member nm.0 (unwrap_or o [])) (sym is) nm.1) in
            ap (has (alphabet_of c)) nm.2
            ∙ inside-alphabet c m nm.0 (append-right nm.0 (flat_map synchronised_name (event_edges c)) (rules.monitored_in (body_of c)) asked) (known nm.0 nm.1).number

        named : (o : Option (List Name)) → a.monitor ≡ o → list_all (has (alphabet_of c)) (monitored_events c o) ≡ true
        named None is = refl
        named (Some []) is = all-from (has (alphabet_of c)) (alphabet_of c) (λ x k. member-passes (λ y. nat_eq x y) (alphabet_of c) x k (eq-true x x refl))
        named (Some (nm ∷ nms)) is = all-from (has (alphabet_of c)) (named_events c (nm ∷ nms)) (each (nm ∷ nms) is)
