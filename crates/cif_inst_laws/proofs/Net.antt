-- The net of a source that keeps its rules is a net.
use Rattle.std.proofs.Common.{◌≡◌, ℕ, suc, ◌≤◌, ◌<◌, Bool, true, List, [], ◌∷◌, ◌++◌, length, map, Option, Some, None, refl, sym, ◌∙◌, ap, arith}
use Rattle.std.specs.Prelude.{◌&&◌, nat_eq, nat_le, nat_lt, flat_map, option_map, option_to_list}
use Rattle.std.specs.List.{list_all}
use Rattle.cif_ast.specs.Tree.{Tree}
use Rattle.cif_ast.specs.declared.names.Name.{Name}
use Rattle.cif_system.specs.Words.{Member}
use Rattle.cif_system.proofs.Lists.{false-true, filter-within, filter-passes, map-length}
use Rattle.cif_system.proofs.Picks.{flat_map-member}
use Rattle.cif_system.proofs.Distinct.{member-map, member-flat_map}
use Rattle.cif_net_expr.specs.Tree.{NetExpr}
use Rattle.cif_net_model.specs.Kinds.{bool_kind, fits}
use Rattle.cif_net_model.specs.Exprs.{Written, writes_all, edge_values}
use Rattle.cif_net_model.specs.Facts.{is_net, things, event_stands, stored_stands, auto_stands, alg_stands, exclusion_stands, invariant_stands, channel_of, received_type, role_stands, is_one_role, edge_stands, updates_stand, are_below, has, auto_targets, are_all_apart}
use Rattle.cif_source.specs.Source.{tree_at, EdgeTree, DeclTree, type_decl, enum_decl, event_decl, const_decl, alg_decl, input_decl, disc_decl, equation_decl, invariant_decl, marked_decl, SourceBody, group_body, automaton_body, AutomatonTree, Source}
use Rattle.cif_source.specs.Components.{Component, as_written, body_of}
use Rattle.cif_source.specs.Objects.{components_of, automata, is_automaton, locs_of, EventEdge, event_edges, events, is_event, is_input, is_variable, is_alg, of_sort, Declared, declarations, decls_of}
use Rattle.cif_source.specs.Step.{end_of, first_place, role_of}
use Rattle.cif_source.specs.Demands.{event_channel, edge_received}
use Rattle.cif_source.specs.BodyRules.{edges_of, targets_of_all}
use Rattle.cif_inst_laws.specs.Forms.{HasSmallArguments}
use Rattle.cif_inst_laws.proofs.SoundLaws as fits
use Rattle.cif_inst_laws.proofs.TypeLaws.{type-fits}
use Rattle.cif_inst_model.specs.Flat.{net_of_source, net_auto, net_edge, net_event, net_stored, net_alg, net_exclusions, net_invariants, event_number, location_name, alphabet_of, monitored_in, sent_tree, value_places, net_updates_of, variable_number}
use Rattle.cif_inst_model.specs.Translation.{net_of, net_guard}
use Rattle.cif_inst_model.specs.Small.{HasSmallParts}
use Rattle.cif_inst_model.specs.WellFormed.{algebraic, KeepsBefore}
use Rattle.cif_inst_model.proofs.RuleLaws.{all-from}
use Rattle.cif_inst_bodies.proofs.RuleLaws.{uses-fit}
use Rattle.cif_inst_laws.proofs.Sound.{edge-written, IsSound, matched, as-body}
use Rattle.cif_inst_laws.proofs.Forms.{automaton-home, edge-of, use-of}
use Rattle.cif_inst_laws.proofs.Uses.{event-used}
use Rattle.cif_inst_laws.proofs.Things.{things-few, declared-home}
use Rattle.cif_inst_laws.proofs.Types.{event-stands, variable-stands, input-stands}
use Rattle.cif_inst_laws.proofs.Algebra.{alg-stands}
use Rattle.cif_inst_laws.proofs.Predicates.{exclusion-stands, invariant-stands}
use Rattle.cif_inst_laws.proofs.Targets.{from-small, end-small, first-small}
use Rattle.cif_inst_laws.proofs.Alphabets.{edge-numbered, alphabet-below, monitors-inside}
use Rattle.cif_inst_laws.proofs.Channels.{ChannelFits, channel-fits}
use Rattle.cif_inst_laws.proofs.Roles.{role-stands, sends-type, received-is, one-role}
use Rattle.cif_inst_laws.proofs.Demanded.{guards-met, uses-met, updates-met}
use Rattle.cif_inst_laws.proofs.Assigning.{targets-are, leads, lists-apart}
use Rattle.cif_inst_laws.proofs.Updates.{KeepExpressions, KeepKinds, updates-stand}
use Rattle.cif_inst_laws.proofs.Apart.{autos-apart}
use Rattle.cif_inst_laws.proofs.Tests.{both, le-true, lt-true, eq-true}

-- ---- the tests of an edge and those of a net

all-nine : (a b c d e f g h i : Bool) → a ≡ true → b ≡ true → c ≡ true → d ≡ true → e ≡ true → f ≡ true → g ≡ true → h ≡ true → i ≡ true → (a && b && c && d && e && f && g && h && i) ≡ true
all-nine a b c d e f g h i j k l m n o p q r =
    both (a && b && c && d && e && f && g && h) i
    (both (a && b && c && d && e && f && g) h
    (both (a && b && c && d && e && f) g
    (both (a && b && c && d && e) f
    (both (a && b && c && d) e
    (both (a && b && c) d (both (a && b) c (both a b j k) l) m) n) o) p) q) r

-- ---- places of values

abbrev sent_places : Option Tree → List ℕ
sent_places o = elim o [ None ↦ [] | Some e ↦ tree_at e ∷ [] ]

sent-placed : (f : Tree → NetExpr) (o : Option Tree) (xs : List ℕ) (ys : List NetExpr) → length xs ≡ length ys → length (sent_places o ++ xs) ≡ length (option_to_list (option_map f o) ++ ys)
sent-placed f None xs ys h = h
sent-placed f (Some e) xs ys h = ap suc h

sent-few : (o : Option Tree) (xs : List ℕ) → length (sent_places o ++ xs) ≤ suc (length xs)
sent-few None xs = omega arith
sent-few (Some e) xs = omega arith

use-listed : (c : Component) (w : EventEdge) → Member w (event_edges c) → Member w.event_use (flat_map (λ (e : EdgeTree). e.uses) (edges_of c))
use-listed c w k = flat_map-member (λ (e : EdgeTree). e.uses) w.edge (edges_of c) w.event_use (edge-of c w k) (use-of c w k)

automaton-tree : (b : SourceBody) → is_automaton b ≡ true → (a : AutomatonTree) × (b ≡ automaton_body a)
automaton-tree (group_body is) g = absurd (false-true refl g)
automaton-tree (automaton_body a) g = (a, refl)

module _ (t : Source) (h : IsSound t) (s : fits.IsSound t) (small : HasSmallParts t) (few : HasSmallArguments t) (kept : KeepKinds t) where
  -- ---- edges

  -- a place for each value
  placed : (c : Component) (w : EventEdge) → length (value_places w) ≡ length (edge_values (net_edge c w))
  placed c w =
      sent-placed (net_of c) (sent_tree w.event_use.role) (map (λ (nm : Name). nm.at) (targets_of_all w.edge.updates)) (map (λ (x : Written). x.value) (writes_all (net_updates_of c w.edge.updates)))
      (map-length (λ (nm : Name). nm.at) (targets_of_all w.edge.updates)
      ∙ sym (map-length (variable_number c) (targets_of_all w.edge.updates))
      ∙ sym (ap length (targets-are c w.edge.updates))
      ∙ map-length (λ (x : Written). x.var) (writes_all (net_updates_of c w.edge.updates))
      ∙ sym (map-length (λ (x : Written). x.value) (writes_all (net_updates_of c w.edge.updates))))

  few-places : (c : Component) → Member c (components_of t) → (w : EventEdge) → Member w (event_edges c) → length (value_places w) < 4294967296
  few-places c m w k =
      let assigned : length (targets_of_all w.edge.updates) < 2147483648 = small.few (as_written c) (as-body t h c m) w.edge (edge-written c w.edge (edge-of c w k)) in
      omega (arith, assigned, map-length (λ (nm : Name). nm.at) (targets_of_all w.edge.updates), sent-few (sent_tree w.event_use.role) (map (λ (nm : Name). nm.at) (targets_of_all w.edge.updates)))

  module _ (c : Component) (auto : Member c (automata t)) (a : AutomatonTree) (body : body_of c ≡ automaton_body a) where
    home : Member c (components_of t)
    home = automaton-home t c auto

    module _ (w : EventEdge) (k : Member w (event_edges c)) where
      abbrev number : ℕ
      number = event_number c w.event_use.name

      on : Member w.edge (edges_of c)
      on = edge-of c w k

      chan-fits : ChannelFits (event_channel c w.event_use.name) (channel_of (net_of_source t) number)
      chan-fits = channel-fits t s c home w.event_use.name (event-used c w.edge on w.event_use (use-of c w k))

      edge-role : role_stands (net_of_source t) (role_of w.event_use.role) (channel_of (net_of_source t) number) (option_map (net_of c) (sent_tree w.event_use.role)) ≡ true
      edge-role =
          role-stands (net_of_source t) (net_of c) w.event_use.role (event_channel c w.event_use.name) (channel_of (net_of_source t) number) chan-fits
          (uses-fit t (matched t h) c (as-body t h c home) w.event_use (use-listed c w k))
          (sends-type t kept.expressions c home w.event_use chan-fits (uses-met t h c home w.edge on w.event_use (use-of c w k))
          (few.sent (as_written c) (as-body t h c home) w.edge (edge-written c w.edge on) w.event_use (use-of c w k)))

      edge-updates : updates_stand (net_of_source t) (received_type (net_of_source t) (net_edge c w)) (net_updates_of c w.edge.updates) ≡ true
      edge-updates =
          updates-stand t h kept c home (edge_received c w.edge.uses) (received_type (net_of_source t) (net_edge c w)) (received-is t c w (use-of c w k) chan-fits)
          w.edge.updates (updates-met t h c home w.edge on) (small.updates (as_written c) (as-body t h c home) w.edge (edge-written c w.edge on)) (leads t h c home w.edge on) (lists-apart t h c home w.edge on)

      one-edge : edge_stands (net_of_source t) (net_auto c) (net_edge c w) ≡ true
      one-edge =
          all-nine (nat_lt number (length (map net_event (events t)))) (nat_lt w.from (length (map location_name (locs_of c)))) (nat_lt (end_of c w) (length (map location_name (locs_of c))))
          (fits (net_of_source t) None bool_kind (net_guard c w.event_use.name.at w.edge.guards))
          (role_stands (net_of_source t) (role_of w.event_use.role) (channel_of (net_of_source t) number) (option_map (net_of c) (sent_tree w.event_use.role)))
          (updates_stand (net_of_source t) (received_type (net_of_source t) (net_edge c w)) (net_updates_of c w.edge.updates))
          (nat_eq (length (value_places w)) (length (edge_values (net_edge c w)))) (nat_lt (length (value_places w)) 4294967296) (is_one_role (net_auto c) (net_edge c w))
          (lt-true number (length (map net_event (events t))) (omega (arith, (edge-numbered t h c home w k).below, map-length net_event (events t))))
          (lt-true w.from (length (map location_name (locs_of c))) (omega (arith, from-small c w k, map-length location_name (locs_of c))))
          (lt-true (end_of c w) (length (map location_name (locs_of c))) (omega (arith, end-small t h c home a body w k, map-length location_name (locs_of c))))
          (kept.expressions.guards c w.event_use.name.at w.edge.guards home (guards-met t h c home w.edge on) (small.guards (as_written c) (as-body t h c home) w.edge (edge-written c w.edge on)))
          edge-role
          edge-updates
          (eq-true (length (value_places w)) (length (edge_values (net_edge c w))) (placed c w))
          (lt-true (length (value_places w)) 4294967296 (few-places c home w k))
          (one-role t h c auto w k)

    -- ---- automata

    one-auto : is_automaton (body_of c) ≡ true → auto_stands (net_of_source t) (net_auto c) ≡ true
    one-auto is =
        both (nat_lt (first_place c) (length (map location_name (locs_of c))) && are_below (length (map net_event (events t))) (alphabet_of c) && list_all (has (alphabet_of c)) (monitored_in c (body_of c))) (list_all (edge_stands (net_of_source t) (net_auto c)) (map (net_edge c) (event_edges c)))
        (both (nat_lt (first_place c) (length (map location_name (locs_of c))) && are_below (length (map net_event (events t))) (alphabet_of c)) (list_all (has (alphabet_of c)) (monitored_in c (body_of c)))
        (both (nat_lt (first_place c) (length (map location_name (locs_of c)))) (are_below (length (map net_event (events t))) (alphabet_of c))
        (lt-true (first_place c) (length (map location_name (locs_of c))) (omega (arith, first-small t h c home is, map-length location_name (locs_of c))))
        (all-from (λ e. nat_lt e (length (map net_event (events t)))) (alphabet_of c) (λ e k.
        lt-true e (length (map net_event (events t))) (omega (arith, alphabet-below t h c auto a body e k, map-length net_event (events t))))))
        (monitors-inside t h c auto a body))
        (all-from (edge_stands (net_of_source t) (net_auto c)) (map (net_edge c) (event_edges c)) (λ x k.
        let w = member-map (net_edge c) x (event_edges c) k in
        ap (edge_stands (net_of_source t) (net_auto c)) w.2 ∙ one-edge w.0 w.1))

  autos-stand : list_all (auto_stands (net_of_source t)) (map net_auto (automata t)) ≡ true
  autos-stand =
      all-from (auto_stands (net_of_source t)) (map net_auto (automata t)) (λ x m.
      let c = member-map net_auto x (automata t) m in
      let is : is_automaton (body_of c.0) ≡ true = filter-passes (λ c. is_automaton (body_of c)) (components_of t) c.0 c.1 in
      let tree = automaton-tree (body_of c.0) is in
      ap (auto_stands (net_of_source t)) c.2 ∙ one-auto c.0 c.1 tree.0 tree.1 is)

  -- ---- events, variables, inputs and algebraic variables

  -- what holds of each declaration of a sort holds of what all of them become
  all-stand : {A : Type 0} (sort : DeclTree → Bool) (f : Declared → A) (test : A → Bool) → ((c : Component) → Member c (components_of t) → (d : DeclTree) → Member d (decls_of c) → sort d ≡ true → test (f (c, d)) ≡ true)
      → list_all test (map f (of_sort sort t)) ≡ true
  all-stand sort f test each =
      all-from test (map f (of_sort sort t)) (λ x m.
      let d = member-map f x (of_sort sort t) m in
      let k = declared-home t h d.0 (filter-within (λ (d : Declared). sort d.1) (declarations t) d.0 d.1) in
      ap test d.2 ∙ each d.0.0 k.0 d.0.1 k.1 (filter-passes (λ (d : Declared). sort d.1) (declarations t) d.0 d.1))

  one-event : (c : Component) → Member c (components_of t) → (d : DeclTree) → Member d (decls_of c) → is_event d ≡ true → event_stands (net_event (c, d)) ≡ true
  one-event c m (event_decl x y n) k v = event-stands t s c m x y n k
  one-event c m (disc_decl ty n e) k v = absurd (false-true refl v)
  one-event c m (type_decl n ty) k v = absurd (false-true refl v)
  one-event c m (enum_decl n ls) k v = absurd (false-true refl v)
  one-event c m (const_decl ty n e) k v = absurd (false-true refl v)
  one-event c m (alg_decl ty n e) k v = absurd (false-true refl v)
  one-event c m (input_decl ty n) k v = absurd (false-true refl v)
  one-event c m (equation_decl q) k v = absurd (false-true refl v)
  one-event c m (invariant_decl i) k v = absurd (false-true refl v)
  one-event c m (marked_decl p) k v = absurd (false-true refl v)

  one-variable : (c : Component) → Member c (components_of t) → (d : DeclTree) → Member d (decls_of c) → is_variable d ≡ true → stored_stands (net_stored (c, d)) ≡ true
  one-variable c m (disc_decl ty n e) k v = variable-stands t s c m ty n e k
  one-variable c m (type_decl n ty) k v = absurd (false-true refl v)
  one-variable c m (enum_decl n ls) k v = absurd (false-true refl v)
  one-variable c m (event_decl x y n) k v = absurd (false-true refl v)
  one-variable c m (const_decl ty n e) k v = absurd (false-true refl v)
  one-variable c m (alg_decl ty n e) k v = absurd (false-true refl v)
  one-variable c m (input_decl ty n) k v = absurd (false-true refl v)
  one-variable c m (equation_decl q) k v = absurd (false-true refl v)
  one-variable c m (invariant_decl i) k v = absurd (false-true refl v)
  one-variable c m (marked_decl p) k v = absurd (false-true refl v)

  one-input : (c : Component) → Member c (components_of t) → (d : DeclTree) → Member d (decls_of c) → is_input d ≡ true → stored_stands (net_stored (c, d)) ≡ true
  one-input c m (input_decl ty n) k v = input-stands t s c m ty n k
  one-input c m (type_decl n ty) k v = absurd (false-true refl v)
  one-input c m (enum_decl n ls) k v = absurd (false-true refl v)
  one-input c m (event_decl x y n) k v = absurd (false-true refl v)
  one-input c m (const_decl ty n e) k v = absurd (false-true refl v)
  one-input c m (alg_decl ty n e) k v = absurd (false-true refl v)
  one-input c m (disc_decl ty n e) k v = absurd (false-true refl v)
  one-input c m (equation_decl q) k v = absurd (false-true refl v)
  one-input c m (invariant_decl i) k v = absurd (false-true refl v)
  one-input c m (marked_decl p) k v = absurd (false-true refl v)

  one-alg : (c : Component) → Member c (components_of t) → (d : DeclTree) → Member d (decls_of c) → is_alg d ≡ true → alg_stands (net_of_source t) (net_alg (c, d)) ≡ true
  one-alg c m (alg_decl ty n e) k v = alg-stands t h s small kept c m ty n e k
  one-alg c m (type_decl n ty) k v = absurd (false-true refl v)
  one-alg c m (enum_decl n ls) k v = absurd (false-true refl v)
  one-alg c m (event_decl x y n) k v = absurd (false-true refl v)
  one-alg c m (const_decl ty n e) k v = absurd (false-true refl v)
  one-alg c m (input_decl ty n) k v = absurd (false-true refl v)
  one-alg c m (disc_decl ty n e) k v = absurd (false-true refl v)
  one-alg c m (equation_decl q) k v = absurd (false-true refl v)
  one-alg c m (invariant_decl i) k v = absurd (false-true refl v)
  one-alg c m (marked_decl p) k v = absurd (false-true refl v)

  -- ---- exclusions and state invariants

  -- what holds of each of those that a declaration becomes holds of all
  all-made : {A : Type 0} (f : Declared → List A) (test : A → Bool) → ((c : Component) → Member c (components_of t) → (d : DeclTree) → Member d (decls_of c) → (x : A) → Member x (f (c, d)) → test x ≡ true)
      → list_all test (flat_map f (declarations t)) ≡ true
  all-made f test each =
      all-from test (flat_map f (declarations t)) (λ x m.
      let d = member-flat_map f x (declarations t) m in
      let k = declared-home t h d.0 d.1 in
      each d.0.0 k.0 d.0.1 k.1 x d.2)

  -- ---- the net

  sound-net : is_net (net_of_source t) ≡ true
  sound-net =
      let n = net_of_source t in
      all-nine (nat_le (things n) 100000) (list_all event_stands n.events) (list_all stored_stands n.inputs) (list_all stored_stands n.vars) (list_all (auto_stands n) n.autos) (list_all (alg_stands n) n.algs) (list_all (exclusion_stands n) n.exclusions) (list_all (invariant_stands n) n.invariants) (are_all_apart (map auto_targets n.autos))
      (le-true (things n) 100000 (things-few t h))
      (all-stand is_event net_event event_stands one-event)
      (all-stand is_input net_stored stored_stands one-input)
      (all-stand is_variable net_stored stored_stands one-variable)
      autos-stand
      (all-stand is_alg net_alg (alg_stands n) one-alg)
      (all-made net_exclusions (exclusion_stands n) (exclusion-stands t h few kept.expressions))
      (all-made net_invariants (invariant_stands n) (invariant-stands t h few kept.expressions))
      (autos-apart t h)

-- the net of a source is a net, where its expressions keep their kinds
pub net-stands : (t : Source) → KeepsBefore t algebraic → HasSmallParts t → HasSmallArguments t → KeepExpressions t → is_net (net_of_source t) ≡ true
net-stands t keeps small few kept =
    let s : fits.IsSound t = fits.sound t keeps small few in
    sound-net t keeps s small few
    (record { types = λ c m x k v. (type-fits t s (net_of_source t) c m x k v).same; expressions = kept })
