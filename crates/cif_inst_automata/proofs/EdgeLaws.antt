-- The edges that are made are those of the net of a source.
use Rattle.std.proofs.Common.{◌≡◌, ℕ, suc, ◌+◌, Bool, true, false, cond, inl, inr, List, [], ◌∷◌, ◌++◌, length, map, find, append_assoc, Option, Some, None, refl, sym, ◌∙◌, ap, arith}
use Rattle.std.specs.Prelude.{not, flat_map, filter_map, option_map}
use Rattle.std.specs.List.{list_all, enumerate_from, position_or_len, cons_option}
use Rattle.std.specs.Cmp.Lexicographic as words
use Rattle.std.proofs.lemmas.List.{map-append}
use Rattle.cif_ast.specs.View.{view as source_view, view_updates as source_updates}
use Rattle.cif_ast.specs.declared.edges.Edge.{Edge}
use Rattle.cif_ast.specs.declared.edges.EventUse.{EventUse}
use Rattle.cif_ast.specs.declared.names.Ident.{Ident}
use Rattle.cif_net_expr.specs.View.{view, view_updates}
use Rattle.cif_net_expr.specs.declared.expressions.NetExpr.{NetExpr}
use Rattle.cif_net_expr.specs.declared.updates.NetUpdate.{NetUpdate}
use Rattle.cif_net.specs.declared.automata.NetEdge.{NetEdge as NetEdgeOf}
use Rattle.cif_net.specs.declared.automata.NetRole.{NetRole}
use Rattle.cif_net.specs.View.{role_of as net_role, edge_tree as net_tree}
use Rattle.cif_system.specs.Words.{Member}
use Rattle.cif_system.specs.System.{Role, syncing, sending, receiving}
use Rattle.cif_system.proofs.Lists.{false-true, some-same, none-some, find-passes}
use Rattle.cif_system.proofs.Picks.{map-member, append-right}
use Rattle.cif_source.specs.Source.{Text, ParamTree, role_tree, use_tree, edge_tree, UseTree, EdgeTree, LocationTree, DeclTree, type_decl, enum_decl, event_decl, const_decl, alg_decl, input_decl, disc_decl, equation_decl, invariant_decl, marked_decl, AutomatonTree, automaton_body, Source}
use Rattle.cif_source.specs.Components.{Component, scope_of, same_text, param_name, param_entries, body_entries, decl_entries, location_entry, entry_named, Entry, Entries, declared, literal, location, inner, definition, instance, parameter}
use Rattle.cif_source.specs.Objects.{locs_of, EventEdge, event_edges, edges_of_uses}
use Rattle.cif_source.specs.Step.{is_named, role_of, end_of}
use Rattle.cif_scope.specs.declared.scope.What.{What}
use Rattle.cif_scope.specs.declared.scopes.Scopes.{Scopes}
use Rattle.cif_scope.specs.Tables.{IsBody, IsWhat}
use Rattle.cif_scope.specs.Scopes.{AreScopesOf}
use Rattle.cif_scope.proofs.LookLaws.{Slotted, what-is}
use Rattle.cif_inst_model.specs.Translation.{net_of, net_guard}
use Rattle.cif_inst_model.specs.Flat.{event_number, sent_tree, net_updates_of, value_places, net_edge}
use Rattle.cif_inst_model.proofs.KeptLaws.{has_twice}
use Rattle.cif_inst_model.proofs.PathLaws.{names, not-twice-right}
use Rattle.cif_inst_model.proofs.BodyLaws.{other-name}
use Rattle.cif_net_model.proofs.Passing.{all-member}
use Rattle.cif_inst_model.proofs.SystemLaws.{map-map}
use Rattle.cif_inst_model.proofs.NumberLaws.{all-joined}
use Rattle.cif_inst_names.specs.Looking.{component_at}
use Rattle.cif_inst_names.specs.declared.looking.Looking.{Looking}
use Rattle.cif_inst_automata.specs.Targets.{place_in, place_at, target_place}
use Rattle.cif_inst_automata.specs.Edges.{use_edge, end_place, uses_edges, locations_edges}
use Rattle.cif_inst_automata.specs.Views.{role_back, role_for}

-- ---- the place of a target

abbrev pub place_of : Option Entry → ℕ → ℕ
place_of None count = count
place_of (Some (location p)) count = p
place_of (Some (declared d)) count = count
place_of (Some (literal k ls)) count = count
place_of (Some (inner n b)) count = count
place_of (Some (definition n ps b)) count = count
place_of (Some (instance i)) count = count
place_of (Some (parameter k p)) count = count

what-place : (t : Source) (c : Component) (e : Entry) (w : What) (count : ℕ) → IsWhat t c e w → place_in (Some w) count ≡ place_of (Some e) count
what-place t c (declared d) w count h = ap (λ v. place_in (Some v) count) h.1
what-place t c (literal k ls) w count h = ap (λ v. place_in (Some v) count) h
what-place t c (location k) w count h = ap (λ v. place_in (Some v) count) h
what-place t c (inner n b) w count h = ap (λ v. place_in (Some v) count) h.1
what-place t c (definition n ps b) w count h = ap (λ v. place_in (Some v) count) h.1
what-place t c (instance i) w count h = ap (λ v. place_in (Some v) count) h.1
what-place t c (parameter k p) w count h = ap (λ v. place_in (Some v) count) h

pub slotted-place : (t : Source) (s : Scopes) (k : ℕ) (c : Component) (count : ℕ) → AreScopesOf t s → IsBody t k c → (o : Option Entry) (j : Option ℕ) → Slotted (scope_of c) o j → place_at s k j count ≡ place_of o count
slotted-place t s k c count h is None None g = refl
slotted-place t s k c count h is None (Some j) g = absurd g
slotted-place t s k c count h is (Some e) None g = absurd g
slotted-place t s k c count h is (Some e) (Some j) g =
    let w = what-is t s.table h.numbers.table h.numbers.indexed k j c e is g in
    ap (λ o. place_in o count) w.1 ∙ what-place t c e w.0 count w.2

-- ---- locations among the names of a body

abbrev pub is_no_location : Entry → Bool
is_no_location (location p) = false
is_no_location (declared d) = true
is_no_location (literal k ls) = true
is_no_location (inner n b) = true
is_no_location (definition n ps b) = true
is_no_location (instance i) = true
is_no_location (parameter k p) = true

-- the first entry among xs, or else that of the rest
abbrev or_rest : Option (Ident × Entry) → Option (Ident × Entry) → Option (Ident × Entry)
or_rest None o = o
or_rest (Some x) o = Some x

find-append : (p : Ident × Entry → Bool) (xs ys : Entries) → find p (xs ++ ys) ≡ or_rest (find p xs) (find p ys)
find-append p [] ys = refl
find-append p (x ∷ xs) ys =
    (elim (p x) as (λ b. cond b (Some x) (find p (xs ++ ys)) ≡ or_rest (cond b (Some x) (find p xs)) (find p ys)) [
      | true ↦ refl
      | false ↦ find-append p xs ys
    ])

one-location : (x : Text) (ls : List LocationTree) (j : ℕ) → place_of (entry_named x (filter_map location_entry (enumerate_from (j + 1) ls))) (j + 1 + length ls) ≡ j + 1 + position_or_len (is_named x) ls
    → (o : Option Ident) → place_of (entry_named x (cons_option (option_map (λ n. (n, location j)) o) (filter_map location_entry (enumerate_from (j + 1) ls)))) (j + suc (length ls))
    ≡ j + cond (not (elim o [ None ↦ false | Some n ↦ same_text n.text x ])) (1 + position_or_len (is_named x) ls) 0
one-location x ls j rest o = named o
  where
    later : place_of (entry_named x (filter_map location_entry (enumerate_from (j + 1) ls))) (j + suc (length ls)) ≡ j + (1 + position_or_len (is_named x) ls)
    later =
        ap (place_of (entry_named x (filter_map location_entry (enumerate_from (j + 1) ls)))) (let e : j + suc (length ls) ≡ j + 1 + length ls = omega arith in e)
        ∙ rest
        ∙ (let e : j + 1 + position_or_len (is_named x) ls ≡ j + (1 + position_or_len (is_named x) ls) = omega arith in e)

    named : (o : Option Ident) → place_of (entry_named x (cons_option (option_map (λ n. (n, location j)) o) (filter_map location_entry (enumerate_from (j + 1) ls)))) (j + suc (length ls))
        ≡ j + cond (not (elim o [ None ↦ false | Some n ↦ same_text n.text x ])) (1 + position_or_len (is_named x) ls) 0
    named None = later
    named (Some n) =
        (elim (same_text n.text x) as (λ b. place_of (option_map (λ (y : Ident × Entry). y.1) (cond b (Some (n, location j)) (find (λ y. same_text y.0.text x) (filter_map location_entry (enumerate_from (j + 1) ls))))) (j + suc (length ls)) ≡ j + cond (not b) (1 + position_or_len (is_named x) ls) 0) [
          | true ↦ (let e : j ≡ j + 0 = omega arith in e)
          | false ↦ later
        ])

first-location : (x : Text) (ls : List LocationTree) (j : ℕ) → place_of (entry_named x (filter_map location_entry (enumerate_from j ls))) (j + length ls) ≡ j + position_or_len (is_named x) ls
first-location x [] j = refl
first-location x (l ∷ ls) j = one-location x ls j (first-location x ls (j + 1)) l.name

first-named : (x : Text) (ls : List LocationTree) → place_of (entry_named x (filter_map location_entry (enumerate_from 0 ls))) (length ls) ≡ position_or_len (is_named x) ls
first-named x ls =
    ap (place_of (entry_named x (filter_map location_entry (enumerate_from 0 ls)))) (let e : length ls ≡ 0 + length ls = omega arith in e)
    ∙ first-location x ls 0
    ∙ (let e : 0 + position_or_len (is_named x) ls ≡ position_or_len (is_named x) ls = omega arith in e)

-- an entry that is found has the name, and is one of the list
found-entry : (x : Text) (es : Entries) (y : Ident × Entry) → find (λ y. same_text y.0.text x) es ≡ Some y → Member y es × (y.0.text ≡ x)
found-entry x es y h = (find-member (λ y. same_text y.0.text x) es y h, words.same_text y.0.text x (sym (find-passes (λ y. same_text y.0.text x) es y h)))
  where
    find-member : (p : Ident × Entry → Bool) (es : Entries) (y : Ident × Entry) → find p es ≡ Some y → Member y es
    find-member p [] y h = absurd (none-some y h)
    find-member p (z ∷ es) y h =
        (elim (p z) as (λ b. cond b (Some z) (find p es) ≡ Some y → Member y (z ∷ es)) [
          | true ↦ λ g. inl (sym (some-same z y g))
          | false ↦ λ g. inr (find-member p es y g)
        ]) h

-- no name of the one list is a name of the other
apart-names : (xs ys : Entries) (y z : Ident × Entry) → has_twice (names (xs ++ ys)) ≡ false → Member y xs → Member z ys → y.0.text ≡ z.0.text → ⊥
apart-names [] ys y z h m k same = absurd m
apart-names (x ∷ xs) ys y z h m k same =
    elim m [
      | inl w ↦ other-name x.0 z.0 (names (xs ++ ys)) h (map-member (λ (e : Ident × Entry). e.0) z (xs ++ ys) (append-right z xs ys k)) (sym (ap (λ (e : Ident × Entry). e.0.text) w) ∙ same)
      | inr w ↦ apart-names xs ys y z (not-twice-right (x.0 ∷ []) (names (xs ++ ys)) h) w k same
    ]

not-location : (e : Entry) (count : ℕ) → is_no_location e ≡ true → place_of (Some e) count ≡ count
not-location (location p) count h = absurd (false-true refl h)
not-location (declared d) count h = refl
not-location (literal k ls) count h = refl
not-location (inner n b) count h = refl
not-location (definition n ps b) count h = refl
not-location (instance i) count h = refl
not-location (parameter k p) count h = refl

abbrev pub entry_passes : (Entry → Bool) → Ident × Entry → Bool
entry_passes q e = q e.1

pub all-flat : {A B : Type 0} (p : B → Bool) (f : A → List B) (xs : List A) → ((x : A) → list_all p (f x) ≡ true) → list_all p (flat_map f xs) ≡ true
all-flat p f [] h = refl
all-flat p f (x ∷ xs) h = all-joined p (f x) (flat_map f xs) (h x) (all-flat p f xs h)

literals-no_location : (ls : List Ident) (xs : List (ℕ × Ident)) → list_all (entry_passes is_no_location) (map (λ x. (x.1, literal x.0 ls)) xs) ≡ true
literals-no_location ls [] = refl
literals-no_location ls (x ∷ xs) = literals-no_location ls xs

pub decl-no_location : (d : DeclTree) → list_all (entry_passes is_no_location) (decl_entries d) ≡ true
decl-no_location (type_decl n ty) = refl
decl-no_location (enum_decl n ls) = literals-no_location ls (enumerate_from 0 ls)
decl-no_location (event_decl k h n) = refl
decl-no_location (const_decl ty n e) = refl
decl-no_location (alg_decl ty n e) = refl
decl-no_location (input_decl ty n) = refl
decl-no_location (disc_decl ty n e) = refl
decl-no_location (equation_decl q) = refl
decl-no_location (invariant_decl i) = refl
decl-no_location (marked_decl p) = refl

pub decls-no_location : (ds : List DeclTree) → list_all (entry_passes is_no_location) (flat_map decl_entries ds) ≡ true
decls-no_location ds = all-flat (entry_passes is_no_location) decl_entries ds decl-no_location

params-no_location : (xs : List (ℕ × ParamTree)) → list_all (entry_passes is_no_location) (map (λ (x : ℕ × ParamTree). (param_name x.1, parameter x.0 x.1)) xs) ≡ true
params-no_location [] = refl
params-no_location (x ∷ xs) = params-no_location xs

-- behind entries that are no locations a name of a location has its place
placed-behind : (es : Entries) (ls : List LocationTree) (x : Text) → list_all (entry_passes is_no_location) es ≡ true → has_twice (names (es ++ filter_map location_entry (enumerate_from 0 ls))) ≡ false
    → place_of (entry_named x (es ++ filter_map location_entry (enumerate_from 0 ls))) (length ls) ≡ position_or_len (is_named x) ls
placed-behind es ls x none single =
    ap (λ o. place_of (option_map (λ (y : Ident × Entry). y.1) o) (length ls)) (find-append (λ (y : Ident × Entry). same_text y.0.text x) es (filter_map location_entry (enumerate_from 0 ls)))
    ∙ (elim (find (λ y. same_text y.0.text x) es) as (λ o. find (λ y. same_text y.0.text x) es ≡ o
    → place_of (option_map (λ (y : Ident × Entry). y.1) (or_rest o (find (λ y. same_text y.0.text x) (filter_map location_entry (enumerate_from 0 ls))))) (length ls) ≡ position_or_len (is_named x) ls) [
      | None ↦ λ h. first-named x ls
      | Some y ↦ λ h.
          let here = found-entry x es y h in
          not-location y.1 (length ls) (all-member (entry_passes is_no_location) es y none here.0)
          ∙ no-location y here
    ]) refl
  where
    no-location : (y : Ident × Entry) → Member y es × (y.0.text ≡ x) → length ls ≡ position_or_len (is_named x) ls
    no-location y here =
        (elim (find (λ y. same_text y.0.text x) (filter_map location_entry (enumerate_from 0 ls))) as (λ o. find (λ y. same_text y.0.text x) (filter_map location_entry (enumerate_from 0 ls)) ≡ o → length ls ≡ position_or_len (is_named x) ls) [
          | None ↦ λ h. sym (ap (λ o. place_of (option_map (λ (y : Ident × Entry). y.1) o) (length ls)) h) ∙ first-named x ls
          | Some z ↦ λ h.
              let there = found-entry x (filter_map location_entry (enumerate_from 0 ls)) z h in
              absurd (apart-names es (filter_map location_entry (enumerate_from 0 ls)) y z single here.0 there.0 (here.1 ∙ sym there.1))
        ]) refl

-- in the scope of an automaton, of which a definition may have parameters
pub automaton-place : (ps : List ParamTree) (a : AutomatonTree) (x : Text) → has_twice (names (param_entries ps ++ body_entries (automaton_body a))) ≡ false
    → place_of (entry_named x (param_entries ps ++ body_entries (automaton_body a))) (length a.locs) ≡ position_or_len (is_named x) a.locs
automaton-place ps a x single =
    let before : Entries = param_entries ps ++ flat_map decl_entries a.decls in
    let joined : before ++ filter_map location_entry (enumerate_from 0 a.locs) ≡ param_entries ps ++ body_entries (automaton_body a) =
    append_assoc (param_entries ps) (flat_map decl_entries a.decls) (filter_map location_entry (enumerate_from 0 a.locs)) in
    ap (λ es. place_of (entry_named x es) (length a.locs)) (sym joined)
    ∙ placed-behind before a.locs x
    (all-joined (entry_passes is_no_location) (param_entries ps) (flat_map decl_entries a.decls) (params-no_location (enumerate_from 0 ps)) (decls-no_location a.decls))
    (ap (λ es. has_twice (names es)) joined ∙ single)

-- ---- edges

abbrev at_use : ℕ → EdgeTree → UseTree → EventEdge
at_use from e u = record { from = from; event_use = u; edge = e }

module _ (l : Looking) (k : ℕ) where
  abbrev pub own : Component
  own = component_at l k

  -- targets lead where the source says
  abbrev pub TargetsAre : ℕ → Type 0
  TargetsAre count = (x : Ident) → target_place l k x count ≡ position_or_len (is_named x.text) (locs_of own)

  end-is : (count from : ℕ) (u : UseTree) (e : EdgeTree) → TargetsAre count → end_place l k from count e.target ≡ end_of own (at_use from e u)
  end-is count from u e targets = target e.target
    where
      target : (o : Option Ident) → end_place l k from count o ≡ (elim o [ None ↦ from | Some x ↦ position_or_len (is_named x.text) (locs_of own) ])
      target None = refl
      target (Some x) = targets x

  uses-are : (count from : ℕ) (e : EdgeTree) → TargetsAre count → uses_edges l k from count e ≡ map (net_edge own) (edges_of_uses from e)
  uses-are count from e targets =
      sym (map-map (net_edge own) (at_use from e) (use_edge l k from (end_place l k from count e.target) e) e.uses (λ u m. sym (ap (λ to. use_edge l k from to e u) (end-is count from u e targets))))

  edges-are : (count from : ℕ) (es : List EdgeTree) → TargetsAre count → flat_map (uses_edges l k from count) es ≡ map (net_edge own) (flat_map (edges_of_uses from) es)
  edges-are count from [] targets = refl
  edges-are count from (e ∷ es) targets =
      ap (λ xs. xs ++ flat_map (uses_edges l k from count) es) (uses-are count from e targets)
      ∙ ap (λ xs. map (net_edge own) (edges_of_uses from e) ++ xs) (edges-are count from es targets)
      ∙ sym (map-append (net_edge own) (edges_of_uses from e) (flat_map (edges_of_uses from) es))

  abbrev edges_from : ℕ → List LocationTree → List EventEdge
  edges_from j ls = flat_map (λ (l : ℕ × LocationTree). flat_map (edges_of_uses l.0) l.1.edges) (enumerate_from j ls)

  locations-are : (count j : ℕ) (xs : List LocationTree) → TargetsAre count → locations_edges l k count j xs ≡ map (net_edge own) (edges_from j xs)
  locations-are count j [] targets = refl
  locations-are count j (x ∷ xs) targets =
      ap (λ ys. ys ++ locations_edges l k count (j + 1) xs) (edges-are count j x.edges targets)
      ∙ ap (λ ys. map (net_edge own) (flat_map (edges_of_uses j) x.edges) ++ ys) (locations-are count (j + 1) xs targets)
      ∙ sym (map-append (net_edge own) (flat_map (edges_of_uses j) x.edges) (edges_from (j + 1) xs))

  pub all-edges-are : (count : ℕ) → TargetsAre count → locations_edges l k count 0 (locs_of own) ≡ map (net_edge own) (event_edges own)
  all-edges-are count targets = locations-are count 0 (locs_of own) targets

-- ---- one edge more

-- the role of the code is the role of the net
pub role-back : (r : Role) → net_role (role_back r) ≡ r
role-back syncing = refl
role-back sending = refl
role-back receiving = refl

pub edge_added : (l : Looking) (k from to : ℕ) (e : Edge) (u : EventUse) (event : ℕ) (role : NetRole) (guard : NetExpr) (value : Option NetExpr) (updates : List NetUpdate) (places : List ℕ) (before after : List NetEdgeOf)
    → event ≡ event_number (component_at l k) u.name
    → role ≡ role_for (role_tree u.role)
    → view guard ≡ net_guard (component_at l k) u.name.at (map source_view e.guards)
    → option_map view value ≡ option_map (net_of (component_at l k)) (sent_tree (role_tree u.role))
    → view_updates updates ≡ net_updates_of (component_at l k) (source_updates e.updates)
    → places ≡ value_places (record { from = from; event_use = use_tree u; edge = edge_tree e })
    → after ≡ before ++ record { event = event; role = role; from = from; to = to; guard = guard; sent = value; updates = updates; places = places } ∷ []
    → map net_tree after ≡ map net_tree before ++ use_edge l k from to (edge_tree e) (use_tree u) ∷ []
edge_added l k from to e u event role guard value updates places before after numbered roled guarded valued updated placed pushed =
    let x : NetEdgeOf = record { event = event; role = role; from = from; to = to; guard = guard; sent = value; updates = updates; places = places } in
    let same : net_tree x ≡ use_edge l k from to (edge_tree e) (use_tree u) = λ i. record {
      event = numbered i;
      role = (ap net_role roled ∙ role-back (role_of (role_tree u.role))) i;
      from = from;
      to = to;
      guard = guarded i;
      sent = valued i;
      updates = updated i;
      places = placed i;
    } in
    ap (map net_tree) pushed ∙ map-append net_tree before (x ∷ []) ∙ ap (λ y. map net_tree before ++ y ∷ []) same
