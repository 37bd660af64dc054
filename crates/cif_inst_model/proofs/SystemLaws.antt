-- The net of a source has the source's system, where expressions have the same values and names denote what is asked.
use Rattle.std.proofs.Common.{◌≡◌, ℕ, pos, Bool, true, false, not, List, [], ◌∷◌, ◌++◌, map, Option, Some, None, inl, inr, refl, ◌∙◌, ap, arith}
use Rattle.std.specs.Prelude.{◌&&◌, ◌||◌, nat_eq, flat_map, filter_map, option_map, if◌then◌else◌}
use Rattle.std.specs.List.{list_all, list_any, cons_option}
use Rattle.std.proofs.lemmas.Bool.Decides.{nat_tests}
use Rattle.std.proofs.lemmas.List.{map-append}
use Rattle.cif_ast.specs.Tree.{Tree}
use Rattle.cif_ast.specs.declared.names.Name.{Name}
use Rattle.cif_system.specs.Words.{Member}
use Rattle.cif_system.specs.System.{State, syncing}
use Rattle.cif_system.specs.Step.{same_role, is_number}
use Rattle.cif_system.proofs.Lists.{map-length}
use Rattle.cif_net_expr.specs.Tree.{NetExpr, net_expr}
use Rattle.cif_net_model.specs.Net.{Net}
use Rattle.cif_net_model.specs.Meaning.{edge_meant, automaton_in, event_in, stored_in, exclusion_in, invariant_in, defined_value, system_of_net, value_in}
use Rattle.cif_net_model.specs.Exprs.{placed}
use Rattle.cif_net_model.proofs.Passing.{all-member}
use Rattle.cif_source.specs.Source.{Source, SourceBody, group_body, automaton_body, type_decl, enum_decl, event_decl, const_decl, alg_decl, input_decl, disc_decl, equation_decl, invariant_decl, marked_decl, always, needs, disables, tree_at}
use Rattle.cif_source.specs.Components.{Component, body_of}
use Rattle.cif_source.specs.Lookup.{denotes}
use Rattle.cif_source.specs.Objects.{automata, events, variables, inputs, algs, declarations, Declared, locs_of, EventEdge, event_edges}
use Rattle.cif_source.specs.Value.{is_true, value_of}
use Rattle.cif_source.specs.Step.{event_at, role_of, denotes_event, has_role, has_edge, synchronises_in, synchronises, monitor_names, monitors_in, monitors, edge_for, automaton_for, first_place, event_for, stored_for, alg_value, holds, exclusion_for, exclusions_for, invariants_for, system_of}
use Rattle.cif_source.specs.InstanceRules.{synchronised_name}
use Rattle.cif_inst_model.specs.Translation.{net_of}
use Rattle.cif_inst_model.specs.Flat.{named_events, alphabet_in, alphabet_of, monitored_events, monitored_in, location_name, net_edge, net_auto, net_event, net_stored, net_alg, exclusion_of, net_exclusions, net_invariants, net_of_source, predicate_at}
use Rattle.cif_inst_model.proofs.EdgeLaws.{SameValues, names_its_objects, edge-same}
use Rattle.cif_inst_model.proofs.TypeLaws.{event-same, stored-same}

pub map-map : {A B C : Type 0} → (f : B → C) → (g : A → B) → (h : A → C) → (xs : List A) → ((x : A) → Member x xs → f (g x) ≡ h x) → map f (map g xs) ≡ map h xs
map-map f g h [] same = refl
map-map f g h (x ∷ xs) same = ap (λ y. y ∷ map f (map g xs)) (same x (inl refl)) ∙ ap (λ ys. h x ∷ ys) (map-map f g h xs (λ y m. same y (inr m)))

-- ---- alphabets

eq-turned : (a b : ℕ) → nat_eq a b ≡ nat_eq b a
eq-turned a b = grind (arith, nat_tests)

module _ (a : Component) (e : ℕ) where
  pub named-same : (nms : List Name) → list_any (nat_eq e) (named_events a nms) ≡ list_any (denotes_event e a) nms
  named-same [] = refl
  named-same (nm ∷ nms) =
      elim (event_at (denotes a nm)) as (λ o. list_any (nat_eq e) (cons_option o (named_events a nms)) ≡ (is_number e o || list_any (denotes_event e a) nms)) [
        | None ↦ named-same nms
        | Some k ↦ ap (λ b. b || list_any (nat_eq e) (named_events a nms)) (eq-turned e k) ∙ ap (λ b. nat_eq k e || b) (named-same nms)
      ]

  ways-same : (ws : List EventEdge) → list_any (denotes_event e a) (flat_map synchronised_name ws) ≡ list_any (has_role syncing e a) ws
  ways-same [] = refl
  ways-same (w ∷ ws) =
      elim (same_role syncing (role_of w.event_use.role)) as (λ b.
      list_any (denotes_event e a) ((if b then w.event_use.name ∷ [] else []) ++ flat_map synchronised_name ws) ≡ ((b && denotes_event e a w.event_use.name) || list_any (has_role syncing e a) ws)) [
        | true ↦ ap (λ b. denotes_event e a w.event_use.name || b) (ways-same ws)
        | false ↦ ways-same ws
      ]

  alphabet_in-same : (b : SourceBody) → list_any (nat_eq e) (alphabet_in a b) ≡ synchronises_in e a b
  alphabet_in-same (group_body is) = refl
  alphabet_in-same (automaton_body b) =
      elim b.alphabet as (λ o. list_any (nat_eq e) (named_events a (elim o [ None ↦ flat_map synchronised_name (event_edges a) | Some nms ↦ nms ])) ≡ (elim o [ None ↦ has_edge syncing e a | Some nms ↦ list_any (denotes_event e a) nms ])) [
        | None ↦ named-same (flat_map synchronised_name (event_edges a)) ∙ ways-same (event_edges a)
        | Some nms ↦ named-same nms
      ]

  -- the alphabet has the events that the automaton synchronises on
  pub alphabet-same : list_any (nat_eq e) (alphabet_of a) ≡ synchronises e a
  alphabet-same = alphabet_in-same (body_of a)

  and-self : (b : Bool) → (b && b) ≡ (b && true)
  and-self true = refl
  and-self false = refl

  monitored-same : (o : Option (List Name)) → (list_any (nat_eq e) (alphabet_of a) && list_any (nat_eq e) (monitored_events a o)) ≡ (synchronises e a && monitor_names e a o)
  monitored-same None = ap (λ b. b && false) alphabet-same
  monitored-same (Some []) = and-self (list_any (nat_eq e) (alphabet_of a)) ∙ ap (λ b. b && true) alphabet-same
  monitored-same (Some (nm ∷ nms)) = ap (λ b. b && list_any (nat_eq e) (named_events a (nm ∷ nms))) alphabet-same ∙ ap (λ b. synchronises e a && b) (named-same (nm ∷ nms))

  monitored_in-same : (b : SourceBody) → (list_any (nat_eq e) (alphabet_of a) && list_any (nat_eq e) (monitored_in a b)) ≡ (synchronises e a && monitors_in e a b)
  monitored_in-same (group_body is) = ap (λ b. b && false) alphabet-same
  monitored_in-same (automaton_body b) = monitored-same b.monitor

  pub monitors-same : (list_any (nat_eq e) (alphabet_of a) && list_any (nat_eq e) (monitored_in a (body_of a))) ≡ monitors e a
  monitors-same = monitored_in-same (body_of a)

-- ---- automata

abbrev pub names_all : Component → Bool
names_all a = list_all (names_its_objects a) (event_edges a)

pub automaton-same : (n : Net) (a : Component) → SameValues n a → names_all a ≡ true → automaton_in n (net_auto a) ≡ automaton_for a
automaton-same n a same h =
    λ i. record {
      synchronises = λ e. alphabet-same a e i;
      monitors = λ e. monitors-same a e i;
      edges = map-map (edge_meant n) (net_edge a) (edge_for a) (event_edges a) (λ w m. edge-same n a w same (all-member (names_its_objects a) (event_edges a) w h m)) i;
      places = map-length location_name (locs_of a) i;
      first = first_place a;
    }

-- ---- exclusions and state invariants

predicate-same : (n : Net) (s : State) (c : Component) (p : Tree) → SameValues n c → value_in n s (pos 0) (predicate_at c p) ≡ value_of c p s (pos 0)
predicate-same n s c p same = placed-in (tree_at p) (net_of c p) ∙ same p s (pos 0)
  where
    placed-in : (at : ℕ) (e : NetExpr) → value_in n s (pos 0) (placed at e) ≡ value_in n s (pos 0) e
    placed-in at (net_expr f k) = refl

-- of a predicate that needs or disables, one exclusion for each event that is named
exclusions-same : (n : Net) (c : Component) (p : Tree) (allows : Bool) (permits : State → Bool)
    → ((k : ℕ) → exclusion_in n (record { event = k; pred = predicate_at c p; allows = allows }) ≡ record { event = k; permits = permits })
    → (nms : List Name) → map (exclusion_in n) (filter_map (exclusion_of c p allows) nms) ≡ filter_map (exclusion_for c permits) nms
exclusions-same n c p allows permits each [] = refl
exclusions-same n c p allows permits each (nm ∷ nms) =
    let rest = exclusions-same n c p allows permits each nms in
    elim (event_at (denotes c nm)) as (λ o.
    map (exclusion_in n) (cons_option (option_map (λ e. record { event = e; pred = predicate_at c p; allows = allows }) o) (filter_map (exclusion_of c p allows) nms))
    ≡ cons_option (option_map (λ e. record { event = e; permits = permits }) o) (filter_map (exclusion_for c permits) nms)) [
      | None ↦ rest
      | Some k ↦ ap (λ x. x ∷ map (exclusion_in n) (filter_map (exclusion_of c p allows) nms)) (each k) ∙ ap (λ xs. record { event = k; permits = permits } ∷ xs) rest
    ]

exclude-same : (n : Net) (d : Declared) → SameValues n d.0 → map (exclusion_in n) (net_exclusions d) ≡ exclusions_for d
exclude-same n (c, invariant_decl (needs nms p)) same = exclusions-same n c p true (holds c p) (λ k i. record { event = k; permits = λ s. is_true (predicate-same n s c p same i) }) nms
exclude-same n (c, invariant_decl (disables p nms)) same =
    exclusions-same n c p false (λ s. not (holds c p s)) (λ k i. record { event = k; permits = λ s. not (is_true (predicate-same n s c p same i)) }) nms
exclude-same n (c, invariant_decl (always p)) same = refl
exclude-same n (c, event_decl k h m) same = refl
exclude-same n (c, type_decl m t) same = refl
exclude-same n (c, enum_decl m ls) same = refl
exclude-same n (c, const_decl t m x) same = refl
exclude-same n (c, alg_decl t m x) same = refl
exclude-same n (c, input_decl t m) same = refl
exclude-same n (c, disc_decl t m x) same = refl
exclude-same n (c, equation_decl q) same = refl
exclude-same n (c, marked_decl p) same = refl

invariant-same : (n : Net) (d : Declared) → SameValues n d.0 → map (invariant_in n) (net_invariants d) ≡ invariants_for d
invariant-same n (c, invariant_decl (always p)) same = λ i. (λ s. is_true (predicate-same n s c p same i)) ∷ []
invariant-same n (c, invariant_decl (needs nms p)) same = refl
invariant-same n (c, invariant_decl (disables p nms)) same = refl
invariant-same n (c, event_decl k h m) same = refl
invariant-same n (c, type_decl m t) same = refl
invariant-same n (c, enum_decl m ls) same = refl
invariant-same n (c, const_decl t m x) same = refl
invariant-same n (c, alg_decl t m x) same = refl
invariant-same n (c, input_decl t m) same = refl
invariant-same n (c, disc_decl t m x) same = refl
invariant-same n (c, equation_decl q) same = refl
invariant-same n (c, marked_decl p) same = refl

map-flat : {A B C : Type 0} → (f : B → C) → (g : A → List B) → (h : A → List C) → (xs : List A) → ((x : A) → Member x xs → map f (g x) ≡ h x) → map f (flat_map g xs) ≡ flat_map h xs
map-flat f g h [] same = refl
map-flat f g h (x ∷ xs) same =
    map-append f (g x) (flat_map g xs)
    ∙ ap (λ ys. ys ++ map f (flat_map g xs)) (same x (inl refl))
    ∙ ap (λ ys. h x ++ ys) (map-flat f g h xs (λ y m. same y (inr m)))

-- ---- the system

pub record MeansTheSame (t : Source) : Type 0 where
  pub of_automata : (a : Component) → Member a (automata t) → SameValues (net_of_source t) a
  pub of_declarations : (d : Declared) → Member d (declarations t) → SameValues (net_of_source t) d.0
  pub of_algs : (d : Declared) → Member d (algs t) → (s : State) → defined_value (net_of_source t) s (net_alg d) ≡ alg_value d s

pub system-same : (t : Source) → MeansTheSame t → list_all names_all (automata t) ≡ true → system_of_net (net_of_source t) ≡ system_of t
system-same t same named =
    let n = net_of_source t in
    λ i. record {
      automata = map-map (automaton_in n) net_auto automaton_for (automata t) (λ a m. automaton-same n a (same.of_automata a m) (all-member names_all (automata t) a named m)) i;
      events = map-map event_in net_event event_for (events t) (λ d m. event-same d) i;
      variables = map-map stored_in net_stored stored_for (variables t) (λ d m. stored-same d) i;
      inputs = map-map stored_in net_stored stored_for (inputs t) (λ d m. stored-same d) i;
      algs = map-map (λ a s. defined_value n s a) net_alg alg_value (algs t) (λ d m j s. same.of_algs d m s j) i;
      exclusions = map-flat (exclusion_in n) net_exclusions exclusions_for (declarations t) (λ d m. exclude-same n d (same.of_declarations d m)) i;
      invariants = map-flat (invariant_in n) net_invariants invariants_for (declarations t) (λ d m. invariant-same n d (same.of_declarations d m)) i;
    }
