-- What is told of the net of a source is what is told of the source.
use Rattle.std.proofs.Common.{◌≡◌, ℕ, zero, suc, ◌+◌, ℤ, Bool, true, false, List, [], ◌∷◌, ◌++◌, length, map, Option, Some, None, refl, sym, ◌∙◌, ap}
use Rattle.std.specs.Prelude.{slice_get, option_map, option_and_then, option_to_list, unwrap_or, flat_map, filter_map}
use Rattle.std.specs.List.{cons_option, list_all, zip}
use Rattle.grammar.specs.Pieces.{Text}
use Rattle.cif_ast.specs.Tree.{Tree, UpdateTree, assignment, selection, UpdateTrees, no_updates, updates, UpdateBranches, no_update_branches, update_branches}
use Rattle.cif_ast.specs.declared.names.Name.{Name}
use Rattle.cif_system.specs.Words.{Member}
use Rattle.cif_system.specs.System.{State}
use Rattle.cif_system.proofs.Picks.{and-left, and-right}
use Rattle.cif_net_expr.specs.Tree.{NetExpr, net_expr}
use Rattle.cif_net_model.specs.Net.{NetAuto, NetEvent, NetExclusion, NetInvariant, NetStored, Net}
use Rattle.cif_net_model.specs.Exprs.{Written, expr_at, placed, targets, writes_all, writes_by, writes_in}
use Rattle.cif_net_model.proofs.Passing.{all-member, both-pass}
use Rattle.cif_source.specs.BodyRules.{targets_of, targets_of_all, targets_of_branches}
use Rattle.cif_source.specs.Source.{RoleTree, syncs, sends, receives, always, needs, disables, type_decl, enum_decl, event_decl, const_decl, alg_decl, input_decl, disc_decl, equation_decl, invariant_decl, marked_decl, Source, tree_at}
use Rattle.cif_source.specs.Components.{Component, specification_of}
use Rattle.cif_source.specs.Lookup.{denotes}
use Rattle.cif_source.specs.Objects.{automata, declarations, events, variables, Declared, EventEdge, event_edges}
use Rattle.cif_source.specs.Step.{event_at, variable_at}
use Rattle.cif_inst_model.specs.Flat.{net_auto, net_edge, net_event, net_exclusions, net_invariants, net_of_source, net_stored, net_updates_of, net_update_of, net_update_branches_of, event_number, exclusion_of, predicate_at, sent_tree, value_places, variable_number}
use Rattle.cif_inst_model.specs.Translation.{net_of}
use Rattle.cif_inst_model.proofs.EdgeLaws.{SameValues, names_event, names_its_objects, names_variable, number-found}
use Rattle.cif_inst_model.proofs.SystemLaws.{MeansTheSame, map-map, names_all}
use Rattle.cif_why_model.specs.Told.{EdgeTold}
use Rattle.cif_sim_names.specs.Nets.{event_path_in, net_edge_told, net_numbered_all, paths_of_edge, told_of_net, value_told, variable_path_in}
use Rattle.cif_sim_names.specs.Sources.{automaton_told, declared_names, declared_path, edge_told, event_named, exclusion_places, invariant_places, paths_of, told_of, variable_named}
use Rattle.cif_sim_names.proofs.NameLaws.{event-same, stored-same}
use Rattle.cif_sim_names.proofs.SourceLaws.{numbered-same}

-- ---- paths

stored-path-at : (ds : List Declared) (k : ℕ) → unwrap_or (option_map (λ (x : NetStored). x.path) (slice_get (map net_stored ds) k)) [] ≡ unwrap_or (option_map (λ d. (declared_names d).path) (slice_get ds k)) []
stored-path-at [] k = refl
stored-path-at (d ∷ ds) zero = ap (λ v. v.path) (stored-same d)
stored-path-at (d ∷ ds) (suc k) = stored-path-at ds k

event-path-at : (ds : List Declared) (k : ℕ) → unwrap_or (option_map (λ (x : NetEvent). x.path) (slice_get (map net_event ds) k)) [] ≡ unwrap_or (option_map declared_path (slice_get ds k)) []
event-path-at [] k = refl
event-path-at (d ∷ ds) zero = event-same d
event-path-at (d ∷ ds) (suc k) = event-path-at ds k

map-append : {A B : Type 0} (f : A → B) (xs ys : List A) → map f (xs ++ ys) ≡ map f xs ++ map f ys
map-append f [] ys = refl
map-append f (x ∷ xs) ys = λ i. f x ∷ map-append f xs ys i

module _ (t : Source) (a : Component) (root : specification_of a ≡ t) where
  abbrev n : Net
  n = net_of_source t

  variable-same : (nm : Name) → names_variable a nm ≡ true → variable_path_in n (variable_number a nm) ≡ variable_named a nm
  variable-same nm h =
      stored-path-at (variables t) (variable_number a nm)
      ∙ ap (λ r. unwrap_or (option_map (λ d. (declared_names d).path) (slice_get (variables r) (variable_number a nm))) []) (sym root)
      ∙ ap (λ o. unwrap_or (option_map (λ d. (declared_names d).path) (option_and_then (slice_get (variables (specification_of a))) o)) []) (number-found (variable_at (denotes a nm)) h)

  event-same-path : (nm : Name) → names_event a nm ≡ true → event_path_in n (event_number a nm) ≡ event_named a nm
  event-same-path nm h =
      event-path-at (events t) (event_number a nm)
      ∙ ap (λ r. unwrap_or (option_map declared_path (slice_get (events r) (event_number a nm))) []) (sym root)
      ∙ ap (λ o. unwrap_or (option_map declared_path (option_and_then (slice_get (events (specification_of a))) o)) []) (number-found (event_at (denotes a nm)) h)

  abbrev told_by : Written → Text
  told_by w = variable_path_in n w.var

  mutual
    paths-all : (us : UpdateTrees) → list_all (names_variable a) (targets_of_all us) ≡ true → map told_by (writes_all (net_updates_of a us)) ≡ map (variable_named a) (targets_of_all us)
    paths-all no_updates h = refl
    paths-all (updates u us) h =
        let p = both-pass (names_variable a) (targets_of u) (targets_of_all us) h in
        map-append told_by (writes_by (net_update_of a u)) (writes_all (net_updates_of a us))
        ∙ (λ i. paths-by u p.0 i ++ paths-all us p.1 i) ∙ sym (map-append (variable_named a) (targets_of u) (targets_of_all us))

    paths-by : (u : UpdateTree) → list_all (names_variable a) (targets_of u) ≡ true → map told_by (writes_by (net_update_of a u)) ≡ map (variable_named a) (targets_of u)
    paths-by (assignment nm e) h = ap (λ p. p ∷ []) (variable-same nm (and-left _ _ h))
    paths-by (selection bs us) h =
        let p = both-pass (names_variable a) (targets_of_branches bs) (targets_of_all us) h in
        map-append told_by (writes_in (net_update_branches_of a bs)) (writes_all (net_updates_of a us))
        ∙ (λ i. paths-in bs p.0 i ++ paths-all us p.1 i) ∙ sym (map-append (variable_named a) (targets_of_branches bs) (targets_of_all us))

    paths-in : (bs : UpdateBranches) → list_all (names_variable a) (targets_of_branches bs) ≡ true → map told_by (writes_in (net_update_branches_of a bs)) ≡ map (variable_named a) (targets_of_branches bs)
    paths-in no_update_branches h = refl
    paths-in (update_branches cs us bs) h =
        let p = both-pass (names_variable a) (targets_of_all us) (targets_of_branches bs) h in
        map-append told_by (writes_all (net_updates_of a us)) (writes_in (net_update_branches_of a bs))
        ∙ (λ i. paths-all us p.0 i ++ paths-in bs p.1 i) ∙ sym (map-append (variable_named a) (targets_of_all us) (targets_of_branches bs))

  twice : {A B C : Type 0} (f : A → B) (g : B → C) (xs : List A) → map g (map f xs) ≡ map (λ x. g (f x)) xs
  twice f g [] = refl
  twice f g (x ∷ xs) = λ i. g (f x) ∷ twice f g xs i

  sent-path : (role : RoleTree) (p : Text) → map (λ (e : NetExpr). p) (option_to_list (option_map (net_of a) (sent_tree role))) ≡ map (λ (e : Tree). p) (option_to_list (sent_tree role))
  sent-path syncs p = refl
  sent-path (sends None) p = refl
  sent-path (sends (Some e)) p = refl
  sent-path receives p = refl

  sent-count : (role : RoleTree) → length (option_to_list (option_map (net_of a) (sent_tree role))) ≡ length (option_to_list (sent_tree role))
  sent-count syncs = refl
  sent-count (sends None) = refl
  sent-count (sends (Some e)) = refl
  sent-count receives = refl

  paths-same : (w : EventEdge) → names_its_objects a w ≡ true → paths_of_edge n (net_edge a w) ≡ paths_of a w
  paths-same w h =
      (λ i. sent-path w.event_use.role (event_path_in n (event_number a w.event_use.name)) i ++ twice (λ (x : Written). x.var) (variable_path_in n) (writes_all (net_updates_of a w.edge.updates)) i)
      ∙ (λ i. map (λ (e : Tree). event-same-path w.event_use.name (and-left _ _ h) i) (option_to_list (sent_tree w.event_use.role)) ++ paths-all w.edge.updates (and-right _ _ h) i)

  edge-told-same : SameValues n a → (w : EventEdge) → names_its_objects a w ≡ true → net_edge_told n (net_edge a w) ≡ edge_told a w
  edge-told-same same w h = λ i. record {
    values = map value_told (zip (value_places w) (paths-same w h i));
    assigned = λ s r. (ap (λ k. net_numbered_all n s r k (net_updates_of a w.edge.updates)) (sent-count w.event_use.role)
        ∙ numbered-same n a same s r w.edge.updates (length (option_to_list (sent_tree w.event_use.role))) (and-right _ _ h)) i;
  }

-- ---- predicates

placed-at : (at : ℕ) (e : NetExpr) → expr_at (placed at e) ≡ at
placed-at at (net_expr f k) = refl

excluded-places : (c : Component) (p : Tree) (allows : Bool) (nms : List Name)
    → map (λ (x : NetExclusion). expr_at x.pred) (filter_map (exclusion_of c p allows) nms) ≡ map (λ e. tree_at p) (filter_map (λ nm. event_at (denotes c nm)) nms)
excluded-places c p allows [] = refl
excluded-places c p allows (nm ∷ nms) =
    let rest = excluded-places c p allows nms in
    elim (event_at (denotes c nm)) as (λ o. map (λ (x : NetExclusion). expr_at x.pred) (cons_option (option_map (λ e. record { event = e; pred = predicate_at c p; allows = allows }) o) (filter_map (exclusion_of c p allows) nms))
    ≡ map (λ e. tree_at p) (cons_option o (filter_map (λ x. event_at (denotes c x)) nms))) [
      | None ↦ rest
      | Some e ↦ λ i. placed-at (tree_at p) (net_of c p) i ∷ rest i
    ]

excluded-same : (d : Declared) → map (λ (x : NetExclusion). expr_at x.pred) (net_exclusions d) ≡ exclusion_places d
excluded-same (c, type_decl m ty) = refl
excluded-same (c, enum_decl m ls) = refl
excluded-same (c, event_decl k h m) = refl
excluded-same (c, const_decl ty m e) = refl
excluded-same (c, alg_decl ty m e) = refl
excluded-same (c, input_decl ty m) = refl
excluded-same (c, disc_decl ty m e) = refl
excluded-same (c, equation_decl q) = refl
excluded-same (c, invariant_decl (always p)) = refl
excluded-same (c, invariant_decl (needs nms p)) = excluded-places c p true nms
excluded-same (c, invariant_decl (disables p nms)) = excluded-places c p false nms
excluded-same (c, marked_decl p) = refl

invariant-same : (d : Declared) → map (λ (x : NetInvariant). x.at) (net_invariants d) ≡ invariant_places d
invariant-same (c, type_decl m ty) = refl
invariant-same (c, enum_decl m ls) = refl
invariant-same (c, event_decl k h m) = refl
invariant-same (c, const_decl ty m e) = refl
invariant-same (c, alg_decl ty m e) = refl
invariant-same (c, input_decl ty m) = refl
invariant-same (c, disc_decl ty m e) = refl
invariant-same (c, equation_decl q) = refl
invariant-same (c, invariant_decl (always p)) = refl
invariant-same (c, invariant_decl (needs nms p)) = refl
invariant-same (c, invariant_decl (disables p nms)) = refl
invariant-same (c, marked_decl p) = refl

map-flat : {A B C : Type 0} (f : B → C) (g : A → List B) (h : A → List C) (xs : List A) → ((x : A) → map f (g x) ≡ h x) → map f (flat_map g xs) ≡ flat_map h xs
map-flat f g h [] same = refl
map-flat f g h (x ∷ xs) same = map-append f (g x) (flat_map g xs) ∙ (λ i. same x i ++ map-flat f g h xs same i)

-- ---- the whole

pub told-same : (t : Source) → MeansTheSame t → list_all names_all (automata t) ≡ true → ((a : Component) → Member a (automata t) → specification_of a ≡ t) → told_of_net (net_of_source t) ≡ told_of t
told-same t same named root = λ i. record {
  automata = map-map (λ (b : NetAuto). record { path = b.path; edges = map (net_edge_told (net_of_source t)) b.edges }) net_auto automaton_told (automata t) auto-same i;
  exclusions = map-flat (λ (x : NetExclusion). expr_at x.pred) net_exclusions exclusion_places (declarations t) excluded-same i;
  invariants = map-flat (λ (x : NetInvariant). x.at) net_invariants invariant_places (declarations t) invariant-same i;
}
  where
    auto-same : (a : Component) → Member a (automata t) → record { path = (net_auto a).path; edges = map (net_edge_told (net_of_source t)) (net_auto a).edges } ≡ automaton_told a
    auto-same a h = λ i. record {
      path = (net_auto a).path;
      edges = map-map (net_edge_told (net_of_source t)) (net_edge a) (edge_told a) (event_edges a)
          (λ w v. edge-told-same t a (root a h) (same.of_automata a h) w (all-member (names_its_objects a) (event_edges a) w (all-member names_all (automata t) a named h) v)) i;
    }
