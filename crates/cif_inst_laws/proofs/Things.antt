-- The net of a source has no more automata, locations, edges, events, inputs, variables, algebraic variables, exclusions and state
-- invariants than there may be.
use Rattle.std.proofs.Common.{◌≡◌, ℕ, suc, ◌+◌, ◌≤◌, Bool, true, false, cond, inl, inr, List, [], ◌∷◌, length, map, refl, ◌∙◌, ap, subst, arith}
use Rattle.std.specs.Prelude.{flat_map, filter, sum}
use Rattle.std.proofs.lemmas.Grind.{flat_map-append}
use Rattle.std.proofs.lemmas.List.{length-append}
use Rattle.std.proofs.lemmas.List.Sums.{sum_by-cons, sum-map}
use Rattle.cif_system.specs.Words.{Member}
use Rattle.cif_system.proofs.Lists.{map-length}
use Rattle.cif_net_model.specs.Net.{NetAuto}
use Rattle.cif_net_model.specs.Facts.{things}
use Rattle.cif_source.specs.Source.{DeclTree, type_decl, enum_decl, event_decl, const_decl, alg_decl, input_decl, disc_decl, equation_decl, always, needs, disables, invariant_decl, marked_decl, Source}
use Rattle.cif_source.specs.Components.{Component, body_of}
use Rattle.cif_source.specs.Objects.{components_of, most_objects, automata, is_automaton, locs_of, event_edges, events, inputs, variables, algs, is_event, is_input, is_variable, is_alg, Declared, declarations, decls_of}
use Rattle.cif_source.specs.InstanceRules.{decl_objects, component_objects, object_count}
use Rattle.cif_inst_model.specs.Flat.{net_of_source, net_auto, net_edge, net_event, net_stored, net_alg, exclusion_of, net_exclusions, net_invariants, location_name}
use Rattle.cif_inst_model.proofs.RuleLaws.{declaration-cases, within-or-past}
use Rattle.cif_inst_model.proofs.NumberLaws.{append-kept}
use Rattle.cif_inst_laws.proofs.Sound.{IsSound, sizes}
use Rattle.cif_inst_laws.proofs.Tests.{kept-fewer}

-- ---- counts

-- how many of a sort components declare
abbrev sort_total : (DeclTree → Bool) → List Component → ℕ
sort_total sort [] = 0
sort_total sort (c ∷ cs) = length (filter sort (decls_of c)) + sort_total sort cs

kept-length : (sort : DeclTree → Bool) (c : Component) (ds : List DeclTree) → length (filter (λ (d : Declared). sort d.1) (map (λ d. (c, d)) ds)) ≡ length (filter sort ds)
kept-length sort c [] = refl
kept-length sort c (d ∷ ds) =
    (elim (sort d) as (λ b. length (cond b ((c, d) ∷ filter (λ (x : Declared). sort x.1) (map (λ x. (c, x)) ds)) (filter (λ (x : Declared). sort x.1) (map (λ x. (c, x)) ds))) ≡ length (cond b (d ∷ filter sort ds) (filter sort ds))) [
      | true ↦ omega (arith, kept-length sort c ds)
      | false ↦ kept-length sort c ds
    ])

sort-length : (sort : DeclTree → Bool) (cs : List Component) → length (filter (λ (d : Declared). sort d.1) (flat_map (λ c. map (λ d. (c, d)) (decls_of c)) cs)) ≡ sort_total sort cs
sort-length sort [] = refl
sort-length sort (c ∷ cs) =
    ap length (append-kept (λ (d : Declared). sort d.1) (map (λ d. (c, d)) (decls_of c)) (flat_map (λ c. map (λ d. (c, d)) (decls_of c)) cs))
    ∙ omega (
      arith,
      kept-length sort c (decls_of c),
      sort-length sort cs,
      length-append (filter (λ (d : Declared). sort d.1) (map (λ d. (c, d)) (decls_of c))) (filter (λ (d : Declared). sort d.1) (flat_map (λ c. map (λ d. (c, d)) (decls_of c)) cs)),
    )

-- how many things the declarations of a component become, where each becomes a list of them
abbrev made : {A : Type 0} → (Declared → List A) → Component → List DeclTree → ℕ
made f c ds = length (flat_map f (map (λ d. (c, d)) ds))

abbrev made_total : {A : Type 0} → (Declared → List A) → List Component → ℕ
made_total f [] = 0
made_total f (c ∷ cs) = made f c (decls_of c) + made_total f cs

made-length : {A : Type 0} (f : Declared → List A) (cs : List Component) → length (flat_map f (flat_map (λ c. map (λ d. (c, d)) (decls_of c)) cs)) ≡ made_total f cs
made-length f [] = refl
made-length f (c ∷ cs) =
    ap length (flat_map-append f (map (λ d. (c, d)) (decls_of c)) (flat_map (λ c. map (λ d. (c, d)) (decls_of c)) cs))
    ∙ omega (
      arith,
      made-length f cs,
      length-append (flat_map f (map (λ d. (c, d)) (decls_of c))) (flat_map f (flat_map (λ c. map (λ d. (c, d)) (decls_of c)) cs)),
    )

-- how many of these declarations are events, inputs, variables or algebraic variables
abbrev counted : List DeclTree → ℕ
counted ds = length (filter is_event ds) + length (filter is_input ds) + length (filter is_variable ds) + length (filter is_alg ds)

-- how many exclusions and state invariants they become
abbrev predicates : Component → List DeclTree → ℕ
predicates c ds = made net_exclusions c ds + made net_invariants c ds

-- a declaration becomes no more of all of them than it counts for
one-object : (c : Component) (d : DeclTree) → counted (d ∷ []) + (length (net_exclusions (c, d)) + length (net_invariants (c, d))) ≤ decl_objects d
one-object c (event_decl k x n) = omega arith
one-object c (type_decl n ty) = omega arith
one-object c (enum_decl n ls) = omega arith
one-object c (const_decl ty n e) = omega arith
one-object c (alg_decl ty n e) = omega arith
one-object c (input_decl ty n) = omega arith
one-object c (disc_decl ty n e) = omega arith
one-object c (equation_decl q) = omega arith
one-object c (invariant_decl (always p)) = omega arith
one-object c (invariant_decl (needs nms p)) = omega (arith, kept-fewer (exclusion_of c p true) nms)
one-object c (invariant_decl (disables p nms)) = omega (arith, kept-fewer (exclusion_of c p false) nms)
one-object c (marked_decl e) = omega arith

filter-first : (sort : DeclTree → Bool) (d : DeclTree) (ds : List DeclTree) → length (filter sort (d ∷ ds)) ≡ length (filter sort (d ∷ [])) + length (filter sort ds)
filter-first sort d ds =
    (elim (sort d) as (λ b. length (cond b (d ∷ filter sort ds) (filter sort ds)) ≡ length (cond b (d ∷ []) []) + length (filter sort ds)) [
      | true ↦ omega arith
      | false ↦ omega arith
    ])

declared-fewer : (c : Component) (ds : List DeclTree) → counted ds + predicates c ds ≤ sum (map decl_objects ds)
declared-fewer c [] = omega arith
declared-fewer c (d ∷ ds) =
    omega (
      arith,
      declared-fewer c ds,
      one-object c d,
      length-append (net_exclusions (c, d)) (flat_map net_exclusions (map (λ d. (c, d)) ds)),
      length-append (net_invariants (c, d)) (flat_map net_invariants (map (λ d. (c, d)) ds)),
      filter-first is_event d ds,
      filter-first is_input d ds,
      filter-first is_variable d ds,
      filter-first is_alg d ds,
      sum-map decl_objects (d ∷ ds),
      sum_by-cons decl_objects d ds,
      sum-map decl_objects ds,
    )

abbrev auto_things : NetAuto → ℕ
auto_things a = length a.locs + length a.edges

abbrev autos_of : List Component → List Component
autos_of cs = filter (λ c. is_automaton (body_of c)) cs

-- those that components declare
abbrev all_counted : List Component → ℕ
all_counted cs = sort_total is_event cs + sort_total is_input cs + sort_total is_variable cs + sort_total is_alg cs + made_total net_exclusions cs + made_total net_invariants cs

things-fewer : (cs : List Component) → length (autos_of cs) + sum (map auto_things (map net_auto (autos_of cs))) + all_counted cs ≤ sum (map component_objects cs)
things-fewer [] = omega arith
things-fewer (c ∷ cs) =
    (elim (is_automaton (body_of c)) as (λ b. length (cond b (c ∷ autos_of cs) (autos_of cs)) + sum (map auto_things (map net_auto (cond b (c ∷ autos_of cs) (autos_of cs)))) + all_counted (c ∷ cs) ≤ sum (map component_objects (c ∷ cs))) [
      | true ↦
          omega (
            arith,
            things-fewer cs,
            declared-fewer c (decls_of c),
            own,
            sum-map component_objects (c ∷ cs),
            sum_by-cons component_objects c cs,
            sum-map component_objects cs,
            map-length location_name (locs_of c),
            map-length (net_edge c) (event_edges c),
            sum-map auto_things (net_auto c ∷ map net_auto (autos_of cs)),
            sum_by-cons auto_things (net_auto c) (map net_auto (autos_of cs)),
            sum-map auto_things (map net_auto (autos_of cs)),
          )
      | false ↦ omega (arith, things-fewer cs, declared-fewer c (decls_of c), own, sum-map component_objects (c ∷ cs), sum_by-cons component_objects c cs, sum-map component_objects cs)
    ])
  where
    own : component_objects c ≡ 1 + sum (map decl_objects (decls_of c)) + length (locs_of c) + length (event_edges c)
    own = refl

-- ---- the net

module _ (t : Source) (h : IsSound t) where
  pub declared-home : (d : Declared) → Member d (declarations t) → Member d.0 (components_of t) × Member d.1 (decls_of d.0)
  declared-home d m = declaration-cases t d m

  few-objects : object_count t ≤ most_objects
  few-objects =
      elim (within-or-past (object_count t) most_objects) [
        | inl w ↦ w
        | inr w ↦ absurd (sizes t h (suc most_objects) (w, refl))
      ]

  few-in : (cs : List Component) → components_of t ≡ cs → things (net_of_source t) ≤ 100000
  few-in cs same =
      let autos : automata t ≡ autos_of cs = ap autos_of same in
      let objects : sum (map component_objects cs) ≤ most_objects = subst (λ ds. sum (map component_objects ds) ≤ most_objects) same few-objects in
      omega (
        arith,
        things-fewer cs,
        objects,
        map-length net_event (events t),
        sort-counted is_event,
        map-length net_stored (inputs t),
        sort-counted is_input,
        map-length net_stored (variables t),
        sort-counted is_variable,
        map-length net_alg (algs t),
        sort-counted is_alg,
        made-counted net_exclusions,
        made-counted net_invariants,
        map-length net_auto (automata t),
        ap length autos,
        ap (λ ds. sum (map auto_things (map net_auto ds))) autos,
      )
    where
      sort-counted : (sort : DeclTree → Bool) → length (filter (λ (d : Declared). sort d.1) (declarations t)) ≡ sort_total sort cs
      sort-counted sort = ap (λ ds. length (filter (λ (d : Declared). sort d.1) (flat_map (λ c. map (λ d. (c, d)) (decls_of c)) ds))) same ∙ sort-length sort cs

      made-counted : {A : Type 0} (f : Declared → List A) → length (flat_map f (declarations t)) ≡ made_total f cs
      made-counted f = ap (λ ds. length (flat_map f (flat_map (λ c. map (λ d. (c, d)) (decls_of c)) ds))) same ∙ made-length f cs

  pub things-few : things (net_of_source t) ≤ 100000
  things-few = few-in (components_of t) refl
