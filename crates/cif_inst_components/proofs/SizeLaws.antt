-- The objects that are counted by numbers are those of the source, up to the limit.
use Rattle.std.proofs.Common.{◌≡◌, ℕ, ◌+◌, ◌<◌, ◌≤◌, List, [], ◌∷◌, length, length-append, map, refl, sym, ap, ◌∙◌, arith}
use Rattle.std.specs.Prelude.{flat_map, sum, unwrap_or}
use Rattle.std.specs.List.{enumerate_from}
use Rattle.std.proofs.lemmas.List.Sums.{sum_by-cons, sum-map}
use Rattle.cif_system.proofs.Lists.{map-length}
use Rattle.cif_source.specs.Source.{UseTree, EdgeTree, LocationTree, DeclTree, decl_item, component_item, definition_item, instance_item, SourceBody, group_body, automaton_body, Source, no_source, source, list_of_items}
use Rattle.cif_source.specs.Components as comps
use Rattle.cif_source.specs.Components.{whole, part, blank, copy, as_written, body_of}
use Rattle.cif_source.specs.Objects.{bodies, item_decls, decls_in, locs_in, EventEdge, edges_of_uses, components_of, most_objects}
use Rattle.cif_source.specs.InstanceRules.{decl_objects, component_objects, object_count, TooManyObjectsDue}
use Rattle.cif_scope.specs.Tables.{Beside}
use Rattle.cif_scope.specs.Written.{written_bodies}
use Rattle.cif_scope.proofs.Places.{beside-at}
use Rattle.cif_scope.proofs.LookLaws.{get-map}
use Rattle.cif_scope.proofs.DefinitionLaws.{IsWritten, bodies-written}
use Rattle.cif_inst_components.specs.declared.components.Component.{Component}
use Rattle.cif_inst_components.specs.Sizes.{stop, decls_size, items_size, edges_size, locations_size, body_size, written_size}
use Rattle.cif_inst_components.specs.Listing.{size_in, all_objects}
use Rattle.cif_inst_components.specs.Numbers.{IsComponent}
use Rattle.cif_inst_components.proofs.ListSizes.{objects-cons}

decls-counted : (ds : List DeclTree) → decls_size ds ≡ sum (map decl_objects ds)
decls-counted [] = refl
decls-counted (d ∷ ds) = omega (arith, decls-counted ds, sum-map decl_objects (d ∷ ds), sum_by-cons decl_objects d ds, sum-map decl_objects ds)

items-counted : (is : Source) → items_size is ≡ sum (map decl_objects (flat_map item_decls (list_of_items is)))
items-counted no_source = refl
items-counted (source (decl_item d) is) =
    let ds : List DeclTree = flat_map item_decls (list_of_items is) in
    omega (arith, items-counted is, sum-map decl_objects (d ∷ ds), sum_by-cons decl_objects d ds, sum-map decl_objects ds)
items-counted (source (component_item n b) is) = omega (arith, items-counted is)
items-counted (source (definition_item n ps b) is) = omega (arith, items-counted is)
items-counted (source (instance_item j) is) = omega (arith, items-counted is)

edges-counted : (k : ℕ) (es : List EdgeTree) → edges_size es ≡ length (flat_map (edges_of_uses k) es)
edges-counted k [] = refl
edges-counted k (e ∷ es) =
    omega (arith, edges-counted k es, length-append (edges_of_uses k e) (flat_map (edges_of_uses k) es), map-length {B = EventEdge} (λ (u : UseTree). record { from = k; event_use = u; edge = e }) e.uses)

locations-counted : (k : ℕ) (ls : List LocationTree) → locations_size ls ≡ length ls + length (flat_map (λ (l : ℕ × LocationTree). flat_map (edges_of_uses l.0) l.1.edges) (enumerate_from k ls))
locations-counted k [] = refl
locations-counted k (l ∷ ls) =
    omega (arith, locations-counted (k + 1) ls, edges-counted k l.edges, length-append (flat_map (edges_of_uses k) l.edges) (flat_map (λ (l : ℕ × LocationTree). flat_map (edges_of_uses l.0) l.1.edges) (enumerate_from (k + 1) ls)))

-- the objects of a body, and a component
abbrev objects_in : SourceBody → ℕ
objects_in b = 1 + sum (map decl_objects (decls_in b)) + length (locs_in b) + length (flat_map (λ (l : ℕ × LocationTree). flat_map (edges_of_uses l.0) l.1.edges) (enumerate_from 0 (locs_in b)))

body-counted : (b : SourceBody) → 1 + body_size b ≡ objects_in b
body-counted (group_body is) = omega (arith, items-counted is)
body-counted (automaton_body a) = omega (arith, decls-counted a.decls, locations-counted 0 a.locs)

component-counted : (c : comps.Component) → 1 + body_size (body_of c) ≡ component_objects c
component-counted c = body-counted (body_of c)

body-as-written : (c : comps.Component) → body_of (as_written c) ≡ body_of c
body-as-written (whole is) = refl
body-as-written (part o n b) = refl
body-as-written (blank o n ps b) = refl
body-as-written (copy o n ps b g i) = refl

count-cons : (c : comps.Component) (cs : List comps.Component) → sum (map component_objects (c ∷ cs)) ≡ component_objects c + sum (map component_objects cs)
count-cons c cs = omega (arith, sum-map component_objects (c ∷ cs), sum_by-cons component_objects c cs, sum-map component_objects cs)

length-counted : (cs : List comps.Component) → length cs ≤ sum (map component_objects cs)
length-counted [] = omega arith
length-counted (c ∷ cs) = omega (arith, length-counted cs, count-cons c cs, component-counted c)

module _ (t : Source) where
  abbrev sizes : List ℕ
  sizes = map written_size (written_bodies t)

  size-of : (c : comps.Component) (r : Component) → IsComponent t c r → size_in sizes r.body ≡ stop (body_size (body_of c))
  size-of c r is =
      let w = beside-at IsWritten (bodies t) (written_bodies t) r.body (as_written c) (bodies-written t) is.body in
      ap (λ o. unwrap_or o 0) (get-map written_size (written_bodies t) r.body w.0 w.1) ∙ ap (λ b. stop (body_size b)) (sym w.2.1 ∙ body-as-written c)

  all-counted : (cs : List comps.Component) (rs : List Component) → Beside (IsComponent t) cs rs → stop (all_objects sizes rs) ≡ stop (sum (map component_objects cs))
  all-counted [] [] h = refl
  all-counted [] (r ∷ rs) h = absurd h
  all-counted (c ∷ cs) [] h = absurd h
  all-counted (c ∷ cs) (r ∷ rs) h =
      omega (arith, all-counted cs rs h.1, objects-cons sizes r rs, count-cons c cs, component-counted c, size-of c r h.0)

  pub objects-are : (all : List Component) → Beside (IsComponent t) (components_of t) all → stop (all_objects sizes all) ≡ stop (object_count t)
  objects-are all h = all-counted (components_of t) all h

  pub count-few : (all : List Component) → Beside (IsComponent t) (components_of t) all → all_objects sizes all < 100001 → object_count t ≤ most_objects
  count-few all h l = omega (arith, objects-are all h, l)

  pub count-many : (all : List Component) (count : ℕ) → Beside (IsComponent t) (components_of t) all → 100001 ≤ all_objects sizes all → count ≡ 100001 → TooManyObjectsDue t count
  count-many all count h l e = (omega (arith, objects-are all h, l), e)

  pub few-components : object_count t ≤ most_objects → length (components_of t) ≤ most_objects
  few-components l = omega (arith, length-counted (components_of t), l)

  pub none-due : (count : ℕ) → object_count t ≤ most_objects → TooManyObjectsDue t count → ⊥
  none-due count l h = absurd (omega (arith, l, h.0))
