-- The scopes of a source are a table of its bodies.
use Rattle.std.proofs.Common.{◌≡◌, ℕ, ◌+◌, List, [], ◌∷◌, ◌++◌, length, length-append, map, refl, ◌∙◌, arith, Some, None}
use Rattle.std.specs.Prelude.{flat_map, filter_map}
use Rattle.std.specs.List.{enumerate_from}
use Rattle.cif_ast.specs.declared.names.Ident.{Ident}
use Rattle.cif_source.specs.Source.{DeclTree, type_decl, enum_decl, event_decl, const_decl, alg_decl, input_decl, disc_decl, equation_decl, invariant_decl, marked_decl, ParamTree, event_param, alg_param, location_param, LocationTree, AutomatonTree, InstanceTree, SourceItem, decl_item, component_item, definition_item, instance_item, SourceBody, group_body, automaton_body, Source, no_source, source, list_of_items}
use Rattle.cif_source.specs.Components.{Component, whole, part, blank, body_entries, decl_entries, location_entry, item_entries, param_entries, param_name as name_of_param, literal, parameter}
use Rattle.cif_source.specs.Objects.{bodies, bodies_in, bodies_at, bodies_under}
use Rattle.cif_source.specs.Scoping.{instances_of, as_instance}
use Rattle.cif_scope.specs.Drafts.{literal_names, decl_names, location_name, location_names, automaton_names, param_name, param_names, count_in, count_at, count_under, next_instance, item_names, names_in, scopes_in, scopes_at, scopes_of}
use Rattle.cif_scope.specs.Tables.{IsBody, Beside, IsName, IsScope, IsTable}
use Rattle.cif_scope.proofs.Places.{beside-append, Sits, sits-left, sits-right, sits-head, sits-tail, sits-whole}

-- ---- how many bodies there are

mutual
  bodies_in-count : (c : Component) (is : Source) → length (bodies_in c is) ≡ count_in is
  bodies_in-count c no_source = refl
  bodies_in-count c (source i is) =
      let first : length (bodies_at c i) ≡ count_at i = bodies_at-count c i in
      let rest : length (bodies_in c is) ≡ count_in is = bodies_in-count c is in
      length-append (bodies_at c i) (bodies_in c is) ∙ omega arith

  bodies_at-count : (c : Component) (i : SourceItem) → length (bodies_at c i) ≡ count_at i
  bodies_at-count c (decl_item d) = refl
  bodies_at-count c (component_item n b) = let rest : length (bodies_under (part c n b) b) ≡ count_under b = bodies_under-count (part c n b) b in omega arith
  bodies_at-count c (definition_item n ps b) = let rest : length (bodies_under (blank c n ps b) b) ≡ count_under b = bodies_under-count (blank c n ps b) b in omega arith
  bodies_at-count c (instance_item i) = refl

  bodies_under-count : (c : Component) (b : SourceBody) → length (bodies_under c b) ≡ count_under b
  bodies_under-count c (group_body is) = bodies_in-count c is
  bodies_under-count c (automaton_body a) = refl

module _ (t : Source) where
  -- ---- names that hold no body

  literals-are : (c : Component) (all : List Ident) (k : ℕ) (ls : List Ident) → Beside (IsName t c) (map (λ x. (x.1, literal x.0 all)) (enumerate_from k ls)) (literal_names k ls)
  literals-are c all k [] = tt
  literals-are c all k (l ∷ ls) = ((refl, refl), literals-are c all (k + 1) ls)

  decl-is : (c : Component) (d : DeclTree) → Beside (IsName t c) (decl_entries d) (decl_names d)
  decl-is c (type_decl n ty) = ((refl, (_, refl, refl)), tt)
  decl-is c (enum_decl n ls) = ((refl, (_, refl, refl)), literals-are c ls 0 ls)
  decl-is c (event_decl k h n) = ((refl, (_, refl, refl)), tt)
  decl-is c (const_decl ty n e) = ((refl, (_, refl, refl)), tt)
  decl-is c (alg_decl ty n e) = ((refl, (_, refl, refl)), tt)
  decl-is c (input_decl ty n) = ((refl, (_, refl, refl)), tt)
  decl-is c (disc_decl ty n e) = ((refl, (_, refl, refl)), tt)
  decl-is c (equation_decl q) = tt
  decl-is c (invariant_decl i) = tt
  decl-is c (marked_decl p) = tt

  decls-are : (c : Component) (ds : List DeclTree) → Beside (IsName t c) (flat_map decl_entries ds) (flat_map decl_names ds)
  decls-are c [] = tt
  decls-are c (d ∷ ds) = beside-append (IsName t c) (decl_entries d) (flat_map decl_entries ds) (decl_names d) (flat_map decl_names ds) (decl-is c d) (decls-are c ds)

  locations-are : (c : Component) (k : ℕ) (ls : List LocationTree) → Beside (IsName t c) (filter_map location_entry (enumerate_from k ls)) (location_names k ls)
  locations-are c k [] = tt
  locations-are c k (l ∷ ls) =
      elim l.name as (λ o. Beside (IsName t c) (filter_map location_entry ((k, record l { name = o }) ∷ enumerate_from (k + 1) ls)) (location_name k o ++ location_names (k + 1) ls)) [
        | None ↦ locations-are c (k + 1) ls
        | Some n ↦ ((refl, refl), locations-are c (k + 1) ls)
      ]

  automaton-is : (c : Component) (a : AutomatonTree) → Beside (IsName t c) (body_entries (automaton_body a)) (automaton_names a)
  automaton-is c a =
      beside-append (IsName t c) (flat_map decl_entries a.decls) (filter_map location_entry (enumerate_from 0 a.locs)) (flat_map decl_names a.decls) (location_names 0 a.locs)
      (decls-are c a.decls) (locations-are c 0 a.locs)

  param-is : (c : Component) (k : ℕ) (p : ParamTree) → IsName t c (name_of_param p, parameter k p) (param_name p)
  param-is c k (event_param l h n) = (refl, refl)
  param-is c k (alg_param ty n) = (refl, refl)
  param-is c k (location_param n) = (refl, refl)

  params-from : (c : Component) (k : ℕ) (ps : List ParamTree) → Beside (IsName t c) (map (λ x. (name_of_param x.1, parameter x.0 x.1)) (enumerate_from k ps)) (param_names ps)
  params-from c k [] = tt
  params-from c k (p ∷ ps) = (param-is c k p, params-from c (k + 1) ps)

  -- ---- names of items

  abbrev InBodies : ℕ → List Component → Type 0
  InBodies k cs = Sits (bodies t) k cs

  abbrev instances_among : List SourceItem → List InstanceTree
  instances_among is = filter_map as_instance is

  item-is : (c : Component) (k r : ℕ) (i : SourceItem) (js : List SourceItem) → InBodies k (bodies_at c i) → Sits (instances_of c) r (instances_among (i ∷ js))
      → Beside (IsName t c) (item_entries i) (item_names k r i)
  item-is c k r (decl_item d) js s g = decl-is c d
  item-is c k r (component_item n b) js s g = ((refl, (k, refl, sits-head (bodies t) k (part c n b) (bodies_under (part c n b) b) s)), tt)
  item-is c k r (definition_item n ps b) js s g = ((refl, (k, refl, sits-head (bodies t) k (blank c n ps b) (bodies_under (blank c n ps b) b) s)), tt)
  item-is c k r (instance_item i) js s g = ((refl, (r, refl, sits-head (instances_of c) r i (instances_among js) g)), tt)

  further-instances : (c : Component) (r : ℕ) (i : SourceItem) (js : List SourceItem) → Sits (instances_of c) r (instances_among (i ∷ js)) → Sits (instances_of c) (next_instance r i) (instances_among js)
  further-instances c r (decl_item d) js g = g
  further-instances c r (component_item n b) js g = g
  further-instances c r (definition_item n ps b) js g = g
  further-instances c r (instance_item i) js g = sits-tail (instances_of c) r i (instances_among js) g

  items-are : (c : Component) (k r : ℕ) (is : Source) → InBodies k (bodies_in c is) → Sits (instances_of c) r (instances_among (list_of_items is))
      → Beside (IsName t c) (flat_map item_entries (list_of_items is)) (names_in k r is)
  items-are c k r no_source s g = tt
  items-are c k r (source i is) s g =
      beside-append (IsName t c) (item_entries i) (flat_map item_entries (list_of_items is)) (item_names k r i) (names_in (k + count_at i) (next_instance r i) is)
      (item-is c k r i (list_of_items is) (sits-left (bodies t) k (bodies_at c i) (bodies_in c is) s) g)
      (items-are c (k + count_at i) (next_instance r i) is
      (sits-right (bodies t) k (count_at i) (bodies_at c i) (bodies_in c is) (bodies_at-count c i) s) (further-instances c r i (list_of_items is) g))

  -- ---- scopes

  mutual
    scopes-in : (c : Component) (o k : ℕ) (is : Source) → IsBody t o c → InBodies k (bodies_in c is) → Beside (IsScope t) (bodies_in c is) (scopes_in o k is)
    scopes-in c o k no_source own s = tt
    scopes-in c o k (source i is) own s =
        beside-append (IsScope t) (bodies_at c i) (bodies_in c is) (scopes_at o k i) (scopes_in o (k + count_at i) is)
        (scopes-at c o k i own (sits-left (bodies t) k (bodies_at c i) (bodies_in c is) s))
        (scopes-in c o (k + count_at i) is own (sits-right (bodies t) k (count_at i) (bodies_at c i) (bodies_in c is) (bodies_at-count c i) s))

    scopes-at : (c : Component) (o k : ℕ) (i : SourceItem) → IsBody t o c → InBodies k (bodies_at c i) → Beside (IsScope t) (bodies_at c i) (scopes_at o k i)
    scopes-at c o k (decl_item d) own s = tt
    scopes-at c o k (instance_item i) own s = tt
    scopes-at c o k (component_item n (automaton_body a)) own s = (record { outer = (o, refl, own); names = automaton-is (part c n (automaton_body a)) a }, tt)
    scopes-at c o k (component_item n (group_body is)) own s =
        let d : Component = part c n (group_body is) in (
          record {
            outer = (o, refl, own);
            names = items-are d (k + 1) 0 is (sits-tail (bodies t) k d (bodies_in d is) s) (sits-whole (instances_of d));
          },
          scopes-in d k (k + 1) is (sits-head (bodies t) k d (bodies_in d is) s) (sits-tail (bodies t) k d (bodies_in d is) s),
        )
    scopes-at c o k (definition_item n ps (automaton_body a)) own s =
        let d : Component = blank c n ps (automaton_body a) in (
          record {
            outer = (o, refl, own);
            names = beside-append (IsName t d) (param_entries ps) (body_entries (automaton_body a)) (param_names ps) (automaton_names a) (params-from d 0 ps) (automaton-is d a);
          },
          tt,
        )
    scopes-at c o k (definition_item n ps (group_body is)) own s =
        let d : Component = blank c n ps (group_body is) in (
          record {
            outer = (o, refl, own);
            names = beside-append (IsName t d) (param_entries ps) (body_entries (group_body is)) (param_names ps) (names_in (k + 1) 0 is) (params-from d 0 ps)
                (items-are d (k + 1) 0 is (sits-tail (bodies t) k d (bodies_in d is) s) (sits-whole (instances_of d)));
          },
          scopes-in d k (k + 1) is (sits-head (bodies t) k d (bodies_in d is) s) (sits-tail (bodies t) k d (bodies_in d is) s),
        )

-- the scopes of a source are a table of its bodies
pub scopes-table : (t : Source) → IsTable t (scopes_of t)
scopes-table t =
    let c : Component = whole t in (
      record {
        outer = (refl, refl);
        names = items-are t c 1 0 t (sits-tail (bodies t) 0 c (bodies_in c t) (sits-whole (bodies t))) (sits-whole (instances_of c));
      },
      scopes-in t c 0 1 t refl (sits-tail (bodies t) 0 c (bodies_in c t) (sits-whole (bodies t))),
    )
