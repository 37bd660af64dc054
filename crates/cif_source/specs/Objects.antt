-- All components of a specification, its bodies as written, and the objects in the order of their numbers (CIF 3 language
-- reference, "Component definition and instantiation").
use Rattle.std.specs.Prelude.{ℕ, zero, suc, Bool, true, false, ◌&&◌, List, [], ◌∷◌, ◌++◌, map, filter, flat_map, filter_map, Option, Some, None}
use Rattle.std.specs.List.{enumerate_from, position_or_len}
use Rattle.cif_source.specs.Source.{Text, DeclTree, event_decl, const_decl, alg_decl, input_decl, disc_decl, UseTree, EdgeTree, LocationTree, SourceItem, decl_item, component_item, definition_item, instance_item, SourceBody, group_body, automaton_body, Source, no_source, source, list_of_items}
use Rattle.cif_source.specs.Components.{Component, whole, part, blank, body_of, path_of, same_path, same_text, decl_entries}
use Rattle.cif_source.specs.Lookup.{opened}

-- what stands in the specification or in a group
abbrev pub items_in : SourceBody → List SourceItem
items_in (group_body is) = list_of_items is
items_in (automaton_body a) = []

-- ---- components

-- a definition is no component; an instance is one, with the body of its definition where that is found
abbrev pub child_of : Component → SourceItem → Option Component
child_of c (decl_item d) = None
child_of c (component_item n b) = Some (part c n b)
child_of c (definition_item n ps b) = None
child_of c (instance_item i) = opened c i

abbrev pub children : Component → List Component
children c = filter_map (child_of c) (items_in (body_of c))

-- a component and those in it, nested at most n deep: a component before its children, children in text order
abbrev pub components_below : ℕ → Component → List Component
components_below zero c = c ∷ []
components_below (suc n) c = c ∷ flat_map (components_below n) (children c)

-- As deep as a specification may have objects: where components nest deeper, there are more of them than that.
abbrev pub most_objects : ℕ
most_objects = 100000

abbrev pub components_of : Source → List Component
components_of t = components_below most_objects (whole t)

abbrev pub is_automaton : SourceBody → Bool
is_automaton (group_body is) = false
is_automaton (automaton_body a) = true

abbrev pub automata : Source → List Component
automata t = filter (λ c. is_automaton (body_of c)) (components_of t)

-- ---- bodies as written

-- those of definitions are bodies too, in text order
abbrev mutual
  pub bodies_in : Component → Source → List Component
  bodies_in c no_source = []
  bodies_in c (source i is) = bodies_at c i ++ bodies_in c is

  pub bodies_at : Component → SourceItem → List Component
  bodies_at c (decl_item d) = []
  bodies_at c (component_item n b) = part c n b ∷ bodies_under (part c n b) b
  bodies_at c (definition_item n ps b) = blank c n ps b ∷ bodies_under (blank c n ps b) b
  bodies_at c (instance_item i) = []

  pub bodies_under : Component → SourceBody → List Component
  bodies_under c (group_body is) = bodies_in c is
  bodies_under c (automaton_body a) = []

abbrev pub bodies : Source → List Component
bodies t = whole t ∷ bodies_in (whole t) t

-- ---- declarations

abbrev pub item_decls : SourceItem → List DeclTree
item_decls (decl_item d) = d ∷ []
item_decls _ = []

abbrev pub decls_in : SourceBody → List DeclTree
decls_in (group_body is) = flat_map item_decls (list_of_items is)
decls_in (automaton_body a) = a.decls

abbrev pub decls_of : Component → List DeclTree
decls_of c = decls_in (body_of c)

-- a component with a declaration of its own
abbrev pub Declared : Type 0
Declared = Component × DeclTree

abbrev pub declarations : Source → List Declared
declarations t = flat_map (λ c. map (λ d. (c, d)) (decls_of c)) (components_of t)

abbrev pub is_event : DeclTree → Bool
is_event (event_decl k h n) = true
is_event _ = false

abbrev pub is_input : DeclTree → Bool
is_input (input_decl ty n) = true
is_input _ = false

abbrev pub is_variable : DeclTree → Bool
is_variable (disc_decl ty n e) = true
is_variable _ = false

abbrev pub is_alg : DeclTree → Bool
is_alg (alg_decl ty n e) = true
is_alg _ = false

abbrev pub is_const : DeclTree → Bool
is_const (const_decl ty n e) = true
is_const _ = false

-- the declarations of one sort, of which each has its place as its number
abbrev pub of_sort : (DeclTree → Bool) → Source → List Declared
of_sort sort t = filter (λ d. sort d.1) (declarations t)

abbrev pub events : Source → List Declared
events t = of_sort is_event t

abbrev pub inputs : Source → List Declared
inputs t = of_sort is_input t

abbrev pub variables : Source → List Declared
variables t = of_sort is_variable t

abbrev pub algs : Source → List Declared
algs t = of_sort is_alg t

-- the declared name is x; an enumeration's literals are no such names
abbrev pub declares : Text → DeclTree → Bool
declares x d = elim (decl_entries d) [ [] ↦ false | e ∷ es ↦ same_text e.0.text x ]

abbrev pub is_declared : Component → Text → Declared → Bool
is_declared c x d = declares x d.1 && same_path (path_of d.0) (path_of c)

-- the number of what c declares as x, among such things
abbrev pub number_in : List Declared → Component → Text → ℕ
number_in ds c x = position_or_len (is_declared c x) ds

abbrev pub automaton_number : Source → Component → ℕ
automaton_number t c = position_or_len (λ a. same_path (path_of a) (path_of c)) (automata t)

-- ---- edges

abbrev pub locs_in : SourceBody → List LocationTree
locs_in (group_body is) = []
locs_in (automaton_body a) = a.locs

-- the number of a location in this list is its place
abbrev pub locs_of : Component → List LocationTree
locs_of c = locs_in (body_of c)

-- one use of an event on an edge, with the place that the edge leaves
pub record EventEdge : Type 0 where
  pub from : ℕ
  pub event_use : UseTree
  pub edge : EdgeTree

abbrev pub edges_of_uses : ℕ → EdgeTree → List EventEdge
edges_of_uses k e = map (λ u. record { from = k; event_use = u; edge = e }) e.uses

-- the edges of an automaton by their numbers: an edge with n event uses is n edges, in the order of the uses
abbrev pub event_edges : Component → List EventEdge
event_edges a = flat_map (λ (l : ℕ × LocationTree). flat_map (edges_of_uses l.0) l.1.edges) (enumerate_from 0 (locs_of a))
