-- In a specification that keeps to the limits of depth, the updates of each edge of each body nest at most 100 deep.
use Rattle.std.proofs.Common.{◌≡◌, ◌≤◌, inl, inr, List, [], ◌∷◌, map, sym, subst, arith}
use Rattle.std.specs.List.{AllByRecursion}
use Rattle.cif_ast.specs.Tree.{ItemTree, declaration, component, definition, instance, ItemTrees, no_items, items, BodyTree, group, automaton}
use Rattle.cif_ast.specs.View.{view_update, view_updates}
use Rattle.cif_ast.specs.Depth.{update_depth, updates_depth}
use Rattle.cif_ast.specs.Throughout.{HoldsInUpdate, HoldsInEdge, HoldsInLoc, HoldsInItemTree, HoldsInItemTrees, HoldsInBodyTree}
use Rattle.cif_ast.specs.Shallow.{shallow_parts}
use Rattle.cif_ast.specs.declared.edges.Update.{Update}
use Rattle.cif_ast.specs.declared.edges.Edge.{Edge}
use Rattle.cif_ast.specs.declared.edges.Loc.{Loc}
use Rattle.cif_system.specs.Words.{Member}
use Rattle.cif_system.proofs.Distinct.{member-append}
use Rattle.cif_source.specs.Source.{EdgeTree, edge_tree, LocationTree, location_tree, param_tree, SourceBody, source_item, source_items, source_body}
use Rattle.cif_source.specs.Components.{Component, whole, part, blank, body_of}
use Rattle.cif_source.specs.Objects.{bodies, bodies_in, bodies_at, bodies_under, locs_in}

-- ---- one body

-- its updates nest at most 100 deep
abbrev IsShallowEdge : EdgeTree → Type 0
IsShallowEdge x = updates_depth x.updates ≤ 100

-- each of its edges is such a one
abbrev pub IsShallowBody : SourceBody → Type 0
IsShallowBody b = (l : LocationTree) → Member l (locs_in b) → (x : EdgeTree) → Member x l.edges → IsShallowEdge x

updates-shallow : (us : List Update) → AllByRecursion (HoldsInUpdate shallow_parts) us → updates_depth (view_updates us) ≤ 100
updates-shallow [] h = omega arith
updates-shallow (u ∷ us) h = let first : update_depth (view_update u) ≤ 100 = h.0.1 in omega (arith, first, updates-shallow us h.1)

edges-shallow : (es : List Edge) → AllByRecursion (HoldsInEdge shallow_parts) es → (x : EdgeTree) → Member x (map edge_tree es) → IsShallowEdge x
edges-shallow [] h x m = absurd m
edges-shallow (e ∷ es) h x m = elim m [
  | inl same ↦ subst IsShallowEdge (sym same) (updates-shallow e.updates h.0.2)
  | inr r ↦ edges-shallow es h.1 x r
]

locs-shallow : (ls : List Loc) → AllByRecursion (HoldsInLoc shallow_parts) ls → (l : LocationTree) → Member l (map location_tree ls)
    → (x : EdgeTree) → Member x l.edges → IsShallowEdge x
locs-shallow [] h l m x k = absurd m
locs-shallow (y ∷ ls) h l m x k = elim m [
  | inl same ↦ edges-shallow y.edges h.0.2 x (subst (λ (z : LocationTree). Member x z.edges) same k)
  | inr r ↦ locs-shallow ls h.1 l r x k
]

body-shallow : (b : BodyTree) → HoldsInBodyTree shallow_parts b → IsShallowBody (source_body b)
body-shallow (group is) h l m x k = absurd m
body-shallow (automaton a) h l m x k = locs-shallow a.locs h.3 l m x k

-- ---- all bodies

same-shallow : (c x : Component) → IsShallowBody (body_of x) → c ≡ x → IsShallowBody (body_of c)
same-shallow c x h same = subst (λ (y : Component). IsShallowBody (body_of y)) (sym same) h

mutual
  items-shallow : (o : Component) (is : ItemTrees) → HoldsInItemTrees shallow_parts is → (c : Component) → Member c (bodies_in o (source_items is)) → IsShallowBody (body_of c)
  items-shallow o no_items h c m = absurd m
  items-shallow o (items i is) h c m =
      elim (member-append c (bodies_at o (source_item i)) (bodies_in o (source_items is)) m) [
        | inl r ↦ item-shallow o i h.0 c r
        | inr r ↦ items-shallow o is h.1 c r
      ]

  item-shallow : (o : Component) (i : ItemTree) → HoldsInItemTree shallow_parts i → (c : Component) → Member c (bodies_at o (source_item i)) → IsShallowBody (body_of c)
  item-shallow o (declaration d) h c m = absurd m
  item-shallow o (component n b) h c m = elim m [
    | inl same ↦ same-shallow c (part o n (source_body b)) (body-shallow b h) same
    | inr r ↦ under-shallow (part o n (source_body b)) b h c r
  ]
  item-shallow o (definition n ps b) h c m = elim m [
    | inl same ↦ same-shallow c (blank o n (map param_tree ps) (source_body b)) (body-shallow b h.1) same
    | inr r ↦ under-shallow (blank o n (map param_tree ps) (source_body b)) b h.1 c r
  ]
  item-shallow o (instance i) h c m = absurd m

  under-shallow : (o : Component) (b : BodyTree) → HoldsInBodyTree shallow_parts b → (c : Component) → Member c (bodies_under o (source_body b)) → IsShallowBody (body_of c)
  under-shallow o (group is) h c m = items-shallow o is h c m
  under-shallow o (automaton a) h c m = absurd m

pub bodies-shallow : (is : ItemTrees) → HoldsInItemTrees shallow_parts is → (c : Component) → Member c (bodies (source_items is)) → IsShallowBody (body_of c)
bodies-shallow is h c m = elim m [
  | inl same ↦ same-shallow c (whole (source_items is)) (body-shallow (group is) h) same
  | inr r ↦ items-shallow (whole (source_items is)) is h c r
]
