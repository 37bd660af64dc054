-- What holds in the body of a component holds in its declarations, its equations, its invariants, its edges with the values that they
-- send, and the arguments of its instances, and bounds what its edges assign.
use Rattle.std.proofs.Common.{◌≡◌, ℕ, ◌<◌, inl, inr, List, [], ◌∷◌, map, length, Some, None, refl, sym, ◌∙◌, ap, subst, arith}
use Rattle.std.specs.Prelude.{flat_map, filter_map}
use Rattle.std.specs.List.{AllByRecursion, sum_by}
use Rattle.std.proofs.lemmas.List.Sums.{sum_by-cons}
use Rattle.cif_ast.specs.Tree.{Tree, declaration, component, definition, instance, ItemTrees, no_items, items, BodyTree, group, automaton}
use Rattle.cif_ast.specs.View.{view}
use Rattle.cif_ast.specs.Throughout.{HoldsInTree, HoldsInUpdateTrees, HoldsInExpr, HoldsInInv, HoldsInDecl, HoldsInRole, HoldsInEventUse, HoldsInEdge, HoldsInLocEquation, HoldsInLoc, HoldsInItemTrees, HoldsInBodyTree}
use Rattle.cif_ast.specs.Countable.{count_of_edge, count_of_loc, count_of_body_tree}
use Rattle.cif_ast.specs.SmallNumbers.{AreFewLiterals, small_parts}
use Rattle.cif_ast.specs.declared.names.Ident.{Ident}
use Rattle.cif_ast.specs.declared.expressions.Expr.{Expr}
use Rattle.cif_ast.specs.declared.declarations.Decl.{Decl}
use Rattle.cif_ast.specs.declared.declarations.Decl.TheVariants as decl
use Rattle.cif_ast.specs.declared.declarations.Inv.{Inv}
use Rattle.cif_ast.specs.declared.declarations.Inv.TheVariants as inv
use Rattle.cif_ast.specs.declared.edges.Edge.{Edge}
use Rattle.cif_ast.specs.declared.edges.EventUse.{EventUse}
use Rattle.cif_ast.specs.declared.edges.Loc.{Loc}
use Rattle.cif_ast.specs.declared.edges.LocEquation.{LocEquation}
use Rattle.cif_ast.specs.declared.edges.Role.{Role}
use Rattle.cif_ast.specs.declared.edges.Role.TheVariants as role
use Rattle.cif_system.specs.Words.{Member}
use Rattle.cif_system.proofs.Lists.{some-same, none-some}
use Rattle.cif_system.proofs.Distinct.{member-append}
use Rattle.cif_source.specs.Source.{TypeTree, role_tree, UseTree, use_tree, EdgeTree, edge_tree, EquationTree, equation_tree, LocationTree, location_tree, InstanceTree, InvariantTree, invariant_tree, DeclTree, enum_decl, alg_decl, equation_decl, invariant_decl, decl_tree, source_items, source_body, list_of_items}
use Rattle.cif_source.specs.Objects.{item_decls, items_in, decls_in, locs_in}
use Rattle.cif_source.specs.Scoping.{as_instance}
use Rattle.cif_source.specs.BodyRules.{targets_of_all}
use Rattle.cif_source.specs.Demands.{predicate_of}
use Rattle.cif_inst_model.specs.Flat.{sent_tree}
use Rattle.cif_inst_laws.proofs.UpdateLaws.{holds-view_updates, assigned-counted}

-- ---- declarations

decl-literals : (d : Decl) → HoldsInDecl small_parts d → (n : Ident) (ls : List Ident) → enum_decl n ls ≡ decl_tree d → AreFewLiterals ls
decl-literals (decl.TypeName name ty) h n ls e = cc
decl-literals (decl.Enum name literals) h n ls e = let same : literals ≡ ls = cc in subst AreFewLiterals same h
decl-literals (decl.Event class c name) h n ls e = cc
decl-literals (decl.Const ty name value) h n ls e = cc
decl-literals (decl.Alg ty name value) h n ls e = cc
decl-literals (decl.Input ty name) h n ls e = cc
decl-literals (decl.Disc ty name value) h n ls e = cc
decl-literals (decl.Equation name value) h n ls e = cc
decl-literals (decl.Inv i) h n ls e = cc
decl-literals (decl.Marked p) h n ls e = cc

decls-literals : (ds : List Decl) → AllByRecursion (HoldsInDecl small_parts) ds → (n : Ident) (ls : List Ident) → Member (enum_decl n ls) (map decl_tree ds) → AreFewLiterals ls
decls-literals [] h n ls m = absurd m
decls-literals (d ∷ ds) h n ls m = elim m [ inl e ↦ decl-literals d h.0 n ls e | inr r ↦ decls-literals ds h.1 n ls r ]

items-literals : (is : ItemTrees) → HoldsInItemTrees small_parts is → (n : Ident) (ls : List Ident)
    → Member (enum_decl n ls) (flat_map item_decls (list_of_items (source_items is))) → AreFewLiterals ls
items-literals no_items h n ls m = absurd m
items-literals (items (declaration d) is) h n ls m = elim m [ inl e ↦ decl-literals d h.0 n ls e | inr r ↦ items-literals is h.1 n ls r ]
items-literals (items (component x b) is) h n ls m = items-literals is h.1 n ls m
items-literals (items (definition x ps b) is) h n ls m = items-literals is h.1 n ls m
items-literals (items (instance i) is) h n ls m = items-literals is h.1 n ls m

-- the enumerations of a body
pub body-literals : (b : BodyTree) → HoldsInBodyTree small_parts b → (n : Ident) (ls : List Ident) → Member (enum_decl n ls) (decls_in (source_body b)) → AreFewLiterals ls
body-literals (group is) h n ls m = items-literals is h n ls m
body-literals (automaton a) h n ls m = decls-literals a.decls h.0 n ls m

-- ---- definitions of algebraic variables

decl-value : (d : Decl) → HoldsInDecl small_parts d → (ty : TypeTree) (n : Ident) (e : Tree) → alg_decl ty n (Some e) ≡ decl_tree d → HoldsInTree small_parts e
decl-value (decl.Alg ty name (Some value)) h x n e is = let same : view value ≡ e = cc in subst (HoldsInTree small_parts) same h.1.0
decl-value (decl.Alg ty name None) h x n e is = cc
decl-value (decl.TypeName name ty) h x n e is = cc
decl-value (decl.Enum name literals) h x n e is = cc
decl-value (decl.Event class c name) h x n e is = cc
decl-value (decl.Const ty name value) h x n e is = cc
decl-value (decl.Input ty name) h x n e is = cc
decl-value (decl.Disc ty name value) h x n e is = cc
decl-value (decl.Equation name value) h x n e is = cc
decl-value (decl.Inv i) h x n e is = cc
decl-value (decl.Marked p) h x n e is = cc

decl-equation : (d : Decl) → HoldsInDecl small_parts d → (q : EquationTree) → equation_decl q ≡ decl_tree d → HoldsInTree small_parts q.value
decl-equation (decl.Equation name value) h q is = let same : record { name = name; value = view value } ≡ q = cc in subst (λ (x : EquationTree). HoldsInTree small_parts x.value) same h.0
decl-equation (decl.Alg ty name value) h q is = cc
decl-equation (decl.TypeName name ty) h q is = cc
decl-equation (decl.Enum name literals) h q is = cc
decl-equation (decl.Event class c name) h q is = cc
decl-equation (decl.Const ty name value) h q is = cc
decl-equation (decl.Input ty name) h q is = cc
decl-equation (decl.Disc ty name value) h q is = cc
decl-equation (decl.Inv i) h q is = cc
decl-equation (decl.Marked p) h q is = cc

inv-predicate : (i : Inv) → HoldsInInv small_parts i → HoldsInTree small_parts (predicate_of (invariant_tree i))
inv-predicate (inv.State p) h = h.0
inv-predicate (inv.Needs events p) h = h.1.0
inv-predicate (inv.Disables p events) h = h.0.0

decl-predicate : (d : Decl) → HoldsInDecl small_parts d → (i : InvariantTree) → invariant_decl i ≡ decl_tree d → HoldsInTree small_parts (predicate_of i)
decl-predicate (decl.Inv x) h i is = let same : invariant_tree x ≡ i = cc in subst (λ y. HoldsInTree small_parts (predicate_of y)) same (inv-predicate x h)
decl-predicate (decl.Alg ty name value) h i is = cc
decl-predicate (decl.TypeName name ty) h i is = cc
decl-predicate (decl.Enum name literals) h i is = cc
decl-predicate (decl.Event class c name) h i is = cc
decl-predicate (decl.Const ty name value) h i is = cc
decl-predicate (decl.Input ty name) h i is = cc
decl-predicate (decl.Disc ty name value) h i is = cc
decl-predicate (decl.Equation name value) h i is = cc
decl-predicate (decl.Marked p) h i is = cc

-- what holds of each declaration with small parts holds of those of a body
module _ (P : DeclTree → Type 0) (each : (d : Decl) → HoldsInDecl small_parts d → P (decl_tree d)) where
  decls-each : (ds : List Decl) → AllByRecursion (HoldsInDecl small_parts) ds → (x : DeclTree) → Member x (map decl_tree ds) → P x
  decls-each [] h x m = absurd m
  decls-each (d ∷ ds) h x m = elim m [ inl e ↦ subst P (sym e) (each d h.0) | inr r ↦ decls-each ds h.1 x r ]

  items-each : (is : ItemTrees) → HoldsInItemTrees small_parts is → (x : DeclTree) → Member x (flat_map item_decls (list_of_items (source_items is))) → P x
  items-each no_items h x m = absurd m
  items-each (items (declaration d) is) h x m = elim m [ inl e ↦ subst P (sym e) (each d h.0) | inr r ↦ items-each is h.1 x r ]
  items-each (items (component n b) is) h x m = items-each is h.1 x m
  items-each (items (definition n ps b) is) h x m = items-each is h.1 x m
  items-each (items (instance i) is) h x m = items-each is h.1 x m

  body-each : (b : BodyTree) → HoldsInBodyTree small_parts b → (x : DeclTree) → Member x (decls_in (source_body b)) → P x
  body-each (group is) h x m = items-each is h x m
  body-each (automaton a) h x m = decls-each a.decls h.0 x m

-- the declared values of a body
pub body-values : (b : BodyTree) → HoldsInBodyTree small_parts b → (ty : TypeTree) (n : Ident) (e : Tree) → Member (alg_decl ty n (Some e)) (decls_in (source_body b)) → HoldsInTree small_parts e
body-values b h ty n e m =
    body-each (λ x. (ty : TypeTree) (n : Ident) (e : Tree) → alg_decl ty n (Some e) ≡ x → HoldsInTree small_parts e) decl-value b h (alg_decl ty n (Some e)) m ty n e refl

-- and its equations
pub body-equations : (b : BodyTree) → HoldsInBodyTree small_parts b → (q : EquationTree) → Member (equation_decl q) (decls_in (source_body b)) → HoldsInTree small_parts q.value
body-equations b h q m = body-each (λ x. (q : EquationTree) → equation_decl q ≡ x → HoldsInTree small_parts q.value) decl-equation b h (equation_decl q) m q refl

-- and the predicates of its invariants and exclusions
pub body-predicates : (b : BodyTree) → HoldsInBodyTree small_parts b → (i : InvariantTree) → Member (invariant_decl i) (decls_in (source_body b)) → HoldsInTree small_parts (predicate_of i)
body-predicates b h i m = body-each (λ x. (i : InvariantTree) → invariant_decl i ≡ x → HoldsInTree small_parts (predicate_of i)) decl-predicate b h (invariant_decl i) m i refl

equations-small : (qs : List LocEquation) → AllByRecursion (HoldsInLocEquation small_parts) qs → (q : EquationTree) → Member q (map equation_tree qs) → HoldsInTree small_parts q.value
equations-small [] h q m = absurd m
equations-small (x ∷ qs) h q m = elim m [ inl same ↦ subst (λ (y : EquationTree). HoldsInTree small_parts y.value) (sym same) h.0.0 | inr r ↦ equations-small qs h.1 q r ]

locs-equations : (ls : List Loc) → AllByRecursion (HoldsInLoc small_parts) ls → (l : LocationTree) → Member l (map location_tree ls) → (q : EquationTree) → Member q l.equations → HoldsInTree small_parts q.value
locs-equations [] h l m q k = absurd m
locs-equations (x ∷ ls) h l m q k =
    elim m [
      | inl same ↦ equations-small x.equations h.0.1 q (subst (λ (y : LocationTree). Member q y.equations) same k)
      | inr r ↦ locs-equations ls h.1 l r q k
    ]

-- and those of its locations
pub body-located : (b : BodyTree) → HoldsInBodyTree small_parts b → (l : LocationTree) → Member l (locs_in (source_body b)) → (q : EquationTree) → Member q l.equations → HoldsInTree small_parts q.value
body-located (group is) h l m q k = absurd m
body-located (automaton a) h l m q k = locs-equations a.locs h.3 l m q k

-- ---- edges

-- an edge that is written, in which small parts stand, and that assigns fewer names than the limit
pub record IsSmallEdge (limit : ℕ) (x : EdgeTree) : Type 0 where
  pub written : Edge
  pub is : x ≡ edge_tree written
  pub holds : HoldsInEdge small_parts written
  pub few : count_of_edge written < limit

edges-small : (limit : ℕ) (es : List Edge) → AllByRecursion (HoldsInEdge small_parts) es → sum_by count_of_edge es < limit
    → (x : EdgeTree) → Member x (map edge_tree es) → IsSmallEdge limit x
edges-small limit [] h f x m = absurd m
edges-small limit (e ∷ es) h f x m =
    let sum = sum_by-cons count_of_edge e es in
    elim m [
      | inl same ↦ record { written = e; is = same; holds = h.0; few = omega arith }
      | inr r ↦ edges-small limit es h.1 (omega arith) x r
    ]

locs-small : (limit : ℕ) (ls : List Loc) → AllByRecursion (HoldsInLoc small_parts) ls → sum_by count_of_loc ls < limit
    → (x : EdgeTree) → Member x (flat_map (λ (l : LocationTree). l.edges) (map location_tree ls)) → IsSmallEdge limit x
locs-small limit [] h f x m = absurd m
locs-small limit (l ∷ ls) h f x m =
    let sum = sum_by-cons count_of_loc l ls in
    elim (member-append x (map edge_tree l.edges) (flat_map (λ (l : LocationTree). l.edges) (map location_tree ls)) m) [
      | inl r ↦ edges-small limit l.edges h.0.2 (omega arith) x r
      | inr r ↦ locs-small limit ls h.1 (omega arith) x r
    ]

-- the edges of a body
pub body-edges : (limit : ℕ) (b : BodyTree) → HoldsInBodyTree small_parts b → count_of_body_tree b < limit
    → (x : EdgeTree) → Member x (flat_map (λ (l : LocationTree). l.edges) (locs_in (source_body b))) → IsSmallEdge limit x
body-edges limit (group is) h f x m = absurd m
body-edges limit (automaton a) h f x m = locs-small limit a.locs h.3 (omega arith) x m

-- ---- in an edge

exprs-hold : (es : List Expr) → AllByRecursion (HoldsInExpr small_parts) es → (e : Tree) → Member e (map view es) → HoldsInTree small_parts e
exprs-hold [] h e m = absurd m
exprs-hold (x ∷ es) h e m = elim m [ inl same ↦ subst (HoldsInTree small_parts) (sym same) h.0.0 | inr r ↦ exprs-hold es h.1 e r ]

role-sent : (r : Role) → HoldsInRole small_parts r → (e : Tree) → sent_tree (role_tree r) ≡ Some e → HoldsInTree small_parts e
role-sent (role.Send (Some value)) h e is = subst (HoldsInTree small_parts) (some-same (view value) e is) h.0
role-sent (role.Send None) h e is = absurd (none-some e is)
role-sent role.Sync h e is = absurd (none-some e is)
role-sent role.Recv h e is = absurd (none-some e is)

uses-sent : (us : List EventUse) → AllByRecursion (HoldsInEventUse small_parts) us → (u : UseTree) → Member u (map use_tree us) → (e : Tree) → sent_tree u.role ≡ Some e → HoldsInTree small_parts e
uses-sent [] h u m e is = absurd m
uses-sent (x ∷ us) h u m e is =
    elim m [
      | inl same ↦ role-sent x.role h.0.1 e (ap (λ (y : UseTree). sent_tree y.role) (sym same) ∙ is)
      | inr r ↦ uses-sent us h.1 u r e is
    ]

module _ (limit : ℕ) (x : EdgeTree) (small : IsSmallEdge limit x) where
  pub edge-sent : (u : UseTree) → Member u x.uses → (e : Tree) → sent_tree u.role ≡ Some e → HoldsInTree small_parts e
  edge-sent u m = uses-sent small.written.uses small.holds.0 u (subst (λ (y : EdgeTree). Member u y.uses) small.is m)

  pub edge-guards : (e : Tree) → Member e x.guards → HoldsInTree small_parts e
  edge-guards e m = exprs-hold small.written.guards small.holds.1 e (subst (λ (y : EdgeTree). Member e y.guards) small.is m)

  pub edge-updates : HoldsInUpdateTrees small_parts x.updates
  edge-updates = subst (λ (y : EdgeTree). HoldsInUpdateTrees small_parts y.updates) (sym small.is) (holds-view_updates small_parts small.written.updates small.holds.2)

  pub edge-few : length (targets_of_all x.updates) < limit
  edge-few =
      let P : EdgeTree → Type 0 = λ y. length (targets_of_all y.updates) < limit in
      subst P (sym small.is) (omega (arith, assigned-counted small.written.updates, small.few))

-- ---- instances

-- the arguments of the instances of a body
items-arguments : (is : ItemTrees) → HoldsInItemTrees small_parts is → (i : InstanceTree) → Member i (filter_map as_instance (list_of_items (source_items is))) → (e : Tree) → Member e i.args → HoldsInTree small_parts e
items-arguments no_items h i m e k = absurd m
items-arguments (items (declaration d) is) h i m e k = items-arguments is h.1 i m e k
items-arguments (items (component x b) is) h i m e k = items-arguments is h.1 i m e k
items-arguments (items (definition x ps b) is) h i m e k = items-arguments is h.1 i m e k
items-arguments (items (instance j) is) h i m e k =
    elim m [
      | inl same ↦ exprs-hold j.args h.0.1 e (subst (λ (x : InstanceTree). Member e x.args) same k)
      | inr r ↦ items-arguments is h.1 i r e k
    ]

pub body-arguments : (b : BodyTree) → HoldsInBodyTree small_parts b → (i : InstanceTree) → Member i (filter_map as_instance (items_in (source_body b))) → (e : Tree) → Member e i.args → HoldsInTree small_parts e
body-arguments (group is) h i m e k = items-arguments is h i m e k
body-arguments (automaton a) h i m e k = absurd m
