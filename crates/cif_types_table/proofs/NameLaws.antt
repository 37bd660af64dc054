-- The number that a name of a type has is that of the type which the name finds, and what is needed has a lower rank.
use Rattle.std.proofs.Common.{◌≡◌, ℕ, zero, suc, ◌+◌, ◌<◌, List, [], ◌∷◌, map, length, refl, sym, ap, subst, ◌∙◌, arith, Option, Some, None}
use Rattle.std.specs.Prelude.{slice_get, true}
use Rattle.std.specs.Option.{option_to_list}
use Rattle.cif_system.specs.Words.{Member}
use Rattle.cif_system.proofs.Lists.{some-same, none-some, slice_get-below}
use Rattle.cif_ast.specs.declared.names.Name.{Name}
use Rattle.cif_source.specs.Source.{TypeTree, bool_type, int_type, range_type, named_type, type_decl, enum_decl, event_decl, const_decl, alg_decl, input_decl, disc_decl, equation_decl, invariant_decl, marked_decl, event_param, alg_param, location_param, Source}
use Rattle.cif_source.specs.Components.{Component, as_written, scope_of, Entry, declared, literal, location, inner, definition, instance, parameter}
use Rattle.cif_source.specs.Lookup.{ScopeEntry, Reached, reached, missing, blocked, found}
use Rattle.cif_source.specs.Objects.{bodies}
use Rattle.cif_order.specs.Graph.{Needs, AreInside}
use Rattle.cif_scope.specs.declared.looked.Looked.{Looked}
use Rattle.cif_scope.specs.declared.looked.Looked.TheVariants.{At, Missing, Blocked}
use Rattle.cif_scope.specs.declared.scopes.Scopes.{Scopes}
use Rattle.cif_scope.specs.Tables.{IsBody}
use Rattle.cif_scope.specs.Looks.{look}
use Rattle.cif_scope.specs.Scopes.{IsEntry, AreNumbered}
use Rattle.cif_scope.proofs.BodyLaws.{body-written, scope-written}
use Rattle.cif_scope.proofs.Places.{beside-at, beside-back}
use Rattle.cif_scope.proofs.LookLaws.{Agrees, get-map}
use Rattle.cif_scope.proofs.WrittenLaws.{written}
use Rattle.cif_scope.proofs.FindLaws.{found-is}
use Rattle.cif_resolve_cycles.proofs.Graphs.{in-option, option-in, needs-row, row-needs}
use Rattle.cif_types_kinds.proofs.WrittenLaws.{found-alike}
use Rattle.cif_types_table.specs.declared.layout.Slot.{Slot}
use Rattle.cif_types_table.specs.declared.layout.Slot.TheVariants as slot
use Rattle.cif_types_table.specs.declared.layout.NamedType.{NamedType}
use Rattle.cif_types_table.specs.declared.layout.NamedType.TheVariants as named
use Rattle.cif_types_table.specs.Layouts.{SlotTree, type_slot, literal_slot, value_slot, location_slot, event_slot, other_slot, slot_tree, NamedTree, synonym, enumeration, named_tree}
use Rattle.cif_types_table.specs.Types.{type_in, type_among, type_at, type_named, type_in_type, type_needs, type_graph}
use Rattle.cif_types_table.proofs.SlotLaws.{IsSlot, IsSlotOf, AreRows, row-at, row-back}

-- ---- what stands under a map

pub map-get : {A B : Type 0} (f : A → B) (xs : List A) (k : ℕ) (y : B) → slice_get (map f xs) k ≡ Some y → (x : A) × (slice_get xs k ≡ Some x) × (f x ≡ y)
map-get f [] k y h = absurd (none-some y h)
map-get f (x ∷ xs) zero y h = (x, refl, some-same (f x) y h)
map-get f (x ∷ xs) (suc k) y h = map-get f xs k y h

pub map-count : {A B : Type 0} (f : A → B) (xs : List A) → length (map f xs) ≡ length xs
map-count f [] = refl
map-count f (x ∷ xs) = ap suc (map-count f xs)

-- ---- types in slots

abbrev pub tree_type : SlotTree → Option ℕ
tree_type (type_slot m) = Some m
tree_type (literal_slot m) = None
tree_type (value_slot ty) = None
tree_type location_slot = None
tree_type (event_slot h) = None
tree_type other_slot = None

tree-type : (s : Slot) → type_in (Some s) ≡ tree_type (slot_tree s)
tree-type (slot.Type m) = refl
tree-type (slot.Literal m) = refl
tree-type (slot.Value ty) = refl
tree-type slot.Location = refl
tree-type (slot.Event h) = refl
tree-type slot.Other = refl

-- the number of the type that an entry of a body declares, if it declares one
abbrev pub IsTypeAt : Source → List NamedTree → Component → Entry → Option ℕ → Type 0
IsTypeAt t all d (declared (type_decl n ty)) o = (m : ℕ) × (j : ℕ) × (o ≡ Some m) × (slice_get all m ≡ Some (synonym j ty)) × IsBody t j d
IsTypeAt t all d (declared (enum_decl n ls)) o = (m : ℕ) × (o ≡ Some m) × (slice_get all m ≡ Some (enumeration ls))
IsTypeAt t all d (declared (event_decl c h n)) o = o ≡ None
IsTypeAt t all d (declared (const_decl ty n e)) o = o ≡ None
IsTypeAt t all d (declared (alg_decl ty n e)) o = o ≡ None
IsTypeAt t all d (declared (input_decl ty n)) o = o ≡ None
IsTypeAt t all d (declared (disc_decl ty n e)) o = o ≡ None
IsTypeAt t all d (declared (equation_decl q)) o = o ≡ None
IsTypeAt t all d (declared (invariant_decl i)) o = o ≡ None
IsTypeAt t all d (declared (marked_decl p)) o = o ≡ None
IsTypeAt t all d (literal j ls) o = o ≡ None
IsTypeAt t all d (location j) o = o ≡ None
IsTypeAt t all d (inner n b) o = o ≡ None
IsTypeAt t all d (definition n ps b) o = o ≡ None
IsTypeAt t all d (instance i) o = o ≡ None
IsTypeAt t all d (parameter j p) o = o ≡ None

-- the type that is found in a body
abbrev pub IsTypeOf : Source → List NamedTree → Reached → Option ℕ → Type 0
IsTypeOf t all (reached (d, e)) o = IsTypeAt t all d e o
IsTypeOf t all missing o = o ≡ None
IsTypeOf t all blocked o = o ≡ None

entry-type : (t : Source) (all : List NamedTree) (k : ℕ) (d : Component) (e : Entry) (s : SlotTree) (o : Option ℕ) → IsBody t k d → o ≡ tree_type s → IsSlot all k e s → IsTypeAt t all d e o
entry-type t all k d (declared (type_decl n ty)) s o own h g = (g.0, k, h ∙ ap tree_type g.1, g.2, own)
entry-type t all k d (declared (enum_decl n ls)) s o own h g = (g.0, h ∙ ap tree_type g.1, g.2)
entry-type t all k d (declared (event_decl c j n)) s o own h g = h ∙ ap tree_type g
entry-type t all k d (declared (const_decl ty n e)) s o own h g = h ∙ ap tree_type g
entry-type t all k d (declared (alg_decl ty n e)) s o own h g = h ∙ ap tree_type g
entry-type t all k d (declared (input_decl ty n)) s o own h g = h ∙ ap tree_type g
entry-type t all k d (declared (disc_decl ty n e)) s o own h g = h ∙ ap tree_type g
entry-type t all k d (declared (equation_decl q)) s o own h g = h ∙ ap tree_type g
entry-type t all k d (declared (invariant_decl i)) s o own h g = h ∙ ap tree_type g
entry-type t all k d (declared (marked_decl p)) s o own h g = h ∙ ap tree_type g
entry-type t all k d (literal j ls) s o own h g = h ∙ ap tree_type g.1
entry-type t all k d (location j) s o own h g = h ∙ ap tree_type g
entry-type t all k d (inner n b) s o own h g = h ∙ ap tree_type g
entry-type t all k d (definition n ps b) s o own h g = h ∙ ap tree_type g
entry-type t all k d (instance i) s o own h g = h ∙ ap tree_type g
entry-type t all k d (parameter j (event_param c i n)) s o own h g = h ∙ ap tree_type g
entry-type t all k d (parameter j (alg_param ty n)) s o own h g = h ∙ ap tree_type g
entry-type t all k d (parameter j (location_param n)) s o own h g = h ∙ ap tree_type g

pub type-slot : (s : SlotTree) (l : ℕ) → tree_type s ≡ Some l → s ≡ type_slot l
type-slot (type_slot m) l h = ap type_slot (some-same m l h)
type-slot (literal_slot m) l h = absurd (none-some l h)
type-slot (value_slot ty) l h = absurd (none-some l h)
type-slot location_slot l h = absurd (none-some l h)
type-slot (event_slot c) l h = absurd (none-some l h)
type-slot other_slot l h = absurd (none-some l h)

-- a type in a slot is one of the types
typed : (all : List NamedTree) (k : ℕ) (e : Entry) (s : SlotTree) (l : ℕ) → IsSlot all k e s → tree_type s ≡ Some l → l < length all
typed all k e s l g h = go e g
  where
    same : (m : ℕ) (y : NamedTree) → s ≡ type_slot m → slice_get all m ≡ Some y → l < length all
    same m y f at = let e : m ≡ l = some-same m l (sym (ap tree_type f) ∙ h) in slice_get-below all l y (subst (λ i. slice_get all i ≡ Some y) e at)

    none : tree_type s ≡ None → l < length all
    none f = absurd (none-some l (sym f ∙ h))

    go : (e : Entry) → IsSlot all k e s → l < length all
    go (declared (type_decl n ty)) g = same g.0 (synonym k ty) g.1 g.2
    go (declared (enum_decl n ls)) g = same g.0 (enumeration ls) g.1 g.2
    go (declared (event_decl c i n)) g = none (ap tree_type g)
    go (declared (const_decl ty n e)) g = none (ap tree_type g)
    go (declared (alg_decl ty n e)) g = none (ap tree_type g)
    go (declared (input_decl ty n)) g = none (ap tree_type g)
    go (declared (disc_decl ty n e)) g = none (ap tree_type g)
    go (declared (equation_decl q)) g = none (ap tree_type g)
    go (declared (invariant_decl i)) g = none (ap tree_type g)
    go (declared (marked_decl p)) g = none (ap tree_type g)
    go (literal j ls) g = none (ap tree_type g.1)
    go (location j) g = none (ap tree_type g)
    go (inner n b) g = none (ap tree_type g)
    go (definition n ps b) g = none (ap tree_type g)
    go (instance i) g = none (ap tree_type g)
    go (parameter j (event_param c i n)) g = none (ap tree_type g)
    go (parameter j (alg_param ty n)) g = none (ap tree_type g)
    go (parameter j (location_param n)) g = none (ap tree_type g)

module _ (t : Source) (s : Scopes) (are : AreNumbered t s) (slots : List (List Slot)) (types : List NamedType) where
  abbrev pub all : List NamedTree
  all = map named_tree types

  abbrev pub rows : List (List SlotTree)
  rows = map (map slot_tree) slots

  -- ---- what is needed

  abbrev tree_needs : NamedTree → List ℕ
  tree_needs (synonym k ty) = option_to_list (type_in_type s slots k ty)
  tree_needs (enumeration ls) = []

  needs-tree : (y : NamedType) → type_needs s slots y ≡ tree_needs (named_tree y)
  needs-tree (named.Synonym k ty) = refl
  needs-tree (named.Enumeration ls) = refl

  abbrev pub graph : List (List ℕ)
  graph = type_graph s slots types

  pub graph-count : length graph ≡ length all
  graph-count = map-count (type_needs s slots) types ∙ sym (map-count named_tree types)

  -- a synonym needs the type that it names
  pub synonym-needs : (m j l : ℕ) (ty : TypeTree) → slice_get all m ≡ Some (synonym j ty) → type_in_type s slots j ty ≡ Some l → Needs graph m l
  synonym-needs m j l ty h g =
      let w = map-get named_tree types m (synonym j ty) h in
      let row : slice_get graph m ≡ Some (tree_needs (synonym j ty)) = get-map (type_needs s slots) types m w.0 w.1 ∙ ap Some (needs-tree w.0 ∙ ap tree_needs w.2) in
      row-needs graph m l (tree_needs (synonym j ty)) row (option-in (type_in_type s slots j ty) l g)

  tree-needed : (y : NamedTree) (l : ℕ) → Member l (tree_needs y) → (j : ℕ) × (ty : TypeTree) × (y ≡ synonym j ty) × (type_in_type s slots j ty ≡ Some l)
  tree-needed (synonym j ty) l h = (j, ty, refl, in-option (type_in_type s slots j ty) l h)
  tree-needed (enumeration ls) l h = absurd h

  -- what is needed is named
  pub needs-synonym : (m l : ℕ) → Needs graph m l → (j : ℕ) × (ty : TypeTree) × (slice_get all m ≡ Some (synonym j ty)) × (type_in_type s slots j ty ≡ Some l)
  needs-synonym m l h =
      let row = needs-row graph m l h in
      let y = map-get (type_needs s slots) types m row.0 row.1 in
      let at : Member l (tree_needs (named_tree y.0)) = subst (λ (ns : List ℕ). Member l ns) (sym y.2 ∙ needs-tree y.0) row.2 in
      let w = tree-needed (named_tree y.0) l at in
      (w.0, w.1, get-map named_tree types m y.0 y.1 ∙ ap Some w.2, w.3)

  -- ---- what names find

  module _ (slotted : AreRows all 0 (bodies t) rows) where
    slot-type : (d : Component) (e : Entry) (k i : ℕ) → IsBody t k (as_written d) → IsEntry d e i → IsTypeAt t all (as_written d) e (type_at slots (At k i))
    slot-type d e k i own at =
        let r = row-at all 0 k (bodies t) rows (as_written d) slotted own in
        let zero_first : 0 + k ≡ k = omega arith in
        let row = map-get (map slot_tree) slots k r.0 r.1 in
        let here = beside-at (IsSlotOf all (0 + k)) (scope_of (as_written d)) r.0 i (at.0, e) r.2 (ap (λ es. slice_get es i) (scope-written d) ∙ at.1) in
        let mapped : slice_get (map slot_tree row.0) i ≡ Some here.0 = ap (λ (x : List SlotTree). slice_get x i) row.2 ∙ here.1 in
        let one = map-get slot_tree row.0 i here.0 mapped in
        let number : type_at slots (At k i) ≡ tree_type here.0 = ap (λ o. type_among o i) row.1 ∙ ap type_in one.1 ∙ tree-type one.0 ∙ ap tree_type one.2 in
        entry-type t all k (as_written d) e here.0 (type_at slots (At k i)) own number (subst (λ j. IsSlot all j e here.0) zero_first here.2)

    looked-type : (r : Reached) (l : Looked) → Agrees t r l → IsTypeOf t all (written r) (type_at slots l)
    looked-type (reached (d, e)) (At k i) h = slot-type d e k i h.0 h.1
    looked-type (reached (d, e)) Missing h = absurd h
    looked-type (reached (d, e)) Blocked h = absurd h
    looked-type missing (At k i) h = absurd h
    looked-type missing Missing h = refl
    looked-type missing Blocked h = absurd h
    looked-type blocked (At k i) h = absurd h
    looked-type blocked Missing h = absurd h
    looked-type blocked Blocked h = refl

    -- also in an instance
    pub named-type : (d : Component) (k : ℕ) (nm : Name) → IsBody t k (as_written d) → IsTypeOf t all (written (found d nm)) (type_named s slots k nm)
    named-type d k nm own =
        let alike : as_written d ≡ as_written (as_written d) = sym (body-written t s.table.scopes are.table (as_written d) k own) in
        subst (λ r. IsTypeOf t all r (type_named s slots k nm)) (sym (found-alike d (as_written d) nm alike))
        (looked-type (found (as_written d) nm) (look s.table s.definitions true k nm) (found-is t s.table are.table are.indexed s.definitions are.definitions (as_written d) k nm own))

    -- ---- where types stand

    -- type l stands in slot i of body k
    pub record StandsAt (l k i : ℕ) (x : ScopeEntry) : Type 0 where
      pub body : IsBody t k x.0
      pub entry : IsEntry x.0 x.1 i
      pub slot : IsSlot all k x.1 (type_slot l)

    slot-stands : (k i l : ℕ) → type_at slots (At k i) ≡ Some l → (x : ScopeEntry) × StandsAt l k i x
    slot-stands k i l h = in_rows (slice_get slots k) refl h
      where
        in_row : (row : List Slot) → slice_get slots k ≡ Some row → (o : Option Slot) → slice_get row i ≡ o → type_in o ≡ Some l → (x : ScopeEntry) × StandsAt l k i x
        in_row row e None f h = absurd (none-some l h)
        in_row row e (Some x) f h =
            let w = row-back all 0 k (bodies t) rows (map slot_tree row) slotted (get-map (map slot_tree) slots k row e) in
            let zero_first : 0 + k ≡ k = omega arith in
            let back = beside-back (IsSlotOf all (0 + k)) (scope_of w.0) (map slot_tree row) i (slot_tree x) w.2 (get-map slot_tree row i x f) in
            let named : slot_tree x ≡ type_slot l = type-slot (slot_tree x) l (sym (tree-type x) ∙ h) in (
              (w.0, back.0.1),
              record {
                body = w.1;
                entry = (back.0.0, back.1);
                slot = subst (λ j. IsSlot all j back.0.1 (type_slot l)) zero_first (subst (λ y. IsSlot all (0 + k) back.0.1 y) named back.2);
              },
            )

        in_rows : (o : Option (List Slot)) → slice_get slots k ≡ o → type_among o i ≡ Some l → (x : ScopeEntry) × StandsAt l k i x
        in_rows None e h = absurd (none-some l h)
        in_rows (Some row) e h = in_row row e (slice_get row i) refl h

    pub type-stands : (at : Looked) (l : ℕ) → type_at slots at ≡ Some l → (k : ℕ) × (i : ℕ) × (x : ScopeEntry) × (at ≡ At k i) × StandsAt l k i x
    type-stands (At k i) l h = let w = slot-stands k i l h in (k, i, w.0, refl, w.1)
    type-stands Missing l h = absurd (none-some l h)
    type-stands Blocked l h = absurd (none-some l h)

    -- ---- the needs are types

    in-type-below : (j l : ℕ) (ty : TypeTree) → type_in_type s slots j ty ≡ Some l → l < length all
    in-type-below j l bool_type h = absurd (none-some l h)
    in-type-below j l int_type h = absurd (none-some l h)
    in-type-below j l (range_type lower upper) h = absurd (none-some l h)
    in-type-below j l (named_type nm) h = let w = type-stands (look s.table s.definitions true j nm) l h in typed all w.0 w.2.1 (type_slot l) l w.4.slot refl

    pub needs-inside : AreInside graph
    needs-inside m l h =
        let w = needs-synonym m l h in
        let below : l < length all = in-type-below w.0 l w.1 w.3 in
        let count : length graph ≡ length all = graph-count in
        omega arith
