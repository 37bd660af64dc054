-- The slots of a body say what its scope declares.
use Rattle.std.proofs.Common.{◌≡◌, ℕ, zero, suc, ◌+◌, ◌≤◌, List, [], ◌∷◌, ◌++◌, map, length, length-append, replicate, refl, sym, ap, subst, ◌∙◌, arith, Option, Some, None}
use Rattle.std.specs.Prelude.{slice_get, flat_map, filter_map, option_map}
use Rattle.std.specs.List.{enumerate_from, cons_option}
use Rattle.cif_system.proofs.Lists.{some-same, none-some}
use Rattle.cif_ast.specs.declared.names.Ident.{Ident}
use Rattle.cif_source.specs.Source.{DeclTree, type_decl, enum_decl, event_decl, const_decl, alg_decl, input_decl, disc_decl, equation_decl, invariant_decl, marked_decl, ParamTree, LocationTree, SourceItem, decl_item, component_item, definition_item, instance_item, SourceBody, group_body, automaton_body, Source, no_source, source, list_of_items}
use Rattle.cif_source.specs.Components.{Component, body_of, scope_of, Entry, declared, literal, location, inner, definition, instance, parameter, decl_entries, location_entry, item_entries, body_entries, param_name, param_entries}
use Rattle.cif_source.specs.Objects.{item_decls, decls_in, decls_of}
use Rattle.cif_scope.specs.Tables.{Beside}
use Rattle.cif_scope.specs.Written.{WrittenBody}
use Rattle.cif_scope.proofs.Places.{beside-append, Sits, sits-left, sits-right, sits-head}
use Rattle.cif_scope.proofs.DefinitionLaws.{IsWritten}
use Rattle.cif_types_table.specs.Layouts.{SlotTree, type_slot, literal_slot, value_slot, location_slot, event_slot, other_slot, NamedTree, synonym, enumeration, decl_types, decls_types, item_types, items_types, body_types, all_types, decl_count, decls_count, item_count, items_count, body_count, decl_slots, decls_slots, item_slots, items_slots, location_slots, body_slots, param_slot, written_slots, all_slots}

-- what a slot of body k says of an entry, where these are all types with names
abbrev pub IsSlot : List NamedTree → ℕ → Entry → SlotTree → Type 0
IsSlot all k (declared (type_decl n ty)) s = (m : ℕ) × (s ≡ type_slot m) × (slice_get all m ≡ Some (synonym k ty))
IsSlot all k (declared (enum_decl n ls)) s = (m : ℕ) × (s ≡ type_slot m) × (slice_get all m ≡ Some (enumeration ls))
IsSlot all k (declared (event_decl c h n)) s = s ≡ event_slot h
IsSlot all k (declared (const_decl ty n e)) s = s ≡ value_slot ty
IsSlot all k (declared (alg_decl ty n e)) s = s ≡ value_slot ty
IsSlot all k (declared (input_decl ty n)) s = s ≡ value_slot ty
IsSlot all k (declared (disc_decl ty n e)) s = s ≡ value_slot ty
IsSlot all k (declared (equation_decl q)) s = s ≡ other_slot
IsSlot all k (declared (invariant_decl i)) s = s ≡ other_slot
IsSlot all k (declared (marked_decl p)) s = s ≡ other_slot
IsSlot all k (literal j ls) s = (m : ℕ) × (s ≡ literal_slot m) × (slice_get all m ≡ Some (enumeration ls))
IsSlot all k (location j) s = s ≡ location_slot
IsSlot all k (inner n b) s = s ≡ other_slot
IsSlot all k (definition n ps b) s = s ≡ other_slot
IsSlot all k (instance i) s = s ≡ other_slot
IsSlot all k (parameter j p) s = s ≡ param_slot p

abbrev pub IsSlotOf : List NamedTree → ℕ → Ident × Entry → SlotTree → Type 0
IsSlotOf all k e s = IsSlot all k e.1 s

-- the slots of the bodies from body k on
abbrev pub AreRows : List NamedTree → ℕ → List Component → List (List SlotTree) → Type 0
AreRows all k [] [] = Unit {0}
AreRows all k [] (row ∷ rows) = ⊥
AreRows all k (c ∷ cs) [] = ⊥
AreRows all k (c ∷ cs) (row ∷ rows) = Beside (IsSlotOf all k) (scope_of c) row × AreRows all (k + 1) cs rows

-- ---- counts

decl-count : (k : ℕ) (d : DeclTree) → length (decl_types k d) ≡ decl_count d
decl-count k (type_decl n ty) = refl
decl-count k (enum_decl n ls) = refl
decl-count k (event_decl c h n) = refl
decl-count k (const_decl ty n e) = refl
decl-count k (alg_decl ty n e) = refl
decl-count k (input_decl ty n) = refl
decl-count k (disc_decl ty n e) = refl
decl-count k (equation_decl q) = refl
decl-count k (invariant_decl i) = refl
decl-count k (marked_decl p) = refl

joined : {A : Type 0} (xs ys : List A) (m n : ℕ) → length xs ≡ m → length ys ≡ n → length (xs ++ ys) ≡ m + n
joined xs ys m n h g = length-append xs ys ∙ ap (λ i. i + length ys) h ∙ ap (λ j. m + j) g

decls-count : (k : ℕ) (ds : List DeclTree) → length (decls_types k ds) ≡ decls_count ds
decls-count k [] = refl
decls-count k (d ∷ ds) = joined (decl_types k d) (decls_types k ds) (decl_count d) (decls_count ds) (decl-count k d) (decls-count k ds)

item-count : (k : ℕ) (i : SourceItem) → length (item_types k i) ≡ item_count i
item-count k (decl_item d) = decl-count k d
item-count k (component_item n b) = refl
item-count k (definition_item n ps b) = refl
item-count k (instance_item i) = refl

items-count : (k : ℕ) (is : Source) → length (items_types k is) ≡ items_count is
items-count k no_source = refl
items-count k (source i is) = joined (item_types k i) (items_types k is) (item_count i) (items_count is) (item-count k i) (items-count k is)

body-count : (k : ℕ) (b : SourceBody) → length (body_types k b) ≡ body_count b
body-count k (group_body is) = items-count k is
body-count k (automaton_body a) = decls-count k a.decls

-- ---- there are no more types with names than declarations

decl-one : (k : ℕ) (d : DeclTree) → length (decl_types k d) ≤ 1
decl-one k (type_decl n ty) = omega arith
decl-one k (enum_decl n ls) = omega arith
decl-one k (event_decl c h n) = omega arith
decl-one k (const_decl ty n e) = omega arith
decl-one k (alg_decl ty n e) = omega arith
decl-one k (input_decl ty n) = omega arith
decl-one k (disc_decl ty n e) = omega arith
decl-one k (equation_decl q) = omega arith
decl-one k (invariant_decl i) = omega arith
decl-one k (marked_decl p) = omega arith

joined-below : {A B : Type 0} (xs ys : List A) (us vs : List B) → length xs ≤ length us → length ys ≤ length vs → length (xs ++ ys) ≤ length (us ++ vs)
joined-below xs ys us vs h g = omega (arith, length-append xs ys, length-append us vs)

decls-below : (k : ℕ) (ds : List DeclTree) → length (decls_types k ds) ≤ length ds
decls-below k [] = omega arith
decls-below k (d ∷ ds) = joined-below (decl_types k d) (decls_types k ds) (d ∷ []) ds (decl-one k d) (decls-below k ds)

item-below : (k : ℕ) (i : SourceItem) → length (item_types k i) ≤ length (item_decls i)
item-below k (decl_item d) = decl-one k d
item-below k (component_item n b) = omega arith
item-below k (definition_item n ps b) = omega arith
item-below k (instance_item i) = omega arith

items-below : (k : ℕ) (is : Source) → length (items_types k is) ≤ length (flat_map item_decls (list_of_items is))
items-below k no_source = omega arith
items-below k (source i is) = joined-below (item_types k i) (items_types k is) (item_decls i) (flat_map item_decls (list_of_items is)) (item-below k i) (items-below k is)

body-below : (k : ℕ) (b : SourceBody) → length (body_types k b) ≤ length (decls_in b)
body-below k (group_body is) = items-below k is
body-below k (automaton_body a) = decls-below k a.decls

pub types-below : (k : ℕ) (cs : List Component) (ws : List WrittenBody) → Beside IsWritten cs ws → length (all_types k ws) ≤ length (flat_map decls_of cs)
types-below k [] [] h = omega arith
types-below k [] (w ∷ ws) h = absurd h
types-below k (c ∷ cs) [] h = absurd h
types-below k (c ∷ cs) (w ∷ ws) h =
    joined-below (body_types k w.body) (all_types (k + 1) ws) (decls_of c) (flat_map decls_of cs)
    (subst (λ b. length (body_types k w.body) ≤ length (decls_in b)) (sym h.0.1) (body-below k w.body)) (types-below (k + 1) cs ws h.1)

-- ---- slots

module _ (all : List NamedTree) (k : ℕ) where
  literal-slots : (m i : ℕ) (ls : List Ident) (whole : List Ident) → slice_get all m ≡ Some (enumeration whole)
      → Beside (IsSlotOf all k) (map (λ (x : ℕ × Ident). (x.1, literal x.0 whole)) (enumerate_from i ls)) (replicate (length ls) (literal_slot m))
  literal-slots m i [] whole h = tt
  literal-slots m i (l ∷ ls) whole h = ((m, refl, h), literal-slots m (i + 1) ls whole h)

  decl-slots : (m : ℕ) (d : DeclTree) → Sits all m (decl_types k d) → Beside (IsSlotOf all k) (decl_entries d) (decl_slots m d)
  decl-slots m (type_decl n ty) h = ((m, refl, sits-head all m (synonym k ty) [] h), tt)
  decl-slots m (enum_decl n ls) h = let at = sits-head all m (enumeration ls) [] h in ((m, refl, at), literal-slots m 0 ls ls at)
  decl-slots m (event_decl c g n) h = (refl, tt)
  decl-slots m (const_decl ty n e) h = (refl, tt)
  decl-slots m (alg_decl ty n e) h = (refl, tt)
  decl-slots m (input_decl ty n) h = (refl, tt)
  decl-slots m (disc_decl ty n e) h = (refl, tt)
  decl-slots m (equation_decl q) h = tt
  decl-slots m (invariant_decl i) h = tt
  decl-slots m (marked_decl p) h = tt

  decls-slots : (m : ℕ) (ds : List DeclTree) → Sits all m (decls_types k ds) → Beside (IsSlotOf all k) (flat_map decl_entries ds) (decls_slots m ds)
  decls-slots m [] h = tt
  decls-slots m (d ∷ ds) h =
      beside-append (IsSlotOf all k) (decl_entries d) (flat_map decl_entries ds) (decl_slots m d) (decls_slots (m + decl_count d) ds)
      (decl-slots m d (sits-left all m (decl_types k d) (decls_types k ds) h))
      (decls-slots (m + decl_count d) ds (sits-right all m (decl_count d) (decl_types k d) (decls_types k ds) (decl-count k d) h))

  item-slots : (m : ℕ) (i : SourceItem) → Sits all m (item_types k i) → Beside (IsSlotOf all k) (item_entries i) (item_slots m i)
  item-slots m (decl_item d) h = decl-slots m d h
  item-slots m (component_item n b) h = (refl, tt)
  item-slots m (definition_item n ps b) h = (refl, tt)
  item-slots m (instance_item i) h = (refl, tt)

  items-slots : (m : ℕ) (is : Source) → Sits all m (items_types k is) → Beside (IsSlotOf all k) (flat_map item_entries (list_of_items is)) (items_slots m is)
  items-slots m no_source h = tt
  items-slots m (source i is) h =
      beside-append (IsSlotOf all k) (item_entries i) (flat_map item_entries (list_of_items is)) (item_slots m i) (items_slots (m + item_count i) is)
      (item-slots m i (sits-left all m (item_types k i) (items_types k is) h))
      (items-slots (m + item_count i) is (sits-right all m (item_count i) (item_types k i) (items_types k is) (item-count k i) h))

  locations-slots : (i : ℕ) (ls : List LocationTree) → Beside (IsSlotOf all k) (filter_map location_entry (enumerate_from i ls)) (flat_map location_slots ls)
  locations-slots i [] = tt
  locations-slots i (l ∷ ls) = go l.name (locations-slots (i + 1) ls)
    where
      go : (o : Option Ident) → Beside (IsSlotOf all k) (filter_map location_entry (enumerate_from (i + 1) ls)) (flat_map location_slots ls)
          → Beside (IsSlotOf all k) (cons_option (option_map (λ n. (n, location i)) o) (filter_map location_entry (enumerate_from (i + 1) ls))) (elim o [ None ↦ [] | Some n ↦ location_slot ∷ [] ] ++ flat_map location_slots ls)
      go None h = h
      go (Some n) h = (refl, h)

  params-slots : (i : ℕ) (ps : List ParamTree) → Beside (IsSlotOf all k) (map (λ (x : ℕ × ParamTree). (param_name x.1, parameter x.0 x.1)) (enumerate_from i ps)) (map param_slot ps)
  params-slots i [] = tt
  params-slots i (p ∷ ps) = (refl, params-slots (i + 1) ps)

  body-slots : (m : ℕ) (b : SourceBody) → Sits all m (body_types k b) → Beside (IsSlotOf all k) (body_entries b) (body_slots m b)
  body-slots m (group_body is) h = items-slots m is h
  body-slots m (automaton_body a) h =
      beside-append (IsSlotOf all k) (flat_map decl_entries a.decls) (filter_map location_entry (enumerate_from 0 a.locs)) (decls_slots m a.decls) (flat_map location_slots a.locs)
      (decls-slots m a.decls h) (locations-slots 0 a.locs)

  written-slots : (m : ℕ) (c : Component) (w : WrittenBody) → IsWritten c w → Sits all m (body_types k w.body) → Beside (IsSlotOf all k) (scope_of c) (written_slots m w)
  written-slots m c w h g =
      subst (λ ps. Beside (IsSlotOf all k) (param_entries ps ++ body_entries (body_of c)) (written_slots m w)) (sym h.0)
      (subst (λ b. Beside (IsSlotOf all k) (param_entries w.params ++ body_entries b) (written_slots m w)) (sym h.1)
      (beside-append (IsSlotOf all k) (param_entries w.params) (body_entries w.body) (map param_slot w.params) (body_slots m w.body) (params-slots 0 w.params) (body-slots m w.body g)))

pub rows-are : (all : List NamedTree) (k m : ℕ) (cs : List Component) (ws : List WrittenBody) → Beside IsWritten cs ws → Sits all m (all_types k ws) → AreRows all k cs (all_slots m ws)
rows-are all k m [] [] h g = tt
rows-are all k m [] (w ∷ ws) h g = absurd h
rows-are all k m (c ∷ cs) [] h g = absurd h
rows-are all k m (c ∷ cs) (w ∷ ws) h g = (
  written-slots all k m c w h.0 (sits-left all m (body_types k w.body) (all_types (k + 1) ws) g),
  rows-are all (k + 1) (m + body_count w.body) cs ws h.1 (sits-right all m (body_count w.body) (body_types k w.body) (all_types (k + 1) ws) (body-count k w.body) g),
)

-- the slots of a body
pub row-at : (all : List NamedTree) (k j : ℕ) (cs : List Component) (rows : List (List SlotTree)) (c : Component) → AreRows all k cs rows → slice_get cs j ≡ Some c
    → (row : List SlotTree) × (slice_get rows j ≡ Some row) × Beside (IsSlotOf all (k + j)) (scope_of c) row
row-at all k j [] rows c h g = absurd (none-some c g)
row-at all k j (d ∷ cs) [] c h g = absurd h
row-at all k zero (d ∷ cs) (row ∷ rows) c h g =
    let e : k ≡ k + 0 = omega arith in
    (row, refl, subst (λ i. Beside (IsSlotOf all i) (scope_of c) row) e (subst (λ b. Beside (IsSlotOf all k) (scope_of b) row) (some-same d c g) h.0))
row-at all k (suc j) (d ∷ cs) (row ∷ rows) c h g =
    let w = row-at all (k + 1) j cs rows c h.1 g in
    let e : (k + 1) + j ≡ k + suc j = omega arith in
    (w.0, w.1, subst (λ i. Beside (IsSlotOf all i) (scope_of c) w.0) e w.2)

-- the body of a row of slots
pub row-back : (all : List NamedTree) (k j : ℕ) (cs : List Component) (rows : List (List SlotTree)) (row : List SlotTree) → AreRows all k cs rows → slice_get rows j ≡ Some row
    → (c : Component) × (slice_get cs j ≡ Some c) × Beside (IsSlotOf all (k + j)) (scope_of c) row
row-back all k j cs [] row h g = absurd (none-some row g)
row-back all k j [] (r ∷ rows) row h g = absurd h
row-back all k zero (d ∷ cs) (r ∷ rows) row h g =
    let e : k ≡ k + 0 = omega arith in
    (d, refl, subst (λ i. Beside (IsSlotOf all i) (scope_of d) row) e (subst (λ (x : List SlotTree). Beside (IsSlotOf all k) (scope_of d) x) (some-same r row g) h.0))
row-back all k (suc j) (d ∷ cs) (r ∷ rows) row h g =
    let w = row-back all (k + 1) j cs rows row h.1 g in
    let e : (k + 1) + j ≡ k + suc j = omega arith in
    (w.0, w.1, subst (λ i. Beside (IsSlotOf all i) (scope_of w.0) row) e w.2)
