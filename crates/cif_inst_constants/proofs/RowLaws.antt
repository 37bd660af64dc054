-- The declarations at the names of a body are those that its scope declares.
use Rattle.std.proofs.Common.{◌≡◌, ℕ, ◌+◌, List, [], ◌∷◌, ◌++◌, map, flat_map, length, refl, sym, ap, ◌∙◌, Option, Some, None}
use Rattle.std.specs.Prelude.{slice_get, filter_map, option_map}
use Rattle.std.specs.Borrow.{Bor}
use Rattle.std.specs.List.{enumerate_from, cons_option}
use Rattle.std.proofs.lemmas.List.{map-append}
use Rattle.std.proofs.lemmas.Option.{slice_get-map}
use Rattle.cif_ast.specs.declared.names.Ident.{Ident}
use Rattle.cif_ast.specs.declared.declarations.Decl.{Decl}
use Rattle.cif_source.specs.Source.{DeclTree, type_decl, enum_decl, event_decl, const_decl, alg_decl, input_decl, disc_decl, equation_decl, invariant_decl, marked_decl, ParamTree, LocationTree, SourceItem, decl_item, component_item, definition_item, instance_item, SourceBody, group_body, automaton_body, Source, no_source, source, list_of_items}
use Rattle.cif_source.specs.Components.{Component, params_of, scope_of, Entry, Entries, declared, literal, location, inner, definition, instance, parameter, decl_entries, location_entry, item_entries, body_entries, param_name, param_entries}
use Rattle.cif_source.specs.Objects.{bodies}
use Rattle.cif_scope.specs.Tables.{IsBody}
use Rattle.cif_scope.specs.Written.{WrittenBody, written_bodies}
use Rattle.cif_scope.proofs.Places.{beside-at}
use Rattle.cif_scope.proofs.DefinitionLaws.{IsWritten, bodies-written}
use Rattle.cif_inst_constants.specs.Slots.{Slot, nones, decl_slots, location_slots, item_slots, slots_in, slots_under, written_slots, row_of, decl_in, decl_at}

pub get_row : (rows : List (List (Option (Bor Decl)))) (k j : ℕ) → decl_at (map row_of rows) k j ≡ decl_in (option_map row_of (slice_get rows k)) j
get_row rows k j = ap (λ o. decl_in o j) (slice_get-map row_of rows k)

abbrev pub entry_slot : Ident × Entry → Slot
entry_slot (n, declared d) = Some d
entry_slot (n, literal i ls) = None
entry_slot (n, location i) = None
entry_slot (n, inner m b) = None
entry_slot (n, definition m ps b) = None
entry_slot (n, instance i) = None
entry_slot (n, parameter i p) = None

abbrev rows : Entries → List Slot
rows es = map entry_slot es

literal-rows : (i : ℕ) (all ls : List Ident) → nones (length ls) ≡ rows (map (λ (x : ℕ × Ident). (x.1, literal x.0 all)) (enumerate_from i ls))
literal-rows i all [] = refl
literal-rows i all (l ∷ ls) = ap (λ (ns : List Slot). None ∷ ns) (literal-rows (i + 1) all ls)

decl-rows : (d : DeclTree) → decl_slots d ≡ rows (decl_entries d)
decl-rows (type_decl n ty) = refl
decl-rows (enum_decl n ls) = ap (λ (ns : List Slot). Some (enum_decl n ls) ∷ ns) (literal-rows 0 ls ls)
decl-rows (event_decl c h n) = refl
decl-rows (const_decl ty n e) = refl
decl-rows (alg_decl ty n e) = refl
decl-rows (input_decl ty n) = refl
decl-rows (disc_decl ty n e) = refl
decl-rows (equation_decl q) = refl
decl-rows (invariant_decl i) = refl
decl-rows (marked_decl p) = refl

decls-rows : (ds : List DeclTree) → flat_map decl_slots ds ≡ rows (flat_map decl_entries ds)
decls-rows [] = refl
decls-rows (d ∷ ds) = ap (λ (l : List Slot). l ++ flat_map decl_slots ds) (decl-rows d) ∙ ap (λ (l : List Slot). rows (decl_entries d) ++ l) (decls-rows ds) ∙ sym (map-append entry_slot (decl_entries d) (flat_map decl_entries ds))

locations-rows : (i : ℕ) (ls : List LocationTree) → flat_map location_slots ls ≡ rows (filter_map location_entry (enumerate_from i ls))
locations-rows i [] = refl
locations-rows i (l ∷ ls) = go l.name (locations-rows (i + 1) ls)
  where
    go : (o : Option Ident) → flat_map location_slots ls ≡ rows (filter_map location_entry (enumerate_from (i + 1) ls))
        → elim o as (λ x. List Slot) [ None ↦ [] | Some n ↦ None ∷ [] ] ++ flat_map location_slots ls ≡ rows (cons_option (option_map (λ n. (n, location i)) o) (filter_map location_entry (enumerate_from (i + 1) ls)))
    go None h = h
    go (Some n) h = ap (λ (ns : List Slot). None ∷ ns) h

item-rows : (i : SourceItem) → item_slots i ≡ rows (item_entries i)
item-rows (decl_item d) = decl-rows d
item-rows (component_item n b) = refl
item-rows (definition_item n ps b) = refl
item-rows (instance_item i) = refl

items-rows : (is : Source) → slots_in is ≡ rows (flat_map item_entries (list_of_items is))
items-rows no_source = refl
items-rows (source i is) =
    ap (λ (l : List Slot). l ++ slots_in is) (item-rows i) ∙ ap (λ (l : List Slot). rows (item_entries i) ++ l) (items-rows is)
    ∙ sym (map-append entry_slot (item_entries i) (flat_map item_entries (list_of_items is)))

under-rows : (b : SourceBody) → slots_under b ≡ rows (body_entries b)
under-rows (group_body is) = items-rows is
under-rows (automaton_body a) =
    ap (λ (l : List Slot). l ++ flat_map location_slots a.locs) (decls-rows a.decls) ∙ ap (λ (l : List Slot). rows (flat_map decl_entries a.decls) ++ l) (locations-rows 0 a.locs)
    ∙ sym (map-append entry_slot (flat_map decl_entries a.decls) (filter_map location_entry (enumerate_from 0 a.locs)))

params-rows : (i : ℕ) (ps : List ParamTree) → nones (length ps) ≡ rows (map (λ (x : ℕ × ParamTree). (param_name x.1, parameter x.0 x.1)) (enumerate_from i ps))
params-rows i [] = refl
params-rows i (p ∷ ps) = ap (λ (ns : List Slot). None ∷ ns) (params-rows (i + 1) ps)

written-rows : (c : Component) (w : WrittenBody) → IsWritten c w → written_slots w ≡ rows (scope_of c)
written-rows c w h =
    ap (λ (l : List Slot). l ++ slots_under w.body) (params-rows 0 w.params) ∙ ap (λ (l : List Slot). rows (param_entries w.params) ++ l) (under-rows w.body)
    ∙ sym (map-append entry_slot (param_entries w.params) (body_entries w.body))
    ∙ ap (λ ps. rows (param_entries ps ++ body_entries w.body)) (sym h.0) ∙ ap (λ b. rows (param_entries (params_of c) ++ body_entries b)) (sym h.1)

abbrev pub all_rows : Source → List (List Slot)
all_rows t = map written_slots (written_bodies t)

row-of : (t : Source) (k : ℕ) (c : Component) → IsBody t k c → slice_get (all_rows t) k ≡ Some (rows (scope_of c))
row-of t k c own =
    let w = beside-at IsWritten (bodies t) (written_bodies t) k c (bodies-written t) own in
    slice_get-map written_slots (written_bodies t) k ∙ ap (option_map written_slots) w.1 ∙ ap Some (written-rows c w.0 w.2)

-- what stands in the slot of an entry
pub slot-is : (t : Source) (k j : ℕ) (c : Component) (n : Ident) (e : Entry) → IsBody t k c → slice_get (scope_of c) j ≡ Some (n, e) → decl_at (all_rows t) k j ≡ entry_slot (n, e)
slot-is t k j c n e own at =
    ap (λ o. decl_in o j) (row-of t k c own)
    ∙ ap (λ (o : Option Slot). elim o as (λ x. Slot) [ None ↦ None | Some s ↦ s ]) (slice_get-map entry_slot (scope_of c) j ∙ ap (option_map entry_slot) at)
