-- The declarations at the names of bodies: for each name of a scope the declaration that declares it, if one does. Literals,
-- locations, components, definitions, instances and parameters have none.
use Rattle.std.specs.Prelude.{ℕ, List, [], ◌∷◌, ◌++◌, map, flat_map, length, replicate, slice_get, Option, None, Some, option_map}
use Rattle.std.specs.Borrow.{Bor}
use Rattle.cif_ast.specs.declared.declarations.Decl.{Decl}
use Rattle.cif_source.specs.Source.{DeclTree, type_decl, enum_decl, event_decl, const_decl, alg_decl, input_decl, disc_decl, equation_decl, invariant_decl, marked_decl, decl_tree, LocationTree, AutomatonTree, SourceItem, decl_item, component_item, definition_item, instance_item, SourceBody, group_body, automaton_body, Source, no_source, source}
use Rattle.cif_scope.specs.Written.{WrittenBody}

abbrev pub Slot : Type 0
Slot = Option DeclTree

abbrev pub nones : ℕ → List Slot
nones n = replicate n None

abbrev pub decl_slots : DeclTree → List Slot
decl_slots (type_decl n ty) = Some (type_decl n ty) ∷ []
decl_slots (enum_decl n ls) = Some (enum_decl n ls) ∷ nones (length ls)
decl_slots (event_decl c h n) = Some (event_decl c h n) ∷ []
decl_slots (const_decl ty n e) = Some (const_decl ty n e) ∷ []
decl_slots (alg_decl ty n e) = Some (alg_decl ty n e) ∷ []
decl_slots (input_decl ty n) = Some (input_decl ty n) ∷ []
decl_slots (disc_decl ty n e) = Some (disc_decl ty n e) ∷ []
decl_slots (equation_decl q) = []
decl_slots (invariant_decl i) = []
decl_slots (marked_decl p) = []

abbrev pub location_slots : LocationTree → List Slot
location_slots l = elim l.name [ None ↦ [] | Some n ↦ None ∷ [] ]

abbrev pub automaton_slots : AutomatonTree → List Slot
automaton_slots a = flat_map decl_slots a.decls ++ flat_map location_slots a.locs

abbrev pub item_slots : SourceItem → List Slot
item_slots (decl_item d) = decl_slots d
item_slots (component_item n b) = None ∷ []
item_slots (definition_item n ps b) = None ∷ []
item_slots (instance_item i) = None ∷ []

abbrev pub slots_in : Source → List Slot
slots_in no_source = []
slots_in (source i is) = item_slots i ++ slots_in is

abbrev pub slots_under : SourceBody → List Slot
slots_under (group_body is) = slots_in is
slots_under (automaton_body a) = automaton_slots a

-- of the names of a body
abbrev pub written_slots : WrittenBody → List Slot
written_slots w = nones (length w.params) ++ slots_under w.body

-- ---- as references into the tree

abbrev pub slot_of : Option (Bor Decl) → Slot
slot_of o = option_map (λ (d : Bor Decl). decl_tree d.now) o

abbrev pub row_of : List (Option (Bor Decl)) → List Slot
row_of row = map slot_of row

-- the declaration in a slot of body k
abbrev pub decl_in : Option (List Slot) → ℕ → Slot
decl_in None j = None
decl_in (Some row) j = elim (slice_get row j) [ None ↦ None | Some o ↦ o ]

abbrev pub decl_at : List (List Slot) → (k j : ℕ) → Slot
decl_at rows k j = decl_in (slice_get rows k) j
