-- Helper of the code: what each body declares, as far as kinds go: for each name of its scope a slot, and the types that have names,
-- numbered through all bodies.
use Rattle.std.specs.Prelude.{ℕ, ◌+◌, List, [], ◌∷◌, ◌++◌, map, flat_map, length, replicate, Some, None}
use Rattle.cif_ast.specs.declared.names.Ident.{Ident}
use Rattle.cif_source.specs.Source.{TypeTree, type_tree, ChannelTree, channel_tree, DeclTree, type_decl, enum_decl, event_decl, const_decl, alg_decl, input_decl, disc_decl, equation_decl, invariant_decl, marked_decl, ParamTree, event_param, alg_param, location_param, LocationTree, SourceItem, decl_item, component_item, definition_item, instance_item, SourceBody, group_body, automaton_body, Source, no_source, source}
use Rattle.cif_scope.specs.Written.{WrittenBody}
use Rattle.cif_types_table.specs.declared.layout.Slot.{Slot}
use Rattle.cif_types_table.specs.declared.layout.Slot.TheVariants as slot
use Rattle.cif_types_table.specs.declared.layout.NamedType.{NamedType}
use Rattle.cif_types_table.specs.declared.layout.NamedType.TheVariants as named

-- The name of a type and a literal have the number of that type.
pub data SlotTree : Type 0 where
  type_slot literal_slot : ℕ → SlotTree
  value_slot : TypeTree → SlotTree
  event_slot : ChannelTree → SlotTree
  location_slot other_slot : SlotTree

-- another name for a type that is written in a body, or an enumeration
pub data NamedTree : Type 0 where
  synonym : ℕ → TypeTree → NamedTree
  enumeration : List Ident → NamedTree

-- ---- what the code holds

abbrev pub slot_tree : Slot → SlotTree
slot_tree (slot.Type m) = type_slot m
slot_tree (slot.Literal m) = literal_slot m
slot_tree (slot.Value ty) = value_slot (type_tree ty.now)
slot_tree slot.Location = location_slot
slot_tree (slot.Event h) = event_slot (channel_tree h.now)
slot_tree slot.Other = other_slot

abbrev pub named_tree : NamedType → NamedTree
named_tree (named.Synonym k ty) = synonym k (type_tree ty.now)
named_tree (named.Enumeration ls) = enumeration ls.now

-- ---- the types with names

abbrev pub decl_types : ℕ → DeclTree → List NamedTree
decl_types k (type_decl n ty) = synonym k ty ∷ []
decl_types k (enum_decl n ls) = enumeration ls ∷ []
decl_types k (event_decl c h n) = []
decl_types k (const_decl ty n e) = []
decl_types k (alg_decl ty n e) = []
decl_types k (input_decl ty n) = []
decl_types k (disc_decl ty n e) = []
decl_types k (equation_decl q) = []
decl_types k (invariant_decl i) = []
decl_types k (marked_decl p) = []

abbrev pub decls_types : ℕ → List DeclTree → List NamedTree
decls_types k [] = []
decls_types k (d ∷ ds) = decl_types k d ++ decls_types k ds

abbrev pub item_types : ℕ → SourceItem → List NamedTree
item_types k (decl_item d) = decl_types k d
item_types k (component_item n b) = []
item_types k (definition_item n ps b) = []
item_types k (instance_item i) = []

abbrev pub items_types : ℕ → Source → List NamedTree
items_types k no_source = []
items_types k (source i is) = item_types k i ++ items_types k is

abbrev pub body_types : ℕ → SourceBody → List NamedTree
body_types k (group_body is) = items_types k is
body_types k (automaton_body a) = decls_types k a.decls

-- those of the bodies from body k on
abbrev pub all_types : ℕ → List WrittenBody → List NamedTree
all_types k [] = []
all_types k (w ∷ ws) = body_types k w.body ++ all_types (k + 1) ws

-- ---- how many they are

abbrev pub decl_count : DeclTree → ℕ
decl_count (type_decl n ty) = 1
decl_count (enum_decl n ls) = 1
decl_count (event_decl c h n) = 0
decl_count (const_decl ty n e) = 0
decl_count (alg_decl ty n e) = 0
decl_count (input_decl ty n) = 0
decl_count (disc_decl ty n e) = 0
decl_count (equation_decl q) = 0
decl_count (invariant_decl i) = 0
decl_count (marked_decl p) = 0

abbrev pub decls_count : List DeclTree → ℕ
decls_count [] = 0
decls_count (d ∷ ds) = decl_count d + decls_count ds

abbrev pub item_count : SourceItem → ℕ
item_count (decl_item d) = decl_count d
item_count (component_item n b) = 0
item_count (definition_item n ps b) = 0
item_count (instance_item i) = 0

abbrev pub items_count : Source → ℕ
items_count no_source = 0
items_count (source i is) = item_count i + items_count is

abbrev pub body_count : SourceBody → ℕ
body_count (group_body is) = items_count is
body_count (automaton_body a) = decls_count a.decls

-- ---- slots, where m types with names stand before

abbrev pub decl_slots : ℕ → DeclTree → List SlotTree
decl_slots m (type_decl n ty) = type_slot m ∷ []
decl_slots m (enum_decl n ls) = type_slot m ∷ replicate (length ls) (literal_slot m)
decl_slots m (event_decl c h n) = event_slot h ∷ []
decl_slots m (const_decl ty n e) = value_slot ty ∷ []
decl_slots m (alg_decl ty n e) = value_slot ty ∷ []
decl_slots m (input_decl ty n) = value_slot ty ∷ []
decl_slots m (disc_decl ty n e) = value_slot ty ∷ []
decl_slots m (equation_decl q) = []
decl_slots m (invariant_decl i) = []
decl_slots m (marked_decl p) = []

abbrev pub decls_slots : ℕ → List DeclTree → List SlotTree
decls_slots m [] = []
decls_slots m (d ∷ ds) = decl_slots m d ++ decls_slots (m + decl_count d) ds

abbrev pub item_slots : ℕ → SourceItem → List SlotTree
item_slots m (decl_item d) = decl_slots m d
item_slots m (component_item n b) = other_slot ∷ []
item_slots m (definition_item n ps b) = other_slot ∷ []
item_slots m (instance_item i) = other_slot ∷ []

abbrev pub items_slots : ℕ → Source → List SlotTree
items_slots m no_source = []
items_slots m (source i is) = item_slots m i ++ items_slots (m + item_count i) is

abbrev pub location_slots : LocationTree → List SlotTree
location_slots l = elim l.name [ None ↦ [] | Some n ↦ location_slot ∷ [] ]

abbrev pub body_slots : ℕ → SourceBody → List SlotTree
body_slots m (group_body is) = items_slots m is
body_slots m (automaton_body a) = decls_slots m a.decls ++ flat_map location_slots a.locs

abbrev pub param_slot : ParamTree → SlotTree
param_slot (event_param c h n) = event_slot h
param_slot (alg_param ty n) = value_slot ty
param_slot (location_param n) = location_slot

abbrev pub written_slots : ℕ → WrittenBody → List SlotTree
written_slots m w = map param_slot w.params ++ body_slots m w.body

abbrev pub all_slots : ℕ → List WrittenBody → List (List SlotTree)
all_slots m [] = []
all_slots m (w ∷ ws) = written_slots m w ∷ all_slots (m + body_count w.body) ws
