-- The kinds for which the names of types stand, and the kinds of what is declared.
use Rattle.std.specs.Prelude.{ℕ, ◌+◌, true, List, [], ◌∷◌, map, Option, Some, None, slice_get, slice_set, unwrap_or}
use Rattle.std.specs.Option.{option_to_list}
use Rattle.cif_ast.specs.declared.names.Name.{Name}
use Rattle.cif_source.specs.Source.{TypeTree, bool_type, int_type, range_type, named_type, type_tree, ChannelTree, no_type, void_type, value_type, channel_tree}
use Rattle.cif_scope.specs.declared.looked.Looked.{Looked}
use Rattle.cif_scope.specs.declared.looked.Looked.TheVariants.{At, Missing, Blocked}
use Rattle.cif_scope.specs.declared.scopes.Scopes.{Scopes}
use Rattle.cif_scope.specs.Looks.{look}
use Rattle.cif_types_kinds.specs.declared.kind.Kind.{Kind}
use Rattle.cif_types_kinds.specs.declared.kind.Kind.TheVariants as kind
use Rattle.cif_types_kinds.specs.declared.kind.Channel.{Channel}
use Rattle.cif_types_kinds.specs.declared.kind.Channel.TheVariants as channel
use Rattle.cif_types_table.specs.declared.layout.Slot.{Slot}
use Rattle.cif_types_table.specs.declared.layout.Slot.TheVariants as slot
use Rattle.cif_types_table.specs.declared.layout.NamedType.{NamedType}
use Rattle.cif_types_table.specs.declared.layout.NamedType.TheVariants as named

-- ---- names of types

-- the number of the type, where a slot has the name of one
abbrev pub type_in : Option Slot → Option ℕ
type_in None = None
type_in (Some (slot.Type m)) = Some m
type_in (Some (slot.Literal m)) = None
type_in (Some (slot.Value ty)) = None
type_in (Some slot.Location) = None
type_in (Some (slot.Event h)) = None
type_in (Some slot.Other) = None

abbrev pub type_among : Option (List Slot) → ℕ → Option ℕ
type_among None j = None
type_among (Some row) j = type_in (slice_get row j)

abbrev pub type_at : List (List Slot) → Looked → Option ℕ
type_at slots (At k j) = type_among (slice_get slots k) j
type_at slots Missing = None
type_at slots Blocked = None

-- the number of the type that a name in body k denotes
abbrev pub type_named : Scopes → List (List Slot) → ℕ → Name → Option ℕ
type_named s slots k nm = type_at slots (look s.table s.definitions true k nm)

-- the type that a type in body k names
abbrev pub type_in_type : Scopes → List (List Slot) → ℕ → TypeTree → Option ℕ
type_in_type s slots k bool_type = None
type_in_type s slots k int_type = None
type_in_type s slots k (range_type lower upper) = None
type_in_type s slots k (named_type nm) = type_named s slots k nm

-- a synonym needs the type that it names
abbrev pub type_needs : Scopes → List (List Slot) → NamedType → List ℕ
type_needs s slots (named.Synonym k ty) = option_to_list (type_in_type s slots k (type_tree ty.now))
type_needs s slots (named.Enumeration ls) = []

abbrev pub type_graph : Scopes → List (List Slot) → List NamedType → List (List ℕ)
type_graph s slots types = map (type_needs s slots) types

-- ---- kinds of types

abbrev pub kind_among : List Kind → Option ℕ → Kind
kind_among kinds None = kind.None
kind_among kinds (Some m) = unwrap_or (slice_get kinds m) kind.None

-- the kind of a type in body k, where named types have these kinds
abbrev pub kind_of_type : Scopes → List (List Slot) → List Kind → ℕ → TypeTree → Kind
kind_of_type s slots kinds k bool_type = kind.Bool
kind_of_type s slots kinds k int_type = kind.Int
kind_of_type s slots kinds k (range_type lower upper) = kind.Int
kind_of_type s slots kinds k (named_type nm) = kind_among kinds (type_named s slots k nm)

-- a synonym's kind is that of its type
abbrev pub settle_as : Scopes → List (List Slot) → Option NamedType → List Kind → ℕ → List Kind
settle_as s slots None kinds m = kinds
settle_as s slots (Some (named.Synonym k ty)) kinds m = slice_set kinds m (kind_of_type s slots kinds k (type_tree ty.now))
settle_as s slots (Some (named.Enumeration ls)) kinds m = kinds

abbrev pub settle_one : Scopes → List (List Slot) → List NamedType → List Kind → ℕ → List Kind
settle_one s slots types kinds m = settle_as s slots (slice_get types m) kinds m

-- one named type after the other
abbrev pub settled : Scopes → List (List Slot) → List NamedType → List Kind → List ℕ → List Kind
settled s slots types kinds [] = kinds
settled s slots types kinds (m ∷ order) = settled s slots types (settle_one s slots types kinds m) order

-- ---- kinds of what is declared

abbrev pub kind_in_slot : Scopes → List (List Slot) → List Kind → ℕ → Slot → Kind
kind_in_slot s slots kinds k (slot.Type m) = kind.None
kind_in_slot s slots kinds k (slot.Literal m) = kind_among kinds (Some m)
kind_in_slot s slots kinds k (slot.Value ty) = kind_of_type s slots kinds k (type_tree ty.now)
kind_in_slot s slots kinds k slot.Location = kind.Bool
kind_in_slot s slots kinds k (slot.Event h) = kind.None
kind_in_slot s slots kinds k slot.Other = kind.None

abbrev pub body_kinds : Scopes → List (List Slot) → List Kind → ℕ → List Slot → List Kind
body_kinds s slots kinds k row = map (kind_in_slot s slots kinds k) row

-- those of the bodies from body k on
abbrev pub all_kinds : Scopes → List (List Slot) → List Kind → ℕ → List (List Slot) → List (List Kind)
all_kinds s slots kinds k [] = []
all_kinds s slots kinds k (row ∷ rows) = body_kinds s slots kinds k row ∷ all_kinds s slots kinds (k + 1) rows

-- ---- what is sent

abbrev pub channel_of : Scopes → List (List Slot) → List Kind → ℕ → ChannelTree → Channel
channel_of s slots kinds k no_type = channel.No
channel_of s slots kinds k void_type = channel.Void
channel_of s slots kinds k (value_type ty) = channel.Of (kind_of_type s slots kinds k ty)

abbrev pub channel_in_slot : Scopes → List (List Slot) → List Kind → ℕ → Slot → Channel
channel_in_slot s slots kinds k (slot.Type m) = channel.No
channel_in_slot s slots kinds k (slot.Literal m) = channel.No
channel_in_slot s slots kinds k (slot.Value ty) = channel.No
channel_in_slot s slots kinds k slot.Location = channel.No
channel_in_slot s slots kinds k (slot.Event h) = channel_of s slots kinds k (channel_tree h.now)
channel_in_slot s slots kinds k slot.Other = channel.No

abbrev pub body_channels : Scopes → List (List Slot) → List Kind → ℕ → List Slot → List Channel
body_channels s slots kinds k row = map (channel_in_slot s slots kinds k) row

-- along what the bodies from body k on declare
abbrev pub all_channels : Scopes → List (List Slot) → List Kind → ℕ → List (List Slot) → List (List Channel)
all_channels s slots kinds k [] = []
all_channels s slots kinds k (row ∷ rows) = body_channels s slots kinds k row ∷ all_channels s slots kinds (k + 1) rows
