-- What the kinds of a table stand for, and that they are the kinds of what a source declares.
use Rattle.std.specs.Prelude.{◌≡◌, ℕ, Bool, true, false, ◌&&◌, nat_eq, nat_lt, List, Option, Some, None, slice_get, unwrap_or}
use Rattle.cif_ast.specs.declared.names.Ident.{Ident}
use Rattle.cif_system.specs.Words.{AreDistinct}
use Rattle.cif_source.specs.Source.{Text, Source}
use Rattle.cif_source.specs.Components.{Component, Entry, scope_of}
use Rattle.cif_source.specs.Lookup.{reached}
use Rattle.cif_source.specs.Objects.{bodies}
use Rattle.cif_source.specs.Kinds as rules
use Rattle.cif_source.specs.Demands as demands
use Rattle.cif_scope.specs.Tables.{Beside}
use Rattle.cif_scope.specs.declared.scopes.Found.{Found}
use Rattle.cif_types_kinds.specs.declared.kind.Kind.{Kind}
use Rattle.cif_types_kinds.specs.declared.kind.Kind.TheVariants as kind
use Rattle.cif_types_kinds.specs.declared.kind.Channel.{Channel}
use Rattle.cif_types_kinds.specs.declared.kind.Channel.TheVariants as channel
use Rattle.cif_types_kinds.specs.declared.table.KindTable.{KindTable}

abbrev pub kind_in : Option (List Text) → rules.Kind
kind_in None = rules.no_kind
kind_in (Some ls) = rules.enum_kind ls

-- what a kind stands for, among these lists of literals
abbrev pub kind_for : List (List Text) → Kind → rules.Kind
kind_for lists kind.Bool = rules.bool_kind
kind_for lists kind.Int = rules.int_kind
kind_for lists (kind.Enum n) = kind_in (slice_get lists n)
kind_for lists kind.None = rules.no_kind

abbrev pub channel_for : List (List Text) → Channel → demands.ChannelKind
channel_for lists channel.No = demands.not_channel
channel_for lists channel.Void = demands.void_channel
channel_for lists (channel.Of k) = demands.channel_for (kind_for lists k)

-- two kinds are one, where there are n lists of literals
abbrev pub is_same_among : ℕ → Kind → Kind → Bool
is_same_among n kind.Bool k = elim k [ kind.Bool ↦ true | kind.Int ↦ false | kind.Enum j ↦ false | kind.None ↦ false ]
is_same_among n kind.Int k = elim k [ kind.Bool ↦ false | kind.Int ↦ true | kind.Enum j ↦ false | kind.None ↦ false ]
is_same_among n (kind.Enum i) k = elim k [ kind.Bool ↦ false | kind.Int ↦ false | kind.Enum j ↦ nat_eq i j && nat_lt i n | kind.None ↦ false ]
is_same_among n kind.None k = false

-- it stands for the kind of what an entry of the scope of c declares
abbrev pub IsKindOf : List (List Text) → Component → Ident × Entry → Kind → Type 0
IsKindOf lists c e k = kind_for lists k ≡ rules.kind_at (reached (c, e.1))

-- the kinds of what each body declares
abbrev pub AreOwnKinds : List (List Text) → Component → List Kind → Type 0
AreOwnKinds lists c ks = Beside (IsKindOf lists c) (scope_of c) ks

-- it stands for what is sent along an entry of the scope of c
abbrev pub IsChannelOf : List (List Text) → Component → Ident × Entry → Channel → Type 0
IsChannelOf lists c e h = channel_for lists h ≡ demands.channel_at (reached (c, e.1))

abbrev pub AreOwnChannels : List (List Text) → Component → List Channel → Type 0
AreOwnChannels lists c hs = Beside (IsChannelOf lists c) (scope_of c) hs

pub record AreKindsIn (t : Source) (tb : KindTable) : Type 0 where
  pub kinds : Beside (AreOwnKinds tb.lists) (bodies t) tb.kinds
  pub channels : Beside (AreOwnChannels tb.lists) (bodies t) tb.channels
  pub distinct : AreDistinct tb.lists

-- ---- slots

abbrev pub slot_kind : Option (List Kind) → ℕ → Kind
slot_kind None s = kind.None
slot_kind (Some ks) s = unwrap_or (slice_get ks s) kind.None

-- the kind in a slot of body k
abbrev pub kind_at_slot : KindTable → ℕ → ℕ → Kind
kind_at_slot tb k s = slot_kind (slice_get tb.kinds k) s

abbrev pub slot_channel : Option (List Channel) → ℕ → Channel
slot_channel None s = channel.No
slot_channel (Some hs) s = unwrap_or (slice_get hs s) channel.No

abbrev pub channel_at_slot : KindTable → ℕ → ℕ → Channel
channel_at_slot tb k s = slot_channel (slice_get tb.channels k) s

abbrev pub kind_found : KindTable → Option Found → Kind
kind_found tb None = kind.None
kind_found tb (Some f) = kind_at_slot tb f.body f.slot

abbrev pub channel_found : KindTable → Option Found → Channel
channel_found tb None = channel.No
channel_found tb (Some f) = channel_at_slot tb f.body f.slot

-- the kind of what body k declares in the slot that was found
abbrev pub kind_owned : KindTable → ℕ → Option ℕ → Kind
kind_owned tb k None = kind.None
kind_owned tb k (Some s) = kind_at_slot tb k s
