-- The types of a flat net that the types of a source become, with the names of an enumeration's literals (CIF 3 language
-- reference, "Types").
use Rattle.std.specs.Prelude.{ℕ, zero, suc, pos, List, [], map, length}
use Rattle.cif_base.specs.declared.types.Ty.{Ty}
use Rattle.cif_base.specs.declared.types.Ty.TheVariants as ty
use Rattle.cif_ast.specs.declared.names.Ident.{Ident}
use Rattle.cif_net_model.specs.Net.{NetChan, no_net_chan, void_net_chan, net_chan_of}
use Rattle.cif_source.specs.Source.{Text, TypeTree, bool_type, int_type, range_type, named_type, ChannelTree, no_type, void_type, value_type, type_decl, enum_decl}
use Rattle.cif_source.specs.Components.{Component, specification_of, declared}
use Rattle.cif_source.specs.Lookup.{Reached, reached, found}
use Rattle.cif_source.specs.Objects.{declarations}
use Rattle.cif_source.specs.Value.{constant}
use Rattle.cif_source.specs.Types.{signed_range}

-- a type, and the names of its literals where it is an enumeration
pub record NetType : Type 0 where
  pub type_of : Ty
  pub literals : List Text

abbrev pub plain_type : Ty → NetType
plain_type t = record { type_of = t; literals = [] }

abbrev pub enum_type : List Ident → NetType
enum_type ls = record { type_of = ty.Enum (length ls); literals = map (λ (n : Ident). n.text) ls }

abbrev pub type_at : (Component → TypeTree → NetType) → Reached → NetType
type_at more (reached (c, declared (type_decl n t))) = more c t
type_at more (reached (c, declared (enum_decl n ls))) = enum_type ls
type_at more _ = plain_type (ty.Int (pos 0) (pos 0))

abbrev pub type_by : (Component → TypeTree → NetType) → Component → TypeTree → NetType
type_by more c bool_type = plain_type ty.Bool
type_by more c int_type = plain_type (ty.Int (signed_range 32).lo (signed_range 32).hi)
type_by more c (range_type lower upper) = plain_type (ty.Int (constant c lower) (constant c upper))
type_by more c (named_type nm) = type_at more (found c nm)

-- through at most n names of types
abbrev pub type_within : ℕ → Component → TypeTree → NetType
type_within zero = type_by (λ c t. plain_type (ty.Int (pos 0) (pos 0)))
type_within (suc n) = type_by (type_within n)

-- no type names more types in one another than are declared, where none reaches itself
abbrev pub net_type : Component → TypeTree → NetType
net_type c t = type_within (length (declarations (specification_of c))) c t

abbrev pub net_channel : Component → ChannelTree → NetChan
net_channel c no_type = no_net_chan
net_channel c void_type = void_net_chan
net_channel c (value_type t) = net_chan_of (net_type c t).type_of
