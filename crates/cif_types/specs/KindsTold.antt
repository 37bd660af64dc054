-- What is told of kinds: an enumeration by the place of its literals among all lists of literals of a source.
use Rattle.std.specs.Prelude.{◌≡◌, ℕ, Bool, true, false, nat_lt, List, Some, slice_get}
use Rattle.cif_source.specs.Source.{Text}
use Rattle.cif_source.specs.Kinds as rules
use Rattle.cif_types_kinds.specs.declared.kind.Kind as table
use Rattle.cif_types_kinds.specs.declared.kind.Kind.TheVariants as entered
use Rattle.cif_types.specs.declared.kinds.Kind.{Kind}
use Rattle.cif_types.specs.declared.kinds.Kind.TheVariants.{Bool as told_bool, Int, Enum, NoValue}
use Rattle.cif_types.specs.declared.kinds.Kinds.{Kinds}

-- the lists of literals of a source, each once
abbrev pub lists_of : Kinds → List (List Text)
lists_of ks = ks.table.lists

-- it is told of a kind, among these lists of literals
abbrev pub IsKind : List (List Text) → rules.Kind → Kind → Type 0
IsKind lists rules.bool_kind k = k ≡ told_bool
IsKind lists rules.int_kind k = k ≡ Int
IsKind lists (rules.enum_kind ls) k = (id : ℕ) × (k ≡ Enum id) × (slice_get lists id ≡ Some ls)
IsKind lists rules.no_kind k = k ≡ NoValue

-- what is told of the kind p is told of it alone, and nothing else is
abbrev pub IsOneWith : List (List Text) → rules.Kind → Kind → Type 0
IsOneWith lists p r = (q : rules.Kind) (k : Kind) → IsKind lists q k → (k ≡ r → q ≡ p) × (q ≡ p → k ≡ r)

abbrev pub numbered : Bool → ℕ → Kind
numbered true i = Enum i
numbered false i = NoValue

-- what is told of a kind that a table has, where there are n lists of literals
abbrev pub kind_told : ℕ → table.Kind → Kind
kind_told n entered.Bool = told_bool
kind_told n entered.Int = Int
kind_told n (entered.Enum i) = numbered (nat_lt i n) i
kind_told n entered.None = NoValue
