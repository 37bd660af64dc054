-- Helper of the code: lists of literals, numbered in the order in which they first stand.
use Rattle.std.specs.Prelude.{ℕ, suc, List, [], ◌∷◌, ◌++◌, map, length, Option, Some, None, option_map, unwrap_or, if◌then◌else◌}
use Rattle.cif_ast.specs.declared.names.Ident.{Ident}
use Rattle.cif_source.specs.Source.{Text}
use Rattle.cif_source.specs.Components.{same_path}
use Rattle.cif_types_kinds.specs.declared.kind.Kind.{Kind}
use Rattle.cif_types_kinds.specs.declared.kind.Kind.TheVariants as kind
use Rattle.cif_types_table.specs.declared.layout.NamedType.{NamedType}
use Rattle.cif_types_table.specs.declared.layout.NamedType.TheVariants as named

abbrev pub text_of : Ident → Text
text_of n = n.text

abbrev pub texts_of : List Ident → List Text
texts_of ls = map text_of ls

-- the place of a list among lists
abbrev pub place_in : List (List Text) → List Text → Option ℕ
place_in [] xs = None
place_in (ys ∷ lists) xs = if same_path ys xs then Some 0 else option_map suc (place_in lists xs)

-- its number, where it gets one if it has none
abbrev pub list_number : List (List Text) → List Text → ℕ
list_number lists xs = unwrap_or (place_in lists xs) (length lists)

abbrev pub with_list : List (List Text) → List Text → List (List Text)
with_list lists xs = elim (place_in lists xs) [ None ↦ lists ++ xs ∷ [] | Some k ↦ lists ]

-- the lists, with those of these types
abbrev pub lists_after : List (List Text) → List NamedType → List (List Text)
lists_after lists [] = lists
lists_after lists (named.Synonym k ty ∷ types) = lists_after lists types
lists_after lists (named.Enumeration ls ∷ types) = lists_after (with_list lists (texts_of ls.now)) types

-- the kinds of the enumerations among these types, after these lists
abbrev pub listed_kinds : List (List Text) → List NamedType → List Kind
listed_kinds lists [] = []
listed_kinds lists (named.Synonym k ty ∷ types) = kind.None ∷ listed_kinds lists types
listed_kinds lists (named.Enumeration ls ∷ types) = kind.Enum (list_number lists (texts_of ls.now)) ∷ listed_kinds (with_list lists (texts_of ls.now)) types

-- ---- keys

-- each byte has a 1 before it, and a 0 stands at the end
abbrev pub marked : Text → Text
marked [] = 0 ∷ []
marked (b ∷ bs) = 1 ∷ b ∷ marked bs

-- of equal lists alone the keys are equal
abbrev pub key_of : List Text → Text
key_of [] = []
key_of (x ∷ xs) = marked x ++ key_of xs
