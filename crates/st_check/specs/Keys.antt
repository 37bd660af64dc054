-- Helper of the code: names as keys, where capital letters are small ones, so that two names are one where their keys
-- are equal.
use Rattle.std.specs.Prelude.{ℕ, Bool, List, Option, map, nat_eq, position}
use Rattle.std.specs.List.{list_any}
use Rattle.std.specs.Cmp.Lexicographic.{pointwise}
use Rattle.std.specs.Str.{str_to_ascii_lowercase}
use Rattle.grammar.specs.Pieces.{Text}
use Rattle.st_ast.specs.declared.tree.StVar.{StVar}

abbrev pub key : Text → Text
key = str_to_ascii_lowercase

abbrev pub keys_of : List StVar → List Text
keys_of vars = map (λ (v : StVar). key v.name) vars

abbrev pub is_among : List Text → Text → Bool
is_among keys k = list_any (λ j. pointwise nat_eq k j) keys

-- the place of a key, if it is there
abbrev pub found_at : List Text → Text → Option ℕ
found_at keys k = position (λ j. pointwise nat_eq k j) keys
