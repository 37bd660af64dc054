-- Whether the numbers of bodies and slots are below 2^32.
use Rattle.std.specs.Prelude.{Bool, ◌&&◌, ◌^◌, nat_lt, List, length}
use Rattle.std.specs.List.{list_all}
use Rattle.cif_source.specs.Source.{Text}
use Rattle.cif_scope.specs.declared.scope.Scope.{Scope}

abbrev pub is_few : {A : Type 0} → List A → Bool
is_few xs = nat_lt (length xs) (2 ^ 32)

abbrev pub has_few : Scope → Bool
has_few s = is_few s.names

abbrev pub are_few : List Scope → List (List Text) → Bool
are_few scopes names = is_few scopes && (list_all has_few scopes && list_all is_few names)
