-- What stands in a body, by the numbers of bodies: the components that are written in it, and its instances, which have the bodies
-- of their definitions.
use Rattle.std.specs.Prelude.{ℕ, zero, suc, List, [], ◌∷◌, ◌++◌, length, Option, None, Some, option_map, slice_get, unwrap_or}
use Rattle.std.specs.Option.{option_to_list}
use Rattle.cif_scope.specs.declared.scope.What.{What}
use Rattle.cif_scope.specs.declared.scope.What.TheVariants as what
use Rattle.cif_scope.specs.declared.scopes.Scopes.{Scopes}
use Rattle.cif_scope.specs.Looks.{what_at, names_at, definition_at}
use Rattle.cif_inst_components.specs.declared.kids.Kid.{Kid}

-- the body of what stands under a name of body k
abbrev pub kid_body : Scopes → ℕ → Option What → Option ℕ
kid_body s k None = None
kid_body s k (Some (what.Component j)) = Some j
kid_body s k (Some (what.Instance r)) = definition_at s.definitions k r
kid_body s k (Some (what.Declared d)) = None
kid_body s k (Some (what.Literal j)) = None
kid_body s k (Some (what.Location j)) = None
kid_body s k (Some (what.Definition j n)) = None
kid_body s k (Some (what.Parameter p)) = None

abbrev pub kid_at : Scopes → (k slot : ℕ) → List Kid
kid_at s k slot = option_to_list (option_map (λ j. record { slot = slot; body = j }) (kid_body s k (what_at s.table k slot)))

-- what stands in the first n slots of body k
abbrev pub kids_to : Scopes → (k n : ℕ) → List Kid
kids_to s k zero = []
kids_to s k (suc n) = kids_to s k n ++ kid_at s k n

abbrev pub kids_of : Scopes → ℕ → List Kid
kids_of s k = kids_to s k (length (names_at s.table k))

-- of the first n bodies
abbrev pub all_to : Scopes → ℕ → List (List Kid)
all_to s zero = []
all_to s (suc n) = all_to s n ++ kids_of s n ∷ []

abbrev pub all_kids : Scopes → List (List Kid)
all_kids s = all_to s (length s.table.scopes)

abbrev pub kids_in : List (List Kid) → ℕ → List Kid
kids_in all k = unwrap_or (slice_get all k) []
