-- The constants of the bodies that are marked, numbered through them, by what the names of scopes are.
use Rattle.std.specs.Prelude.{ℕ, zero, suc, ◌+◌, Bool, true, false, List, [], ◌∷◌, ◌++◌, length, Option, Some, None, slice_get}
use Rattle.cif_scope.specs.declared.scope.Sort.{Sort}
use Rattle.cif_scope.specs.declared.scope.Sort.TheVariants as sort
use Rattle.cif_scope.specs.declared.scope.What.{What}
use Rattle.cif_scope.specs.declared.scope.What.TheVariants as what
use Rattle.cif_scope.specs.declared.looked.Looked.{Looked}
use Rattle.cif_scope.specs.declared.looked.Looked.TheVariants.{At, Missing, Blocked}
use Rattle.cif_scope.specs.declared.scopes.Scopes.{Scopes}
use Rattle.cif_scope.specs.Looks.{what_at, names_at}
use Rattle.cif_inst_constants.specs.Used.{is_used}

-- one for a constant
abbrev pub sort_unit : Sort → ℕ
sort_unit sort.Constant = 1
sort_unit sort.Type = 0
sort_unit sort.Enum = 0
sort_unit (sort.Event k) = 0
sort_unit sort.Algebraic = 0
sort_unit sort.Input = 0
sort_unit sort.Discrete = 0

abbrev pub unit_of : Option What → ℕ
unit_of None = 0
unit_of (Some (what.Declared s)) = sort_unit s
unit_of (Some (what.Literal j)) = 0
unit_of (Some (what.Location j)) = 0
unit_of (Some (what.Component j)) = 0
unit_of (Some (what.Definition j n)) = 0
unit_of (Some (what.Instance j)) = 0
unit_of (Some (what.Parameter p)) = 0

-- the constants among the first n names of body k
abbrev pub count_to : Scopes → (k n : ℕ) → ℕ
count_to s k zero = 0
count_to s k (suc n) = count_to s k n + unit_of (what_at s.table k n)

abbrev pub body_count : Scopes → ℕ → ℕ
body_count s k = count_to s k (length (names_at s.table k))

-- for each of the first n names of body k how many constants are before it, and more
abbrev pub row_to : Scopes → (k more n : ℕ) → List ℕ
row_to s k more zero = []
row_to s k more (suc n) = row_to s k more n ++ (more + count_to s k n) ∷ []

abbrev pub count_if : Bool → ℕ → ℕ
count_if true n = n
count_if false n = 0

-- of the marked ones of the first n bodies
abbrev pub total_to : Scopes → List Bool → ℕ → ℕ
total_to s used zero = 0
total_to s used (suc n) = total_to s used n + count_if (is_used used n) (body_count s n)

abbrev pub rows_to : Scopes → List Bool → ℕ → List (List ℕ)
rows_to s used zero = []
rows_to s used (suc n) = rows_to s used n ++ row_to s n (total_to s used n) (length (names_at s.table n)) ∷ []

-- for each name of each body the number of constants of marked bodies before it, which for such a constant is its number
abbrev pub numbers_of : Scopes → List Bool → List (List ℕ)
numbers_of s used = rows_to s used (length s.table.scopes)

-- ---- the number of a slot

abbrev pub or_zero : Option ℕ → ℕ
or_zero None = 0
or_zero (Some n) = n

abbrev pub number_in : Option (List ℕ) → ℕ → ℕ
number_in None j = 0
number_in (Some ns) j = or_zero (slice_get ns j)

abbrev pub number_at : List (List ℕ) → (k j : ℕ) → ℕ
number_at numbers k j = number_in (slice_get numbers k) j

-- the number of a constant that is found
abbrev pub number_if : ℕ → ℕ → Option ℕ
number_if zero n = None
number_if (suc u) n = Some n

abbrev pub number_found : Scopes → List (List ℕ) → Looked → Option ℕ
number_found s numbers (At k j) = number_if (unit_of (what_at s.table k j)) (number_at numbers k j)
number_found s numbers Missing = None
number_found s numbers Blocked = None
