-- Whether a name breaks a rule, by where it leads by numbers.
use Rattle.std.specs.Prelude.{ℕ, Bool, true, false, not, List, [], ◌∷◌, Option, Some, None, if◌then◌else◌}
use Rattle.cif_ast.specs.declared.names.Name.{Name}
use Rattle.cif_source.specs.Uses.{Asked, event_asked, location_asked, type_asked, definition_asked, variable_asked, value_asked, any_asked, Use, OwnName, target, left_side, own_ident}
use Rattle.cif_scope.specs.declared.scope.Sort.{Sort}
use Rattle.cif_scope.specs.declared.scope.Sort.TheVariants as sort
use Rattle.cif_scope.specs.declared.scope.ParamSort.{ParamSort}
use Rattle.cif_scope.specs.declared.scope.ParamSort.TheVariants as param
use Rattle.cif_scope.specs.declared.scope.What.{What}
use Rattle.cif_scope.specs.declared.scope.What.TheVariants as what
use Rattle.cif_scope.specs.declared.looked.Looked.{Looked}
use Rattle.cif_scope.specs.declared.looked.Looked.TheVariants.{At, Missing, Blocked}
use Rattle.cif_scope.specs.declared.scopes.Scopes.{Scopes}
use Rattle.cif_scope.specs.declared.error.ScopeErr.{ScopeErr}
use Rattle.cif_scope.specs.declared.error.ScopeErr.TheVariants.{Unknown, WrongKind}
use Rattle.cif_scope.specs.Looks.{what_at, slot_at, look}

-- ---- sorts

abbrev pub sort_fits : Asked → Sort → Bool
sort_fits event_asked (sort.Event k) = true
sort_fits type_asked sort.Type = true
sort_fits type_asked sort.Enum = true
sort_fits variable_asked sort.Discrete = true
sort_fits value_asked sort.Constant = true
sort_fits value_asked sort.Algebraic = true
sort_fits value_asked sort.Input = true
sort_fits value_asked sort.Discrete = true
sort_fits any_asked s = true
sort_fits _ _ = false

abbrev pub param_fits : Asked → ParamSort → Bool
param_fits event_asked param.Event = true
param_fits value_asked param.Algebraic = true
param_fits value_asked param.Location = true
param_fits location_asked param.Location = true
param_fits any_asked s = true
param_fits _ _ = false

-- what is said of a name fits what is asked
abbrev pub fits : Asked → What → Bool
fits a (what.Declared s) = sort_fits a s
fits a (what.Parameter s) = param_fits a s
fits location_asked (what.Location k) = true
fits value_asked (what.Location k) = true
fits value_asked (what.Literal k) = true
fits definition_asked (what.Definition k n) = true
fits any_asked w = true
fits _ _ = false

abbrev pub own_fits : OwnName → What → Bool
own_fits (target n) (what.Location k) = true
own_fits (left_side n) (what.Declared sort.Algebraic) = true
own_fits _ _ = false

-- ---- names that are looked up outward

abbrev pub unless_missing : Looked → Looked → Looked
unless_missing (At k s) l = l
unless_missing Missing l = Missing
unless_missing Blocked l = l

-- where the name of a definition in body k leads, which isn't reached through an instance
abbrev pub definition_sought_by : Scopes → ℕ → Name → Looked
definition_sought_by s k nm = unless_missing (look s.table s.definitions true k nm) (look s.table s.definitions false k nm)

-- where the name of a use in body k leads
abbrev pub sought_by : Scopes → ℕ → Use → Looked
sought_by s k u = elim u.asks [ definition_asked ↦ definition_sought_by s k u.name | _ ↦ look s.table s.definitions true k u.name ]

abbrev pub is_unknown : Looked → Bool
is_unknown (At k s) = false
is_unknown Missing = true
is_unknown Blocked = false

abbrev pub misfits : Asked → Option What → Bool
misfits a None = true
misfits a (Some w) = not (fits a w)

abbrev pub is_misfit : Scopes → Asked → Looked → Bool
is_misfit s a (At k j) = misfits a (what_at s.table k j)
is_misfit s a Missing = false
is_misfit s a Blocked = true

-- the fault of the name at that byte
abbrev pub fault_of : ℕ → (unknown misfit : Bool) → Option ScopeErr
fault_of at unknown misfit = if unknown then Some (Unknown at) else (if misfit then Some (WrongKind at) else None)

abbrev pub looked_fault : Scopes → Asked → ℕ → Looked → Option ScopeErr
looked_fault s a at l = fault_of at (is_unknown l) (is_misfit s a l)

abbrev pub used_fault : Scopes → ℕ → Use → Option ScopeErr
used_fault s k u = looked_fault s u.asks u.name.at (sought_by s k u)

-- ---- names of the own scope

abbrev pub own_misfits : OwnName → Option What → Bool
own_misfits n None = true
own_misfits n (Some w) = not (own_fits n w)

abbrev pub own_fault_at : Scopes → ℕ → OwnName → Option ℕ → Option ScopeErr
own_fault_at s k n None = fault_of (own_ident n).at true false
own_fault_at s k n (Some j) = fault_of (own_ident n).at false (own_misfits n (what_at s.table k j))

abbrev pub own_fault : Scopes → ℕ → OwnName → Option ScopeErr
own_fault s k n = own_fault_at s k n (slot_at s.table k (own_ident n).text)

-- ---- lists

abbrev pub or_later : {F : Type 0} → Option F → Option F → Option F
or_later None o = o
or_later (Some e) o = Some e

-- what is given for the first element for which something is
abbrev pub first_some : {A F : Type 0} → (A → Option F) → List A → Option F
first_some f [] = None
first_some f (x ∷ xs) = or_later (f x) (first_some f xs)
