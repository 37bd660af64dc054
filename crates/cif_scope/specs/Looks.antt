-- Looking names up in scopes by numbers.
use Rattle.std.specs.Prelude.{ℕ, zero, suc, Bool, true, List, [], ◌∷◌, ◌++◌, map, length, Option, Some, None, option_map, slice_get, if◌then◌else◌}
use Rattle.cif_ast.specs.declared.names.Ident.{Ident}
use Rattle.cif_ast.specs.declared.names.Name.{Name}
use Rattle.cif_source.specs.Source.{Text}
use Rattle.cif_scope.specs.Places.{slot_in}
use Rattle.cif_scope.specs.declared.scope.What.{What}
use Rattle.cif_scope.specs.declared.scope.What.TheVariants as what
use Rattle.cif_scope.specs.declared.scope.ScopeName.{ScopeName}
use Rattle.cif_scope.specs.declared.scope.Scope.{Scope}
use Rattle.cif_scope.specs.declared.looked.Looked.{Looked}
use Rattle.cif_scope.specs.declared.looked.Looked.TheVariants.{At, Missing, Blocked}
use Rattle.cif_scope.specs.declared.looked.Slot.{Slot}
use Rattle.cif_scope.specs.declared.table.Table.{Table}
use Rattle.cif_scope.specs.declared.scopes.Found.{Found}

abbrev pub text_of : ScopeName → Text
text_of n = n.name.text

-- the names of a scope
abbrev pub texts_of : Scope → List Text
texts_of s = map text_of s.names

abbrev pub slot_among : Option (List Text) → Text → Option ℕ
slot_among None x = None
slot_among (Some ys) x = slot_in ys x

-- the slot of a name in the scope of body k
abbrev pub slot_at : Table → ℕ → Text → Option ℕ
slot_at tb k x = slot_among (slice_get tb.names k) x

abbrev pub outer_in : Option Scope → Option ℕ
outer_in None = None
outer_in (Some s) = s.outer

abbrev pub outer_at : Table → ℕ → Option ℕ
outer_at tb k = outer_in (slice_get tb.scopes k)

abbrev pub names_in : Option Scope → List ScopeName
names_in None = []
names_in (Some s) = s.names

-- what stands in a slot of body k
abbrev pub what_at : Table → ℕ → ℕ → Option What
what_at tb k s = option_map (λ (n : ScopeName). n.what) (slice_get (names_in (slice_get tb.scopes k)) s)

-- outward from body k, through so many bodies at most
abbrev pub further_out : (ℕ → Looked) → Option ℕ → Looked
further_out go None = Missing
further_out go (Some j) = go j

abbrev pub here_or : ℕ → Option ℕ → Looked → Looked
here_or k None rest = rest
here_or k (Some s) rest = At k s

abbrev pub look_out : Table → (fuel k : ℕ) → Text → Looked
look_out tb zero k x = Missing
look_out tb (suc n) k x = here_or k (slot_at tb k x) (further_out (λ j. look_out tb n j x) (outer_at tb k))

abbrev pub unless_parameter : ℕ → ℕ → Option What → Looked
unless_parameter k s None = Missing
unless_parameter k s (Some (what.Parameter p)) = Missing
unless_parameter k s (Some (what.Declared d)) = At k s
unless_parameter k s (Some (what.Literal j)) = At k s
unless_parameter k s (Some (what.Location j)) = At k s
unless_parameter k s (Some (what.Component j)) = At k s
unless_parameter k s (Some (what.Definition j n)) = At k s
unless_parameter k s (Some (what.Instance j)) = At k s

abbrev pub at_own : Table → ℕ → Option ℕ → Looked
at_own tb k None = Missing
at_own tb k (Some s) = unless_parameter k s (what_at tb k s)

-- in body k, parameters excluded
abbrev pub look_inside : Table → ℕ → Text → Looked
look_inside tb k x = at_own tb k (slot_at tb k x)

-- for each body the bodies of the definitions of its instances, as far as they are found
abbrev pub Definitions : Type 0
Definitions = List (List (Option ℕ))

abbrev pub definition_in : List (Option ℕ) → ℕ → Option ℕ
definition_in ds r = elim (slice_get ds r) [ None ↦ None | Some d ↦ d ]

-- the body of the definition of an instance
abbrev pub definition_at : Definitions → ℕ → ℕ → Option ℕ
definition_at defs k r = elim (slice_get defs k) [ None ↦ None | Some ds ↦ definition_in ds r ]

abbrev pub inside_instance : Table → Option ℕ → Text → Looked
inside_instance tb None x = Missing
inside_instance tb (Some j) x = look_inside tb j x

-- one further part of a name, from what is said of the part before it; instances are passed where that is asked for
abbrev pub step_from : Table → Definitions → Bool → ℕ → Option What → Text → Looked
step_from tb defs pass k None x = Blocked
step_from tb defs pass k (Some (what.Component j)) x = look_inside tb j x
step_from tb defs pass k (Some (what.Instance r)) x = if pass then inside_instance tb (definition_at defs k r) x else Blocked
step_from tb defs pass k (Some (what.Parameter p)) x = Blocked
step_from tb defs pass k (Some (what.Declared d)) x = Blocked
step_from tb defs pass k (Some (what.Literal j)) x = Blocked
step_from tb defs pass k (Some (what.Location j)) x = Blocked
step_from tb defs pass k (Some (what.Definition j n)) x = Blocked

abbrev pub step : Table → Definitions → Bool → Looked → Text → Looked
step tb defs pass (At k s) x = step_from tb defs pass k (what_at tb k s) x
step tb defs pass Missing x = Missing
step tb defs pass Blocked x = Blocked

-- further parts
abbrev pub steps : Table → Definitions → Bool → Looked → List Ident → Looked
steps tb defs pass l [] = l
steps tb defs pass l (p ∷ ps) = steps tb defs pass (step tb defs pass l p.text) ps

abbrev pub first_part : Table → Bool → ℕ → Text → Looked
first_part tb from_root k x = if from_root then here_or 0 (slot_at tb 0 x) Missing else look_out tb (length tb.scopes) k x

-- a name in body k
abbrev pub look : Table → Definitions → Bool → ℕ → Name → Looked
look tb defs pass k nm = elim nm.parts [ [] ↦ Missing | p ∷ ps ↦ steps tb defs pass (first_part tb nm.from_root k p.text) ps ]

-- the slot of an instance that is passed
abbrev pub passed_at : ℕ → ℕ → Option What → List Slot
passed_at k s None = []
passed_at k s (Some (what.Instance r)) = record { body = k; slot = s } ∷ []
passed_at k s (Some (what.Declared d)) = []
passed_at k s (Some (what.Literal j)) = []
passed_at k s (Some (what.Location j)) = []
passed_at k s (Some (what.Component j)) = []
passed_at k s (Some (what.Definition j n)) = []
passed_at k s (Some (what.Parameter p)) = []

abbrev pub passed_slot : Table → Looked → List Slot
passed_slot tb (At k s) = passed_at k s (what_at tb k s)
passed_slot tb Missing = []
passed_slot tb Blocked = []

-- the instances that further parts pass
abbrev pub passed : Table → Definitions → Looked → List Ident → List Slot
passed tb defs l [] = []
passed tb defs l (p ∷ ps) = passed_slot tb l ++ passed tb defs (step tb defs true l p.text) ps

-- the names of body k
abbrev pub names_at : Table → ℕ → List ScopeName
names_at tb k = names_in (slice_get tb.scopes k)

abbrev pub as_found : Looked → List Slot → Option Found
as_found (At k s) through = Some (record { body = k; slot = s; through = through })
as_found Missing through = None
as_found Blocked through = None

abbrev pub followed : Table → Definitions → Looked → List Ident → Option Found
followed tb defs l ps = as_found (steps tb defs true l ps) (passed tb defs l ps)

-- what a name in body k finds, through instances too
abbrev pub find : Table → Definitions → ℕ → Name → Option Found
find tb defs k nm = elim nm.parts [ [] ↦ None | p ∷ ps ↦ followed tb defs (first_part tb nm.from_root k p.text) ps ]
