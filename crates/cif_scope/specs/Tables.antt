-- What scopes by numbers say of the bodies of a source.
use Rattle.std.specs.Prelude.{◌≡◌, ℕ, List, [], ◌∷◌, length, Option, Some, None, slice_get}
use Rattle.cif_ast.specs.declared.names.Ident.{Ident}
use Rattle.cif_source.specs.Source.{DeclTree, type_decl, enum_decl, event_decl, const_decl, alg_decl, input_decl, disc_decl, equation_decl, invariant_decl, marked_decl, ParamTree, event_param, alg_param, location_param, Source}
use Rattle.cif_source.specs.Components.{Component, whole, part, blank, copy, scope_of, Entry, declared, literal, location, inner, definition, instance, parameter}
use Rattle.cif_source.specs.Objects.{bodies}
use Rattle.cif_source.specs.Scoping.{instances_of}
use Rattle.cif_scope.specs.declared.scope.Sort.{Sort}
use Rattle.cif_scope.specs.declared.scope.Sort.TheVariants as sort
use Rattle.cif_scope.specs.declared.scope.ParamSort.{ParamSort}
use Rattle.cif_scope.specs.declared.scope.ParamSort.TheVariants as param
use Rattle.cif_scope.specs.declared.scope.What.{What}
use Rattle.cif_scope.specs.declared.scope.What.TheVariants as what
use Rattle.cif_scope.specs.declared.scope.ScopeName.{ScopeName}
use Rattle.cif_scope.specs.declared.scope.Scope.{Scope}

-- the component is body k
abbrev pub IsBody : Source → ℕ → Component → Type 0
IsBody t k c = slice_get (bodies t) k ≡ Some c

-- the lists are as long, and what stands beside each other is related
abbrev pub Beside : {A B : Type 0} → (A → B → Type 0) → List A → List B → Type 0
Beside R [] [] = Unit {0}
Beside R [] (y ∷ ys) = ⊥
Beside R (x ∷ xs) [] = ⊥
Beside R (x ∷ xs) (y ∷ ys) = R x y × Beside R xs ys

abbrev pub IsSort : DeclTree → Sort → Type 0
IsSort (type_decl n ty) s = s ≡ sort.Type
IsSort (enum_decl n ls) s = s ≡ sort.Enum
IsSort (event_decl k h n) s = s ≡ sort.Event k
IsSort (const_decl ty n e) s = s ≡ sort.Constant
IsSort (alg_decl ty n e) s = s ≡ sort.Algebraic
IsSort (input_decl ty n) s = s ≡ sort.Input
IsSort (disc_decl ty n e) s = s ≡ sort.Discrete
IsSort (equation_decl q) s = ⊥
IsSort (invariant_decl i) s = ⊥
IsSort (marked_decl p) s = ⊥

abbrev pub param_sort : ParamTree → ParamSort
param_sort (event_param k h n) = param.Event
param_sort (alg_param ty n) = param.Algebraic
param_sort (location_param n) = param.Location

-- what is said of an entry of the scope of c
abbrev pub IsWhat : Source → Component → Entry → What → Type 0
IsWhat t c (declared d) w = (s : Sort) × (w ≡ what.Declared s) × IsSort d s
IsWhat t c (literal k ls) w = w ≡ what.Literal k
IsWhat t c (location k) w = w ≡ what.Location k
IsWhat t c (inner n b) w = (k : ℕ) × (w ≡ what.Component k) × IsBody t k (part c n b)
IsWhat t c (definition n ps b) w = (k : ℕ) × (w ≡ what.Definition k (length ps)) × IsBody t k (blank c n ps b)
IsWhat t c (instance i) w = (k : ℕ) × (w ≡ what.Instance k) × (slice_get (instances_of c) k ≡ Some i)
IsWhat t c (parameter k p) w = w ≡ what.Parameter (param_sort p)

-- a name of the scope of c, and what is said of it
abbrev pub IsName : Source → Component → Ident × Entry → ScopeName → Type 0
IsName t c e s = (s.name ≡ e.0) × IsWhat t c e.1 s.what

-- the number of the body in which c stands; only the specification stands in none
abbrev pub IsOuter : Source → Component → Option ℕ → Type 0
IsOuter t (whole is) o = (o ≡ None) × (is ≡ t)
IsOuter t (part p n b) o = (k : ℕ) × (o ≡ Some k) × IsBody t k p
IsOuter t (blank p n ps b) o = (k : ℕ) × (o ≡ Some k) × IsBody t k p
IsOuter t (copy p n ps b g i) o = ⊥

pub record IsScope (t : Source) (c : Component) (s : Scope) : Type 0 where
  pub outer : IsOuter t c s.outer
  pub names : Beside (IsName t c) (scope_of c) s.names

-- a scope for each body, in text order
abbrev pub IsTable : Source → List Scope → Type 0
IsTable t scopes = Beside (IsScope t) (bodies t) scopes
