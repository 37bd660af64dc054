-- What the answers about names that reach themselves say.
use Rattle.std.specs.Prelude.{◌≡◌, ℕ, List, Option, None, Some}
use Rattle.std.specs.List.{Any}
use Rattle.cif_system.specs.Words.{Chain}
use Rattle.cif_ast.specs.declared.names.Ident.{Ident}
use Rattle.cif_source.specs.Source.{Source}
use Rattle.cif_source.specs.Components.{Component, Entry, scope_of}
use Rattle.cif_source.specs.Lookup.{ScopeEntry}
use Rattle.cif_source.specs.Objects.{bodies}
use Rattle.cif_source.specs.Scoping.{ReachesDefinition, ReachesType}
use Rattle.cif_order.specs.Graph.{IsOrder, IsCyclic}

-- it is one of those, or there is none
abbrev pub IsOneOf : (ℕ → Type 0) → Option ℕ → Type 0
IsOneOf P None = (n : ℕ) → P n → ⊥
IsOneOf P (Some n) = P n

-- a node that reaches itself, or there is an order
abbrev pub IsCyclicNode : List (List ℕ) → Option ℕ → Type 0
IsCyclicNode needs None = (order : List ℕ) × IsOrder needs order
IsCyclicNode needs (Some n) = IsCyclic needs n

-- a name that stands there and reaches itself in that way
abbrev pub CycleBy : (ScopeEntry → ScopeEntry → Type 0) → Source → ℕ → Type 0
CycleBy R t at = Any (λ c. Any (λ (e : Ident × Entry). (e.0.at ≡ at) × Chain R (c, e.1) (c, e.1)) (scope_of c)) (bodies t)

-- the definition whose name stands there reaches itself
abbrev pub DefinitionCycle : Source → ℕ → Type 0
DefinitionCycle t at = CycleBy ReachesDefinition t at

-- the type or constant whose name stands there reaches itself
abbrev pub TypeCycle : Source → ℕ → Type 0
TypeCycle t at = CycleBy ReachesType t at
