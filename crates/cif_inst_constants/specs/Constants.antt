-- The values of constants by their numbers, and what they say of a source.
use Rattle.std.specs.Prelude.{◌≡◌, ℕ, ◌⊎◌, ℤ, false, List}
use Rattle.std.specs.List.{Any}
use Rattle.cif_ast.specs.Tree.{node, named}
use Rattle.cif_ast.specs.declared.names.Name.{Name}
use Rattle.cif_system.specs.Words.{Member}
use Rattle.cif_source.specs.Source.{Source}
use Rattle.cif_source.specs.Components.{Component, as_written}
use Rattle.cif_source.specs.Lookup.{found}
use Rattle.cif_source.specs.Objects.{components_of}
use Rattle.cif_source.specs.Scoping.{is_wrong}
use Rattle.cif_source.specs.Value.{constant}
use Rattle.cif_source.specs.BodyRules.{is_constant}
use Rattle.cif_source.specs.InstanceRules.{FaultyConstant, LongBound, EmptyRange, ConstantRangeDue}
use Rattle.cif_scope.specs.declared.scopes.Scopes.{Scopes}
use Rattle.cif_scope.specs.Tables.{IsBody}
use Rattle.cif_inst_constants.specs.declared.error.ConstErr.{ConstErr}
use Rattle.cif_inst_constants.specs.declared.error.ConstErr.TheVariants.{ConstantRange, Memory}
use Rattle.cif_inst_constants.specs.Named.{table_value}

-- in each component each name that leads to a constant or a literal, or nowhere, has the value of the constant expression that is
-- this name, by the number of the body that the component is written as
abbrev pub HasValues : Source → Scopes → List (List ℕ) → List ℤ → Type 0
HasValues t s numbers vs =
    (k : ℕ) (c : Component) → Member c (components_of t) → IsBody t k (as_written c) → (nm : Name) → is_wrong is_constant (found c nm) ≡ false →
    table_value s numbers vs k nm ≡ constant c (node (named nm) nm.at)

-- in some component a constant expression has no value, or a bound of a type is none
abbrev pub BoundsDue : Source → ℕ → Type 0
BoundsDue t at = Any (λ c. FaultyConstant c at ⊎ LongBound c at ⊎ EmptyRange c at) (components_of t)

-- the rule is broken at the place that is told; of want of memory nothing is said
abbrev pub ConstDue : Source → ConstErr → Type 0
ConstDue t (ConstantRange at) = ConstantRangeDue t at
ConstDue t Memory = Unit {0}
