-- What names stand for among definitions by number: those of algebraic variables, and behind them arguments.
use Rattle.std.specs.Prelude.{◌≡◌, ℕ, ◌+◌, ◌<◌, ◌⊎◌, Bool, true, false, List, [], ◌∷◌, map, flat_map, length, Option, Some, None, option_map, slice_get}
use Rattle.cif_ast.specs.Tree.{Tree}
use Rattle.cif_ast.specs.View.{view}
use Rattle.cif_ast.specs.declared.names.Name.{Name}
use Rattle.cif_system.specs.Words.{Member}
use Rattle.cif_net_expr.specs.Tree.{net_expr, n_alg}
use Rattle.cif_source.specs.Source.{Source}
use Rattle.cif_source.specs.Components.{Component}
use Rattle.cif_scope.specs.Tables.{Beside}
use Rattle.cif_inst_components.specs.declared.components.Place.{Place}
use Rattle.cif_inst_model.specs.Translation.{net_name, net_of}
use Rattle.cif_inst_parameters.specs.declared.given.Given.{Given}
use Rattle.cif_inst_parameters.specs.declared.given.Given.TheVariants.{Named, Value}
use Rattle.cif_inst_parameters.specs.Given.{placed_at}
use Rattle.cif_inst_parameters.specs.Following.{given_at}
use Rattle.cif_inst_names.specs.Looking.{component_of}
use Rattle.cif_inst_names.specs.Objects.{object_form}
use Rattle.cif_inst_names.specs.declared.objects.Object.{Object}
use Rattle.cif_inst_names.specs.declared.objects.Object.TheVariants as object
use Rattle.cif_inst_sizes.specs.Definitions.{DefinitionTree, definition_names}

-- ---- arguments

-- an event or a location has no expression
abbrev pub argument_tree : Given → DefinitionTree
argument_tree (Named p) = record { component = 0; values = [] }
argument_tree (Value giver value at) = record { component = giver; values = Some (view value.now) ∷ [] }

abbrev pub arguments_tree : List Given → List DefinitionTree
arguments_tree xs = map argument_tree xs

-- those of all components
abbrev pub all_arguments : List (List Given) → List DefinitionTree
all_arguments given = flat_map arguments_tree given

-- for each component the number of its first argument, from k on
abbrev pub firsts_from : ℕ → List (List Given) → List ℕ
firsts_from k [] = []
firsts_from k (xs ∷ rest) = k ∷ firsts_from (k + length xs) rest

abbrev pub argument_number : List ℕ → Place → Option ℕ
argument_number firsts p = option_map (λ first. first + p.slot) (slice_get firsts p.component)

-- each argument is a definition, by its number
abbrev pub AreArguments : List (List Given) → List ℕ → List DefinitionTree → Type 0
AreArguments given firsts all =
    (p : Place) (x : Given) (n : ℕ) → given_at given p ≡ Some x → argument_number firsts p ≡ Some n → slice_get all n ≡ Some (argument_tree x)

-- ---- names

abbrev pub is_algebraic : Object → Bool
is_algebraic (object.Alg k) = true
is_algebraic (object.Known v) = false
is_algebraic (object.Event k) = false
is_algebraic (object.Var k) = false
is_algebraic (object.Input k) = false
is_algebraic (object.Location a p) = false
is_algebraic object.Nothing = false

-- the object is an algebraic variable with that number, of which there are so many
abbrev pub IsVariableNumber : ℕ → Object → Option ℕ → Type 0
IsVariableNumber count o None = is_algebraic o ≡ false
IsVariableNumber count o (Some n) = (o ≡ object.Alg n) × (n < count)

-- the name stands for what has no definition
pub record IsOther (c : Component) (nm : Name) : Type 0 where
  pub meant : Object
  pub is_other : is_algebraic meant ≡ false
  pub in_net : (at : ℕ) → net_name c nm at ≡ net_expr (object_form meant) at

-- for the algebraic variable with that number
pub record IsVariable (count : ℕ) (c : Component) (nm : Name) (n : ℕ) : Type 0 where
  pub below : n < count
  pub in_net : (at : ℕ) → net_name c nm at ≡ net_expr (n_alg n) at

-- or for the argument that is the definition with that number
pub record IsArgument (t : Source) (all : List DefinitionTree) (c : Component) (nm : Name) (n : ℕ) : Type 0 where
  pub giver : ℕ
  pub value : Tree
  pub round : Option ℕ
  pub is_there : slice_get all n ≡ Some (record { component = giver; values = Some value ∷ [] })
  pub in_net : (at : ℕ) → net_name c nm at ≡ placed_at round (net_of (component_of t giver) value)

abbrev pub Resolves : Source → ℕ → List DefinitionTree → Component → Name → Option ℕ → Type 0
Resolves t count all c nm None = IsOther c nm
Resolves t count all c nm (Some n) = IsVariable count c nm n ⊎ IsArgument t all c nm n

-- ---- needs

-- what a name stands for is among the needs
pub record IsNeeded (t : Source) (count : ℕ) (all : List DefinitionTree) (c : Component) (nm : Name) (needs : List ℕ) : Type 0 where
  pub number : Option ℕ
  pub resolves : Resolves t count all c nm number
  pub listed : (n : ℕ) → number ≡ Some n → Member n needs

abbrev pub AreNeedsOf : Source → ℕ → List DefinitionTree → DefinitionTree → List ℕ → Type 0
AreNeedsOf t count all d needs = (nm : Name) → Member nm (definition_names d) → IsNeeded t count all (component_of t d.component) nm needs

-- those of each definition
abbrev pub AreNeeds : Source → ℕ → (all first : List DefinitionTree) → List (List ℕ) → Type 0
AreNeeds t count all first needs = Beside (AreNeedsOf t count all) first needs
