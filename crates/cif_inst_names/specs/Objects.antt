-- What names of components stand for in a flat net.
use Rattle.std.specs.Prelude.{◌≡◌, ℕ, pos, Bool, true, false, List, Option, Some, None, slice_get, unwrap_or}
use Rattle.cif_ast.specs.Tree.{Tree}
use Rattle.cif_ast.specs.declared.names.Ident.{Ident}
use Rattle.cif_ast.specs.declared.names.Name.{Name}
use Rattle.cif_ast.specs.View.{view}
use Rattle.cif_system.specs.Words.{Member}
use Rattle.cif_net_expr.specs.Tree.{net_expr, NetForm, n_truth, n_number, n_loc, n_var, n_input, n_alg}
use Rattle.cif_source.specs.Source.{TypeTree, const_decl, Source}
use Rattle.cif_source.specs.Components.{Component, as_written, Entry, declared}
use Rattle.cif_source.specs.Lookup.{thing}
use Rattle.cif_source.specs.Objects.{components_of}
use Rattle.cif_source.specs.Step.{event_at, variable_at}
use Rattle.cif_source.specs.Value.{constant}
use Rattle.cif_scope.specs.declared.scope.Sort.{Sort}
use Rattle.cif_scope.specs.declared.scope.Sort.TheVariants as sort
use Rattle.cif_scope.specs.Tables.{IsBody}
use Rattle.cif_scope.specs.Scopes.{IsEntry}
use Rattle.cif_inst_components.specs.Numbers.{IsNumber}
use Rattle.cif_inst_model.specs.Flat.{event_number, variable_number}
use Rattle.cif_inst_model.specs.Translation.{net_constant, net_object, net_name, net_of}
use Rattle.cif_inst_model.specs.Types.{net_type}
use Rattle.cif_inst_numbers.specs.declared.counts.Counted.{Counted}
use Rattle.cif_inst_numbers.specs.declared.counts.Counted.TheVariants as counted
use Rattle.cif_inst_numbers.specs.declared.numbers.Numbered.{Numbered}
use Rattle.cif_inst_parameters.specs.Given.{placed_at}
use Rattle.cif_inst_names.specs.declared.objects.Value.{Value}
use Rattle.cif_inst_names.specs.declared.objects.Value.TheVariants as value
use Rattle.cif_inst_names.specs.declared.objects.Object.{Object}
use Rattle.cif_inst_names.specs.declared.objects.Object.TheVariants as object
use Rattle.cif_inst_names.specs.declared.objects.Meaning.{Meaning}
use Rattle.cif_inst_names.specs.declared.objects.Meaning.TheVariants as meaning

-- ---- values of constants

abbrev pub value_form : Value → NetForm
value_form (value.Truth b) = n_truth b
value_form (value.Number z) = n_number z

abbrev pub value_in : Option (List Value) → ℕ → Value
value_in None s = value.Number (pos 0)
value_in (Some vs) s = unwrap_or (slice_get vs s) (value.Number (pos 0))

-- in a slot of body k
abbrev pub value_at : List (List Value) → (k s : ℕ) → Value
value_at table k s = value_in (slice_get table k) s

-- each constant of each component has the value in its body's table
abbrev pub AreValuesOf : Source → List (List Value) → Type 0
AreValuesOf t table =
    (k : ℕ) (c : Component) → Member c (components_of t) → IsBody t k (as_written c) →
    (s : ℕ) (ty : TypeTree) (n : Ident) (e : Tree) → IsEntry c (declared (const_decl ty n e)) s →
    value_form (value_at table k s) ≡ net_constant (net_type c ty).type_of (constant c e)

-- ---- objects

-- what stands in an expression; where there is no value, 0
abbrev pub object_form : Object → NetForm
object_form (object.Known v) = value_form v
object_form (object.Event k) = n_number (pos 0)
object_form (object.Var k) = n_var k
object_form (object.Input k) = n_input k
object_form (object.Alg k) = n_alg k
object_form (object.Location a p) = n_loc a p
object_form object.Nothing = n_number (pos 0)

-- the number of an event, and 0 for what is none
abbrev pub object_event : Object → ℕ
object_event (object.Known v) = 0
object_event (object.Event k) = k
object_event (object.Var k) = 0
object_event (object.Input k) = 0
object_event (object.Alg k) = 0
object_event (object.Location a p) = 0
object_event object.Nothing = 0

-- the number of a variable, and 0 for what is none
abbrev pub object_variable : Object → ℕ
object_variable (object.Known v) = 0
object_variable (object.Event k) = 0
object_variable (object.Var k) = k
object_variable (object.Input k) = 0
object_variable (object.Alg k) = 0
object_variable (object.Location a p) = 0
object_variable object.Nothing = 0

abbrev pub is_constant : Sort → Bool
is_constant sort.Constant = true
is_constant sort.Type = false
is_constant sort.Enum = false
is_constant (sort.Event k) = false
is_constant sort.Algebraic = false
is_constant sort.Input = false
is_constant sort.Discrete = false

-- what has a number in the net
abbrev pub object_among : Counted → ℕ → Object
object_among counted.Event k = object.Event k
object_among counted.Input k = object.Input k
object_among counted.Variable k = object.Var k
object_among counted.Algebraic k = object.Alg k

-- with that number
abbrev pub numbered_object : Option Numbered → Object
numbered_object None = object.Nothing
numbered_object (Some n) = object_among n.among n.number

-- the object is what the scope of a component declares
pub record StandsFor (c : Component) (e : Entry) (o : Object) : Type 0 where
  pub form : object_form o ≡ net_object (c, e)
  pub event : object_event o ≡ unwrap_or (event_at (Some (thing c e))) 0
  pub variable : object_variable o ≡ unwrap_or (variable_at (Some (thing c e))) 0

-- ---- names

-- the number of an event that is meant, and 0 for what is none
abbrev pub meant_event : Meaning → ℕ
meant_event (meaning.Object o) = object_event o
meant_event (meaning.Given p giver value at) = 0

-- the number of a variable that is meant, and 0 for what is none
abbrev pub meant_variable : Meaning → ℕ
meant_variable (meaning.Object o) = object_variable o
meant_variable (meaning.Given p giver value at) = 0

-- the name stands for what is declared
pub record MeansObject (c : Component) (nm : Name) (o : Object) : Type 0 where
  pub in_net : (at : ℕ) → net_name c nm at ≡ net_expr (object_form o) at
  pub event : event_number c nm ≡ object_event o
  pub variable : variable_number c nm ≡ object_variable o

-- the name stands for an expression of another component
pub record MeansGiven (t : Source) (c : Component) (nm : Name) (giver : ℕ) (value : Tree) (at : Option ℕ) : Type 0 where
  pub home : Component
  pub is_number : IsNumber t giver home
  pub in_net : (place : ℕ) → net_name c nm place ≡ placed_at at (net_of home value)
  pub event : event_number c nm ≡ 0
  pub variable : variable_number c nm ≡ 0

abbrev pub Means : Source → Component → Name → Meaning → Type 0
Means t c nm (meaning.Object o) = MeansObject c nm o
Means t c nm (meaning.Given p giver value at) = MeansGiven t c nm giver (view value.now) at
