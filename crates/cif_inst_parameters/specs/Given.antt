-- What parameters stand for, by the numbers of components.
use Rattle.std.specs.Prelude.{◌≡◌, ℕ, Bool, true, false, List, [], length, Option, Some, None, slice_get}
use Rattle.std.specs.Global.{Vec}
use Rattle.cif_ast.specs.Tree.{Tree, node, named, paren}
use Rattle.cif_ast.specs.declared.names.Name.{Name}
use Rattle.cif_ast.specs.View.{view}
use Rattle.cif_net_expr.specs.Tree.{NetExpr, net_expr}
use Rattle.cif_net_model.specs.Exprs.{placed}
use Rattle.cif_source.specs.Source.{ParamTree, event_param, alg_param, location_param, event_decl, Source}
use Rattle.cif_source.specs.Components.{Component, whole, part, blank, copy, Entry, declared, location, parameter}
use Rattle.cif_source.specs.Lookup.{Reached, reached, found, denotes, thing}
use Rattle.cif_scope.specs.Scopes.{IsEntry}
use Rattle.cif_inst_components.specs.Numbers.{IsNumber}
use Rattle.cif_inst_components.specs.declared.components.Place.{Place}
use Rattle.cif_inst_model.specs.Translation.{net_object, net_name, net_of}
use Rattle.cif_inst_parameters.specs.declared.given.Given.{Given}
use Rattle.cif_inst_parameters.specs.declared.given.Given.TheVariants.{Named, Value}

-- the name leads to what is declared there, parameters followed
pub record LeadsTo (t : Source) (c : Component) (nm : Name) (p : Place) : Type 0 where
  pub home : Component
  pub entry : Entry
  pub is_number : IsNumber t p.component home
  pub is_entry : IsEntry home entry p.slot
  pub denoted : denotes c nm ≡ Some (thing home entry)
  pub in_net : (at : ℕ) → net_name c nm at ≡ net_expr (net_object (home, entry)) at

abbrev pub is_event : Entry → Bool
is_event (declared (event_decl k h n)) = true
is_event _ = false

abbrev pub is_location : Entry → Bool
is_location (location k) = true
is_location _ = false

-- the argument is a bare name of an event or a location
pub record IsNamed (sort : Entry → Bool) (t : Source) (g : Component) (e : Tree) (p : Place) : Type 0 where
  pub name : Name
  pub at : ℕ
  pub is_bare : e ≡ node (named name) at
  pub leads : LeadsTo t g name p
  pub is_sort : sort leads.entry ≡ true

abbrev pub placed_at : Option ℕ → NetExpr → NetExpr
placed_at None e = e
placed_at (Some at) e = placed at e

-- the parameter has an expression for its argument
abbrev pub has_argument : Reached → Bool
has_argument (reached (copy o n ps b g i, parameter k (alg_param ty m))) = true
has_argument _ = false

-- no parentheses are left round the expression, and no name of a parameter to follow
abbrev pub IsPlain : Component → Tree → Type 0
IsPlain c (node (paren e) at) = ⊥
IsPlain c (node (named nm) at) = has_argument (found c nm) ≡ false
IsPlain c _ = Unit {0}

-- the argument is that expression of the component with that number, up to the place
pub record IsValue (t : Source) (g : Component) (e : Tree) (giver : ℕ) (value : Tree) (at : Option ℕ) : Type 0 where
  pub home : Component
  pub is_number : IsNumber t giver home
  pub is_plain : IsPlain home value
  pub in_net : net_of g e ≡ placed_at at (net_of home value)

-- what a parameter of an instance that stands in g stands for, by its argument e
abbrev pub IsGiven : Source → ParamTree → Component → Tree → Given → Type 0
IsGiven t (event_param k h n) g e (Named p) = IsNamed is_event t g e p
IsGiven t (event_param k h n) g e (Value giver value at) = ⊥
IsGiven t (location_param n) g e (Named p) = IsNamed is_location t g e p
IsGiven t (location_param n) g e (Value giver value at) = ⊥
IsGiven t (alg_param ty n) g e (Named p) = ⊥
IsGiven t (alg_param ty n) g e (Value giver value at) = IsValue t g e giver (view value.now) at

-- what all parameters of a component stand for; only an instance has some
abbrev pub AreGiven : Source → Component → List Given → Type 0
AreGiven t (copy o n ps b g i) given =
    (length given ≡ length ps) × ((k : ℕ) (p : ParamTree) → slice_get ps k ≡ Some p →
    (e : Tree) × (x : Given) × (slice_get i.args k ≡ Some e) × (slice_get given k ≡ Some x) × IsGiven t p g e x)
AreGiven t (whole is) given = given ≡ []
AreGiven t (part o n b) given = given ≡ []
AreGiven t (blank o n ps b) given = given ≡ []

-- what vectors stand for
abbrev pub given_items : Vec Given → List Given
given_items g = g.items

-- what the parameters of all components stand for, by their numbers
abbrev pub AreParametersOf : Source → List (List Given) → Type 0
AreParametersOf t all = (k : ℕ) (c : Component) → IsNumber t k c → (given : List Given) × (slice_get all k ≡ Some given) × AreGiven t c given
