-- What arguments stand for, where what is given is known for the components before.
use Rattle.std.specs.Prelude.{◌≡◌, ℕ, ◌<◌, Bool, true, false, List, length, map, Option, Some, None, option_map, slice_get}
use Rattle.cif_ast.specs.Tree.{Tree}
use Rattle.cif_ast.specs.declared.names.Name.{Name}
use Rattle.cif_source.specs.Source.{ParamTree, event_param, alg_param, location_param, Source}
use Rattle.cif_source.specs.Components.{Component, parameter}
use Rattle.cif_source.specs.Lookup.{Reached, reached, found}
use Rattle.cif_scope.specs.Looks.{what_at}
use Rattle.cif_scope.specs.Scopes.{AreScopesOf}
use Rattle.cif_scope.specs.declared.scope.What.{What}
use Rattle.cif_scope.specs.declared.scope.What.TheVariants as what
use Rattle.cif_scope.specs.declared.scopes.Scopes.{Scopes}
use Rattle.cif_inst_components.specs.Numbers as numbers
use Rattle.cif_inst_components.specs.Numbers.{AreComponentsOf, Finds}
use Rattle.cif_inst_components.specs.declared.components.Component.{Component as Row}
use Rattle.cif_inst_components.specs.declared.components.Place.{Place}
use Rattle.cif_inst_bodies.specs.Arguments.{IsArgumentFor}
use Rattle.cif_inst_parameters.specs.declared.following.Target.{Target}
use Rattle.cif_inst_parameters.specs.declared.following.Follower.{Follower}
use Rattle.cif_inst_parameters.specs.declared.given.Given.{Given}
use Rattle.cif_inst_parameters.specs.declared.given.Given.TheVariants.{Named, Value}
use Rattle.cif_inst_parameters.specs.Given.{given_items, IsGiven, AreGiven}
use Rattle.cif_inst_parameters.specs.Passing.{and_then}

abbrev pub IsNumber : Source → ℕ → Component → Type 0
IsNumber = numbers.IsNumber

-- ---- what names find

abbrev pub is_parameter : What → Bool
is_parameter (what.Parameter q) = true
is_parameter (what.Declared d) = false
is_parameter (what.Literal j) = false
is_parameter (what.Location j) = false
is_parameter (what.Component j) = false
is_parameter (what.Definition j n) = false
is_parameter (what.Instance j) = false

abbrev pub target : Place → Bool → Target
target p b = record { place = p; is_parameter = b }

abbrev pub target_at : Scopes → List Row → Place → Option Target
target_at s all p = and_then (slice_get all p.component) (λ (r : Row). option_map (λ w. target p (is_parameter w)) (what_at s.table r.body p.slot))

-- the numbers are those of the source
pub record LooksIn (t : Source) (f : Follower) : Type 0 where
  pub scopes : AreScopesOf t f.scopes.now
  pub components : AreComponentsOf t f.components.now

abbrev pub leads_to_parameter : Reached → Bool
leads_to_parameter (reached (c, parameter k p)) = true
leads_to_parameter _ = false

abbrev pub FindsTarget : Source → Reached → Option Target → Type 0
FindsTarget t r None = Finds t r None
FindsTarget t r (Some x) = Finds t r (Some x.place) × (x.is_parameter ≡ leads_to_parameter r)

abbrev pub FindsBare : Source → Component → Option Name → Option Target → Type 0
FindsBare t c None x = x ≡ None
FindsBare t c (Some nm) x = FindsTarget t (found c nm) x

-- ---- what is given

abbrev pub given_at : List (List Given) → Place → Option Given
given_at all p = and_then (slice_get all p.component) (λ (of_component : List Given). slice_get of_component p.slot)

-- the place of the outermost parentheses
abbrev pub outermost : Option ℕ → Option ℕ → Option ℕ
outermost None inner = inner
outermost (Some at) inner = Some at

-- a value with parentheses round it
abbrev pub with_parentheses : Option ℕ → Given → Option Given
with_parentheses at (Named p) = None
with_parentheses at (Value giver value inner) = Some (Value giver value (outermost at inner))

module _ (all : List (List Given)) where
  abbrev pub named_at : Bool → Place → Option Given
  named_at true p = given_at all p
  named_at false p = Some (Named p)

  abbrev pub named_by : Option Target → Option Given
  named_by None = None
  named_by (Some x) = named_at x.is_parameter x.place

  abbrev pub valued_at : Option ℕ → Bool → Place → Option Given
  valued_at at true p = and_then (given_at all p) (with_parentheses at)
  valued_at at false p = None

  abbrev pub valued_by : Option ℕ → Option Target → Option Given
  valued_by at None = None
  valued_by at (Some x) = valued_at at x.is_parameter x.place

  abbrev pub followed_by : ParamTree → Option ℕ → Option Target → Option Given
  followed_by (event_param k h n) at x = named_by x
  followed_by (location_param n) at x = named_by x
  followed_by (alg_param ty n) at x = valued_by at x

-- for the first components it is known what is given
abbrev pub AreKnown : Source → List (List Given) → Type 0
AreKnown t all = (k : ℕ) (c : Component) → k < length all → IsNumber t k c → (given : List Given) × (slice_get all k ≡ Some given) × AreGiven t c given

-- the component with that number is one of these
pub record FollowsFrom (t : Source) (f : Follower) (giver : ℕ) (g : Component) : Type 0 where
  pub looks : LooksIn t f
  pub known : AreKnown t (map given_items f.given.now)
  pub is_number : IsNumber t giver g
  pub is_known : giver < length f.given.now

-- the first n arguments are followed, which a component with that number gives
abbrev pub AreFollowed : Follower → ℕ → List ParamTree → List Tree → ℕ → List Given → Type 0
AreFollowed f giver ps es n given =
    (length given ≡ n) × ((t : Source) (g : Component) → FollowsFrom t f giver g → (d : Component) (k : ℕ) (p : ParamTree) (e : Tree) → k < n →
    slice_get ps k ≡ Some p → slice_get es k ≡ Some e → IsArgumentFor d p g e → (x : Given) × (slice_get given k ≡ Some x) × IsGiven t p g e x)
