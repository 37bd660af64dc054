-- What the numbers of components say of a source.
use Rattle.std.specs.Prelude.{◌≡◌, ◌≤◌, ℕ, length, filter_map, Option, Some, None, slice_get}
use Rattle.cif_source.specs.Source.{Source}
use Rattle.cif_source.specs.Components as source
use Rattle.cif_source.specs.Components.{whole, part, blank, copy, as_written, inner, instance}
use Rattle.cif_source.specs.Lookup.{Reached, reached, missing, blocked}
use Rattle.cif_source.specs.Objects.{components_of, most_objects}
use Rattle.cif_source.specs.InstanceRules.{TooManyObjectsDue}
use Rattle.cif_scope.specs.Tables.{IsBody, Beside}
use Rattle.cif_scope.specs.Scopes.{IsEntry}
use Rattle.cif_inst_components.specs.declared.components.Component.{Component}
use Rattle.cif_inst_components.specs.declared.components.Components.{Components}
use Rattle.cif_inst_components.specs.declared.components.Place.{Place}
use Rattle.cif_inst_components.specs.declared.error.ComponentsErr.{ComponentsErr}
use Rattle.cif_inst_components.specs.declared.error.ComponentsErr.TheVariants.{TooManyObjects, Memory}

-- the component is number k
abbrev pub IsNumber : Source → ℕ → source.Component → Type 0
IsNumber t k c = slice_get (components_of t) k ≡ Some c

-- the name under which it stands in another component; only the specification stands in none
abbrev pub StandsAt : Source → source.Component → Option Place → Type 0
StandsAt t (whole is) o = o ≡ None
StandsAt t (part p n b) o = (q : Place) × (o ≡ Some q) × IsNumber t q.component p × IsEntry p (inner n b) q.slot
StandsAt t (blank p n ps b) o = ⊥
StandsAt t (copy p n ps b g i) o = (q : Place) × (o ≡ Some q) × IsNumber t q.component g × IsEntry g (instance i) q.slot

pub record IsComponent (t : Source) (c : source.Component) (r : Component) : Type 0 where
  pub body : IsBody t r.body (as_written c)
  pub stands : StandsAt t c r.stands

-- the number of the component in which its body is written
abbrev pub IsOuter : Source → source.Component → Option ℕ → Type 0
IsOuter t (whole is) o = o ≡ None
IsOuter t (part p n b) o = (k : ℕ) × (o ≡ Some k) × IsNumber t k p
IsOuter t (blank p n ps b) o = (k : ℕ) × (o ≡ Some k) × IsNumber t k p
IsOuter t (copy p n ps b g i) o = (k : ℕ) × (o ≡ Some k) × IsNumber t k p

abbrev pub stands_of : Component → Option Place
stands_of c = c.stands

-- all components of a source, in their order
pub record AreComponentsOf (t : Source) (s : Components) : Type 0 where
  pub few : length (components_of t) ≤ most_objects
  pub all : Beside (IsComponent t) (components_of t) s.all
  pub outers : Beside (IsOuter t) (components_of t) s.outers
  pub children : s.children ≡ filter_map stands_of s.all

-- what a name finds, by numbers
abbrev pub Finds : Source → Reached → Option Place → Type 0
Finds t (reached (c, e)) (Some p) = IsNumber t p.component c × IsEntry c e p.slot
Finds t (reached (c, e)) None = ⊥
Finds t missing (Some p) = ⊥
Finds t missing None = Unit {0}
Finds t blocked (Some p) = ⊥
Finds t blocked None = Unit {0}

-- the rule of the refusal is broken, with its fields
abbrev pub due : Source → ComponentsErr → Type 0
due t (TooManyObjects count) = TooManyObjectsDue t count
due t Memory = Unit {0}
