-- Looking names up in components by numbers.
use Rattle.std.specs.Prelude.{ℕ, zero, suc, Bool, nat_le, List, [], ◌∷◌, length, Option, Some, None, option_map, slice_get, if◌then◌else◌}
use Rattle.cif_ast.specs.declared.names.Ident.{Ident}
use Rattle.cif_ast.specs.declared.names.Name.{Name}
use Rattle.cif_source.specs.Source.{Text}
use Rattle.cif_source.specs.Objects.{most_objects}
use Rattle.cif_scope.specs.Looks as looks
use Rattle.cif_scope.specs.declared.scope.What.{What}
use Rattle.cif_scope.specs.declared.scope.What.TheVariants as what
use Rattle.cif_scope.specs.declared.scopes.Scopes.{Scopes}
use Rattle.cif_inst_components.specs.declared.components.Component.{Component}
use Rattle.cif_inst_components.specs.declared.components.Place.{Place}
use Rattle.cif_inst_components.specs.declared.finding.Finder as code
use Rattle.cif_inst_components.specs.Children.{place_in}
use Rattle.cif_inst_components.specs.Listing.{place}

-- what names are looked up in
pub record Finder : Type 0 where
  pub scopes : Scopes
  pub all : List Component
  pub outers : List (Option ℕ)
  pub children : List Place

abbrev pub finder : code.Finder → Finder
finder f = record { scopes = f.scopes.now; all = f.all.now; outers = f.outers.now; children = f.children.now }

-- what follows where there is something
abbrev pub and_then : {A B : Type 0} → Option A → (A → Option B) → Option B
and_then None f = None
and_then (Some x) f = f x

abbrev pub body_at : List Component → ℕ → Option ℕ
body_at all k = option_map (λ (c : Component). c.body) (slice_get all k)

-- where the component stands, by the number of that component
abbrev pub stands_at : List Component → ℕ → Option ℕ
stands_at all k = and_then (slice_get all k) (λ (c : Component). option_map (λ (p : Place). p.component) c.stands)

abbrev pub known_or : Option (Option ℕ) → Option ℕ → Option ℕ
known_or None o = o
known_or (Some x) o = x

-- the outer component where that is known, and else where it stands
abbrev pub outer_at : List Component → List (Option ℕ) → ℕ → Option ℕ
outer_at all outers k = known_or (slice_get outers k) (stands_at all k)

-- the component that stands at a place
abbrev pub child_at : List Place → Place → Option ℕ
child_at children p = option_map suc (place_in children p)

-- the number of a component, of which there are no more than objects
abbrev pub numbered : ℕ → Option ℕ
numbered k = if nat_le k most_objects then Some k else None

abbrev pub child_of : List Place → Place → Option ℕ
child_of children p = and_then (child_at children p) numbered

abbrev pub slot_at : Scopes → List Component → ℕ → Text → Option ℕ
slot_at s all k x = and_then (body_at all k) (λ b. looks.slot_at s.table b x)

abbrev pub what_at : Scopes → List Component → Place → Option What
what_at s all p = and_then (body_at all p.component) (λ b. looks.what_at s.table b p.slot)

module _ (f : Finder) where
  abbrev pub here_or : ℕ → Option ℕ → Option Place → Option Place
  here_or k None rest = rest
  here_or k (Some s) rest = Some (place k s)

  -- outward from component k, through so many at most
  abbrev pub look_out : (fuel k : ℕ) → Text → Option Place
  look_out zero k x = None
  look_out (suc n) k x = here_or k (slot_at f.scopes f.all k x) (and_then (outer_at f.all f.outers k) (λ j. look_out n j x))

  abbrev pub unless_parameter : Place → Option What → Option Place
  unless_parameter p None = None
  unless_parameter p (Some (what.Parameter q)) = None
  unless_parameter p (Some (what.Declared d)) = Some p
  unless_parameter p (Some (what.Literal j)) = Some p
  unless_parameter p (Some (what.Location j)) = Some p
  unless_parameter p (Some (what.Component j)) = Some p
  unless_parameter p (Some (what.Definition j n)) = Some p
  unless_parameter p (Some (what.Instance j)) = Some p

  -- in component k, parameters excluded
  abbrev pub look_inside : ℕ → Text → Option Place
  look_inside k x = and_then (slot_at f.scopes f.all k x) (λ s. unless_parameter (place k s) (what_at f.scopes f.all (place k s)))

  -- one further part of a name, from what is said of the part before it; instances are passed where that is asked for
  abbrev pub step_from : Bool → Place → Option What → Text → Option Place
  step_from pass p None x = None
  step_from pass p (Some (what.Component j)) x = and_then (child_of f.children p) (λ k. look_inside k x)
  step_from pass p (Some (what.Instance r)) x = if pass then and_then (child_of f.children p) (λ k. look_inside k x) else None
  step_from pass p (Some (what.Parameter q)) x = None
  step_from pass p (Some (what.Declared d)) x = None
  step_from pass p (Some (what.Literal j)) x = None
  step_from pass p (Some (what.Location j)) x = None
  step_from pass p (Some (what.Definition j n)) x = None

  abbrev pub step : Bool → Place → Text → Option Place
  step pass p x = step_from pass p (what_at f.scopes f.all p) x

  -- further parts
  abbrev pub steps : Bool → Place → List Ident → Option Place
  steps pass p [] = Some p
  steps pass p (q ∷ qs) = and_then (step pass p q.text) (λ y. steps pass y qs)

  abbrev pub first_part : Bool → ℕ → Text → Option Place
  first_part from_root k x =
      if from_root then option_map (place 0) (slot_at f.scopes f.all 0 x) else look_out (length f.scopes.table.scopes) k x

  -- a name in component k
  abbrev pub look : Bool → ℕ → Name → Option Place
  look pass k nm = elim nm.parts [ [] ↦ None | p ∷ ps ↦ and_then (first_part nm.from_root k p.text) (λ y. steps pass y ps) ]
