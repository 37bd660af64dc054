-- Helper of the code: the graph of bodies by numbers: a body needs the components in it and the definitions of its instances, and not the
-- definitions in it.
use Rattle.std.specs.Prelude.{ℕ, zero, suc, List, [], ◌∷◌, ◌++◌, length, slice_get, Option, None, Some}
use Rattle.std.specs.Option.{option_to_list}
use Rattle.cif_source.specs.Source.{ParamTree, SourceItem, decl_item, component_item, definition_item, instance_item, SourceBody, group_body, automaton_body, Source, no_source, source}
use Rattle.cif_scope.specs.declared.scope.What.{What}
use Rattle.cif_scope.specs.declared.scope.What.TheVariants as what
use Rattle.cif_scope.specs.declared.table.Table.{Table}
use Rattle.cif_scope.specs.declared.scopes.Scopes.{Scopes}
use Rattle.cif_scope.specs.Looks.{what_at, names_at, outer_at, definition_at}

-- the body that a name of body k needs
abbrev pub need_of : Scopes → ℕ → Option What → Option ℕ
need_of s k None = None
need_of s k (Some (what.Component j)) = Some j
need_of s k (Some (what.Instance r)) = definition_at s.definitions k r
need_of s k (Some (what.Declared d)) = None
need_of s k (Some (what.Literal j)) = None
need_of s k (Some (what.Location j)) = None
need_of s k (Some (what.Definition j n)) = None
need_of s k (Some (what.Parameter p)) = None

-- those of its first n names
abbrev pub needs_to : Scopes → (k n : ℕ) → List ℕ
needs_to s k zero = []
needs_to s k (suc n) = needs_to s k n ++ option_to_list (need_of s k (what_at s.table k n))

abbrev pub body_needs : Scopes → ℕ → List ℕ
body_needs s k = needs_to s k (length (names_at s.table k))

-- of the first n bodies
abbrev pub graph_to : Scopes → ℕ → List (List ℕ)
graph_to s zero = []
graph_to s (suc n) = graph_to s n ++ body_needs s n ∷ []

abbrev pub body_graph : Scopes → List (List ℕ)
body_graph s = graph_to s (length s.table.scopes)

-- ---- where the names of definitions stand

-- for each body in it where the name of its definition stands, which a component doesn't have
abbrev mutual
  pub places_in : Source → List (Option ℕ)
  places_in no_source = []
  places_in (source i is) = places_at i ++ places_in is

  pub places_at : SourceItem → List (Option ℕ)
  places_at (decl_item d) = []
  places_at (component_item n b) = None ∷ places_under b
  places_at (definition_item n ps b) = Some n.at ∷ places_under b
  places_at (instance_item i) = []

  pub places_under : SourceBody → List (Option ℕ)
  places_under (group_body is) = places_in is
  places_under (automaton_body a) = []

-- for each body
abbrev pub definition_places : Source → List (Option ℕ)
definition_places t = None ∷ places_in t

abbrev pub place_at : List (Option ℕ) → ℕ → Option ℕ
place_at places k = elim (slice_get places k) [ None ↦ None | Some p ↦ p ]

abbrev pub or_further : Option ℕ → Option ℕ → Option ℕ
or_further None o = o
or_further (Some p) o = Some p

abbrev pub from_outer : (ℕ → Option ℕ) → Option ℕ → Option ℕ
from_outer go None = None
from_outer go (Some j) = go j

-- that of the nearest definition outward from body k, through so many bodies at most
abbrev pub nearest : Table → List (Option ℕ) → (fuel k : ℕ) → Option ℕ
nearest tb places zero k = None
nearest tb places (suc n) k = or_further (place_at places k) (from_outer (λ j. nearest tb places n j) (outer_at tb k))
