-- The scopes of a source by numbers: bodies in text order, the specification first, and the names of each in text order.
use Rattle.std.specs.Prelude.{ℕ, ◌+◌, List, [], ◌∷◌, ◌++◌, map, flat_map, length, Option, Some, None}
use Rattle.cif_ast.specs.declared.names.Ident.{Ident}
use Rattle.cif_source.specs.Source.{DeclTree, type_decl, enum_decl, event_decl, const_decl, alg_decl, input_decl, disc_decl, equation_decl, invariant_decl, marked_decl, ParamTree, event_param, alg_param, location_param, LocationTree, AutomatonTree, SourceItem, decl_item, component_item, definition_item, instance_item, SourceBody, group_body, automaton_body, Source, no_source, source}
use Rattle.cif_scope.specs.declared.scope.Sort.TheVariants as sort
use Rattle.cif_scope.specs.declared.scope.ParamSort.TheVariants as param
use Rattle.cif_scope.specs.declared.scope.What.{What}
use Rattle.cif_scope.specs.declared.scope.What.TheVariants as what
use Rattle.cif_scope.specs.declared.scope.ScopeName.{ScopeName}
use Rattle.cif_scope.specs.declared.scope.Scope.{Scope}

abbrev pub named : Ident → What → ScopeName
named n w = record { name = n; what = w }

-- ---- names of declarations, locations and parameters

-- literals from the one at a place on
abbrev pub literal_names : ℕ → List Ident → List ScopeName
literal_names k [] = []
literal_names k (l ∷ ls) = named l (what.Literal k) ∷ literal_names (k + 1) ls

abbrev pub decl_names : DeclTree → List ScopeName
decl_names (type_decl n ty) = named n (what.Declared sort.Type) ∷ []
decl_names (enum_decl n ls) = named n (what.Declared sort.Enum) ∷ literal_names 0 ls
decl_names (event_decl k h n) = named n (what.Declared (sort.Event k)) ∷ []
decl_names (const_decl ty n e) = named n (what.Declared sort.Constant) ∷ []
decl_names (alg_decl ty n e) = named n (what.Declared sort.Algebraic) ∷ []
decl_names (input_decl ty n) = named n (what.Declared sort.Input) ∷ []
decl_names (disc_decl ty n e) = named n (what.Declared sort.Discrete) ∷ []
decl_names (equation_decl q) = []
decl_names (invariant_decl i) = []
decl_names (marked_decl p) = []

abbrev pub location_name : ℕ → Option Ident → List ScopeName
location_name k None = []
location_name k (Some n) = named n (what.Location k) ∷ []

-- locations from the one at a place on
abbrev pub location_names : ℕ → List LocationTree → List ScopeName
location_names k [] = []
location_names k (l ∷ ls) = location_name k l.name ++ location_names (k + 1) ls

abbrev pub automaton_names : AutomatonTree → List ScopeName
automaton_names a = flat_map decl_names a.decls ++ location_names 0 a.locs

abbrev pub param_name : ParamTree → ScopeName
param_name (event_param k h n) = named n (what.Parameter param.Event)
param_name (alg_param ty n) = named n (what.Parameter param.Algebraic)
param_name (location_param n) = named n (what.Parameter param.Location)

abbrev pub param_names : List ParamTree → List ScopeName
param_names ps = map param_name ps

-- ---- names of items

-- the bodies in it, those of definitions too
abbrev mutual
  pub count_in : Source → ℕ
  count_in no_source = 0
  count_in (source i is) = count_at i + count_in is

  pub count_at : SourceItem → ℕ
  count_at (decl_item d) = 0
  count_at (component_item n b) = 1 + count_under b
  count_at (definition_item n ps b) = 1 + count_under b
  count_at (instance_item i) = 0

  pub count_under : SourceBody → ℕ
  count_under (group_body is) = count_in is
  count_under (automaton_body a) = 0

-- the number of the next instance of the body
abbrev pub next_instance : ℕ → SourceItem → ℕ
next_instance r (decl_item d) = r
next_instance r (component_item n b) = r
next_instance r (definition_item n ps b) = r
next_instance r (instance_item i) = r + 1

-- k is the number of the next body, and r that of the next instance of this one
abbrev pub item_names : (k r : ℕ) → SourceItem → List ScopeName
item_names k r (decl_item d) = decl_names d
item_names k r (component_item n b) = named n (what.Component k) ∷ []
item_names k r (definition_item n ps b) = named n (what.Definition k (length ps)) ∷ []
item_names k r (instance_item i) = named i.name (what.Instance r) ∷ []

abbrev pub names_in : (k r : ℕ) → Source → List ScopeName
names_in k r no_source = []
names_in k r (source i is) = item_names k r i ++ names_in (k + count_at i) (next_instance r i) is

-- ---- scopes

abbrev pub scope : Option ℕ → List ScopeName → Scope
scope outer names = record { outer = outer; names = names }

-- of the bodies in the items of body o, of which the first is body k
abbrev mutual
  pub scopes_in : (o k : ℕ) → Source → List Scope
  scopes_in o k no_source = []
  scopes_in o k (source i is) = scopes_at o k i ++ scopes_in o (k + count_at i) is

  pub scopes_at : (o k : ℕ) → SourceItem → List Scope
  scopes_at o k (decl_item d) = []
  scopes_at o k (component_item n b) = scopes_from (Some o) k [] b
  scopes_at o k (definition_item n ps b) = scopes_from (Some o) k ps b
  scopes_at o k (instance_item i) = []

  -- a body and those in it
  pub scopes_from : Option ℕ → ℕ → List ParamTree → SourceBody → List Scope
  scopes_from o k ps (group_body is) = scope o (param_names ps ++ names_in (k + 1) 0 is) ∷ scopes_in k (k + 1) is
  scopes_from o k ps (automaton_body a) = scope o (param_names ps ++ automaton_names a) ∷ []

-- the scopes of all bodies
abbrev pub scopes_of : Source → List Scope
scopes_of t = scopes_from None 0 [] (group_body t)
