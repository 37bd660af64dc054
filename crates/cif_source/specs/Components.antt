-- The components of a specification, and what their scopes declare (CIF 3 language reference, "Groups", "Component
-- definition and instantiation", "Scoping").
use Rattle.std.specs.Prelude.{ℕ, Bool, nat_eq, List, [], ◌∷◌, ◌++◌, map, flat_map, filter_map, Option, Some, None, find, option_map}
use Rattle.std.specs.List.{enumerate_from}
use Rattle.std.specs.Cmp.Lexicographic.{pointwise}
use Rattle.cif_ast.specs.declared.names.Ident.{Ident}
use Rattle.cif_source.specs.Source.{Text, DeclTree, type_decl, enum_decl, event_decl, const_decl, alg_decl, input_decl, disc_decl, equation_decl, invariant_decl, marked_decl, ParamTree, event_param, alg_param, location_param, LocationTree, InstanceTree, SourceItem, decl_item, component_item, definition_item, instance_item, SourceBody, group_body, automaton_body, Source, list_of_items}

abbrev pub same_text : Text → Text → Bool
same_text = pointwise nat_eq

-- A component as it stands in its surroundings. Its first part is the outer component: the one in which its body is
-- written.
--     whole      the specification
--     part       a component that is written in the outer one
--     blank      a definition as written, its parameters standing for themselves
--     copy       an instance of such a definition: the component in which it stands gave the arguments
pub data Component : Type 0 where
  whole : Source → Component
  part : (outer : Component) → Ident → SourceBody → Component
  blank : (outer : Component) → Ident → List ParamTree → SourceBody → Component
  copy : (outer : Component) → Ident → List ParamTree → SourceBody → (giver : Component) → InstanceTree → Component

-- an instance, and the component in which it stands
abbrev pub StandingInstance : Type 0
StandingInstance = Component × InstanceTree

-- the specification that it belongs to
abbrev pub specification_of : Component → Source
specification_of (whole is) = is
specification_of (part o n b) = specification_of o
specification_of (blank o n ps b) = specification_of o
specification_of (copy o n ps b g i) = specification_of o

abbrev pub body_of : Component → SourceBody
body_of (whole is) = group_body is
body_of (part o n b) = b
body_of (blank o n ps b) = b
body_of (copy o n ps b g i) = b

abbrev pub params_of : Component → List ParamTree
params_of (whole is) = []
params_of (part o n b) = []
params_of (blank o n ps b) = ps
params_of (copy o n ps b g i) = ps

-- the component as written: an instance is written as its definition
abbrev pub as_written : Component → Component
as_written (whole is) = whole is
as_written (part o n b) = part (as_written o) n b
as_written (blank o n ps b) = blank (as_written o) n ps b
as_written (copy o n ps b g i) = blank (as_written o) n ps b

-- the name that stands before its body
abbrev pub written_name : Component → Option Ident
written_name (whole is) = None
written_name (part o n b) = Some n
written_name (blank o n ps b) = Some n
written_name (copy o n ps b g i) = Some n

-- the component in which it stands: for an instance the one that gave the arguments
abbrev pub stands_in : Component → Option Component
stands_in (whole is) = None
stands_in (part o n b) = Some o
stands_in (blank o n ps b) = Some o
stands_in (copy o n ps b g i) = Some g

-- a path of names from the specification
abbrev pub Path : Type 0
Path = List Text

abbrev pub same_path : Path → Path → Bool
same_path = pointwise same_text

abbrev pub path_of : Component → Path
path_of (whole is) = []
path_of (part o n b) = path_of o ++ n.text ∷ []
path_of (blank o n ps b) = path_of o ++ n.text ∷ []
path_of (copy o n ps b g i) = path_of g ++ i.name.text ∷ []

-- What a scope declares under a name: a declaration, the literal at a place among these literals, the location at a place, a
-- component, a definition, an instance, or the parameter at a place.
pub data Entry : Type 0 where
  declared : DeclTree → Entry
  literal : ℕ → List Ident → Entry
  location : ℕ → Entry
  inner : Ident → SourceBody → Entry
  definition : Ident → List ParamTree → SourceBody → Entry
  instance : InstanceTree → Entry
  parameter : ℕ → ParamTree → Entry

abbrev pub Entries : Type 0
Entries = List (Ident × Entry)

abbrev pub literal_entries : List Ident → Entries
literal_entries ls = map (λ x. (x.1, literal x.0 ls)) (enumerate_from 0 ls)

-- A declaration declares one name, and an enumeration its literals too; equations, invariants and marking predicates declare none.
abbrev pub decl_entries : DeclTree → Entries
decl_entries (type_decl n ty) = (n, declared (type_decl n ty)) ∷ []
decl_entries (enum_decl n ls) = (n, declared (enum_decl n ls)) ∷ literal_entries ls
decl_entries (event_decl k h n) = (n, declared (event_decl k h n)) ∷ []
decl_entries (const_decl ty n e) = (n, declared (const_decl ty n e)) ∷ []
decl_entries (alg_decl ty n e) = (n, declared (alg_decl ty n e)) ∷ []
decl_entries (input_decl ty n) = (n, declared (input_decl ty n)) ∷ []
decl_entries (disc_decl ty n e) = (n, declared (disc_decl ty n e)) ∷ []
decl_entries (equation_decl q) = []
decl_entries (invariant_decl i) = []
decl_entries (marked_decl p) = []

-- a location has a name or none
abbrev pub location_entry : ℕ × LocationTree → Option (Ident × Entry)
location_entry (k, l) = option_map (λ n. (n, location k)) l.name

abbrev pub item_entries : SourceItem → Entries
item_entries (decl_item d) = decl_entries d
item_entries (component_item n b) = (n, inner n b) ∷ []
item_entries (definition_item n ps b) = (n, definition n ps b) ∷ []
item_entries (instance_item i) = (i.name, instance i) ∷ []

abbrev pub body_entries : SourceBody → Entries
body_entries (group_body is) = flat_map item_entries (list_of_items is)
body_entries (automaton_body a) = flat_map decl_entries a.decls ++ filter_map location_entry (enumerate_from 0 a.locs)

abbrev pub param_name : ParamTree → Ident
param_name (event_param k h n) = n
param_name (alg_param ty n) = n
param_name (location_param n) = n

abbrev pub param_entries : List ParamTree → Entries
param_entries ps = map (λ x. (param_name x.1, parameter x.0 x.1)) (enumerate_from 0 ps)

-- all that a scope declares, in text order
abbrev pub scope_of : Component → Entries
scope_of c = param_entries (params_of c) ++ body_entries (body_of c)

-- what is declared under the name
abbrev pub entry_named : Text → Entries → Option Entry
entry_named x es = option_map (λ e. e.1) (find (λ e. same_text e.0.text x) es)
