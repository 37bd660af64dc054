-- Helper of the code: the equations of a body by the names that they define: the first value for each name.
use Rattle.std.specs.Prelude.{List, [], ◌∷◌, map, Option, Some, None, if◌then◌else◌}
use Rattle.std.specs.Map.{lookup}
use Rattle.cif_ast.specs.Tree.{Tree}
use Rattle.cif_ast.specs.View.{view}
use Rattle.cif_source.specs.Source.{Text, EquationTree, LocationTree, DeclTree, type_decl, enum_decl, event_decl, const_decl, alg_decl, input_decl, disc_decl, equation_decl, invariant_decl, marked_decl, SourceItem, decl_item, component_item, definition_item, instance_item, SourceBody, group_body, automaton_body, Source, no_source, source}
use Rattle.cif_source.specs.Components.{same_text}
use Rattle.cif_inst.specs.declared.equations.Equations.{Equations}

-- names with their values
abbrev pub Values : Type 0
Values = List (Text × Tree)

abbrev pub values_in : Equations → Values
values_in q = map (λ e. (e.0.items, view e.1.now)) q.firsts.entries

abbrev pub value_for : Text → Values → Option Tree
value_for x es = lookup (λ y. same_text x y) es

-- the values, with that for x
abbrev pub with_value : Values → Text → Tree → Values
with_value [] x v = (x, v) ∷ []
with_value (e ∷ es) x v = if same_text x e.0 then (e.0, v) ∷ es else e ∷ with_value es x v

-- with one for x, unless there is one
abbrev pub with_first : Values → Text → Tree → Values
with_first es x v = elim (value_for x es) [ None ↦ with_value es x v | Some w ↦ es ]

-- the one, or else the other
abbrev pub or_else : Option Tree → Option Tree → Option Tree
or_else None o = o
or_else (Some e) o = Some e

-- ---- of a component

abbrev pub decl_added : Values → DeclTree → Values
decl_added es (equation_decl q) = with_first es q.name.text q.value
decl_added es (type_decl n ty) = es
decl_added es (enum_decl n ls) = es
decl_added es (event_decl k h n) = es
decl_added es (const_decl ty n e) = es
decl_added es (alg_decl ty n e) = es
decl_added es (input_decl ty n) = es
decl_added es (disc_decl ty n e) = es
decl_added es (invariant_decl i) = es
decl_added es (marked_decl p) = es

abbrev pub decls_added : Values → List DeclTree → Values
decls_added es [] = es
decls_added es (d ∷ ds) = decls_added (decl_added es d) ds

abbrev pub item_added : Values → SourceItem → Values
item_added es (decl_item d) = decl_added es d
item_added es (component_item n b) = es
item_added es (definition_item n ps b) = es
item_added es (instance_item i) = es

abbrev pub items_added : Values → Source → Values
items_added es no_source = es
items_added es (source i is) = items_added (item_added es i) is

abbrev pub body_added : SourceBody → Values
body_added (group_body is) = items_added [] is
body_added (automaton_body a) = decls_added [] a.decls

-- ---- of a location

abbrev pub equations_added : Values → List EquationTree → Values
equations_added es [] = es
equations_added es (q ∷ qs) = equations_added (with_first es q.name.text q.value) qs

abbrev pub location_added : LocationTree → Values
location_added l = equations_added [] l.equations
