-- The graphs of small sources, by computing.
use Rattle.std.proofs.Common.{◌≡◌, ℕ, [], ◌∷◌, List, Option, Some, None, refl}
use Rattle.std.specs.Prelude.{codes, map, pos, false, length}
use Rattle.cif_ast.specs.Tree.{Tree, node, number, named}
use Rattle.cif_source.specs.Source.{Text, int_type, range_type, named_type, type_decl, const_decl, SourceItem, decl_item, component_item, definition_item, instance_item, group_body, Source}
use Rattle.cif_source.proofs.Terms.{word, single, dotted, instance_named, source_list}
use Rattle.cif_scope.specs.declared.table.Table.{Table}
use Rattle.cif_scope.specs.declared.scopes.Scopes.{Scopes}
use Rattle.cif_scope.specs.Drafts.{scopes_of}
use Rattle.cif_scope.specs.Looks.{texts_of}
use Rattle.cif_scope.specs.Written.{written_bodies, definitions_from}
use Rattle.cif_resolve_cycles.specs.Bodies.{body_graph, definition_places, nearest}
use Rattle.cif_resolve_cycles.specs.Names.{name_graph, place_of}

abbrev definition_of : (name : Text) (at : ℕ) → List SourceItem → SourceItem
definition_of name at is = definition_item (word name at) [] (group_body (source_list is))

abbrev instance_of : (name : Text) (at : ℕ) (of : Text) (of_at : ℕ) → SourceItem
instance_of name at of of_at = instance_item (instance_named (word name at) (single (word of of_at)) [])

abbrev value_of : Text → ℕ → Tree
value_of name at = node (named (single (word name at))) at

abbrev numbered : (t : Source) → Table → Scopes
numbered t table = record { table = table; definitions = definitions_from table 0 (written_bodies t) }

-- the place that is told of a body
abbrev told : Source → Table → ℕ → Option ℕ
told t table k = nearest table (definition_places t) (length table.scopes) k

-- ---- a definition in itself

-- group def D(): x: D(); end
abbrev own : Source
own = source_list (definition_of (codes "D") 10 (instance_of (codes "x") 15 (codes "D") 18 ∷ []) ∷ [])

abbrev own_table : Table
own_table = record { scopes = scopes_of own; names = map texts_of (scopes_of own); few = refl }

d_needs_itself : body_graph (numbered own own_table) ≡ [] ∷ (1 ∷ []) ∷ []
d_needs_itself = refl

d_is_told : told own own_table 1 ≡ Some 10
d_is_told = refl

-- ---- by a component

-- group def D(): group g: x: D(); end end
abbrev nested : Source
nested = source_list (definition_of (codes "D") 10 (component_item (word (codes "g") 21) (group_body (source_list (instance_of (codes "x") 24 (codes "D") 27 ∷ []))) ∷ []) ∷ [])

abbrev nested_table : Table
nested_table = record { scopes = scopes_of nested; names = map texts_of (scopes_of nested); few = refl }

d_needs_itself_by_g : body_graph (numbered nested nested_table) ≡ [] ∷ (2 ∷ []) ∷ (1 ∷ []) ∷ []
d_needs_itself_by_g = refl

-- whichever of the two is found, D is told
d_is_told_of_g : told nested nested_table 2 ≡ Some 10
d_is_told_of_g = refl

d_is_told_of_d : told nested nested_table 1 ≡ Some 10
d_is_told_of_d = refl

-- ---- by another definition

-- group def D(): x: E(); end group def E(): x: D(); end
abbrev two : Source
two = source_list (definition_of (codes "D") 10 (instance_of (codes "x") 15 (codes "E") 18 ∷ []) ∷ definition_of (codes "E") 37 (instance_of (codes "x") 42 (codes "D") 45 ∷ []) ∷ [])

abbrev two_table : Table
two_table = record { scopes = scopes_of two; names = map texts_of (scopes_of two); few = refl }

d_and_e_need_each_other : body_graph (numbered two two_table) ≡ [] ∷ (2 ∷ []) ∷ (1 ∷ []) ∷ []
d_and_e_need_each_other = refl

-- ---- no cycles

-- a definition doesn't need what a definition in it does
-- group def D(): group def E(): x: D(); end end
abbrev within : Source
within = source_list (definition_of (codes "D") 10 (definition_of (codes "E") 25 (instance_of (codes "x") 30 (codes "D") 33 ∷ []) ∷ []) ∷ [])

abbrev within_table : Table
within_table = record { scopes = scopes_of within; names = map texts_of (scopes_of within); few = refl }

only_e_needs_d : body_graph (numbered within within_table) ≡ [] ∷ [] ∷ (1 ∷ []) ∷ []
only_e_needs_d = refl

-- group def A(): x: B(); end group def B(): x: C(); end group def C(): end
abbrev in_a_row : Source
in_a_row = source_list (definition_of (codes "A") 10 (instance_of (codes "x") 15 (codes "B") 18 ∷ []) ∷ definition_of (codes "B") 37 (instance_of (codes "x") 42 (codes "C") 45 ∷ []) ∷ definition_of (codes "C") 64 [] ∷ [])

abbrev row_table : Table
row_table = record { scopes = scopes_of in_a_row; names = map texts_of (scopes_of in_a_row); few = refl }

a_needs_b_and_b_needs_c : body_graph (numbered in_a_row row_table) ≡ [] ∷ (2 ∷ []) ∷ (3 ∷ []) ∷ [] ∷ []
a_needs_b_and_b_needs_c = refl

-- ---- constants and types

-- const int a = b; const int b = a;
abbrev constants : Source
constants = source_list (decl_item (const_decl int_type (word (codes "a") 10) (value_of (codes "b") 14)) ∷ decl_item (const_decl int_type (word (codes "b") 27) (value_of (codes "a") 31)) ∷ [])

abbrev constants_table : Table
constants_table = record { scopes = scopes_of constants; names = map texts_of (scopes_of constants); few = refl }

a_and_b_need_each_other : name_graph (numbered constants constants_table) (written_bodies constants) ≡ (1 ∷ []) ∷ (0 ∷ []) ∷ []
a_and_b_need_each_other = refl

b_stands_there : place_of constants_table.scopes 1 ≡ Some 27
b_stands_there = refl

-- a type and a constant, through an instance
-- type t = int[0..x.k]; group def D(): const t k = 1; end x: D();
abbrev through : Source
through = source_list (decl_item (type_decl (word (codes "t") 5) (range_type (node (number (pos 0)) 13) (node (named (dotted false (word (codes "x") 16 ∷ word (codes "k") 18 ∷ []) 16)) 16)))
    ∷ definition_of (codes "D") 32 (decl_item (const_decl (named_type (single (word (codes "t") 43))) (word (codes "k") 45) (node (number (pos 1)) 49)) ∷ [])
    ∷ instance_of (codes "x") 56 (codes "D") 59 ∷ [])

abbrev through_table : Table
through_table = record { scopes = scopes_of through; names = map texts_of (scopes_of through); few = refl }

-- t, D and x are 0 to 2, and k is 3
t_and_k_need_each_other : name_graph (numbered through through_table) (written_bodies through) ≡ (3 ∷ []) ∷ [] ∷ [] ∷ (0 ∷ []) ∷ []
t_and_k_need_each_other = refl

k_stands_there : place_of through_table.scopes 3 ≡ Some 45
k_stands_there = refl
