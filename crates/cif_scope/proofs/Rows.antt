-- Scopes by numbers, and what names find in them, by computing.
use Rattle.std.proofs.Common.{◌≡◌, ℕ, [], ◌∷◌, List, Option, Some, None, refl}
use Rattle.std.specs.Prelude.{codes, map, pos, true, false}
use Rattle.cif_ast.specs.Tree.{node, number}
use Rattle.cif_ast.specs.declared.names.Name.{Name}
use Rattle.cif_source.specs.Source.{int_type, const_decl, alg_param, decl_item, component_item, definition_item, instance_item, group_body, Source}
use Rattle.cif_source.proofs.Terms.{word, single, dotted, instance_named, source_list}
use Rattle.cif_scope.specs.declared.looked.Slot.{Slot}
use Rattle.cif_scope.specs.declared.table.Table.{Table}
use Rattle.cif_scope.specs.declared.scopes.Found.{Found}
use Rattle.cif_scope.specs.Drafts.{scopes_of}
use Rattle.cif_scope.specs.Looks.{Definitions, texts_of, find}
use Rattle.cif_scope.specs.Written.{written_bodies, definitions_from}

-- const int k = 1; group g: const int k = 2; group h: const int m = 3; end end x: D(4); group def D(alg int p): const int q = 5; end
abbrev nested : Source
nested = source_list (decl_item (const_decl int_type (word (codes "k") 10) (node (number (pos 1)) 14))
    ∷ component_item (word (codes "g") 23) (group_body (source_list (decl_item (const_decl int_type (word (codes "k") 36) (node (number (pos 2)) 40))
    ∷ component_item (word (codes "h") 49) (group_body (source_list (decl_item (const_decl int_type (word (codes "m") 62) (node (number (pos 3)) 66)) ∷ []))) ∷ [])))
    ∷ instance_item (instance_named (word (codes "x") 77) (single (word (codes "D") 80)) (node (number (pos 4)) 82 ∷ []))
    ∷ definition_item (word (codes "D") 96) (alg_param int_type (word (codes "p") 106) ∷ []) (group_body (source_list (decl_item (const_decl int_type (word (codes "q") 120) (node (number (pos 5)) 124)) ∷ [])))
    ∷ [])

abbrev table : Table
table = record { scopes = scopes_of nested; names = map texts_of (scopes_of nested); few = refl }

abbrev defs : Definitions
defs = definitions_from table 0 (written_bodies nested)

abbrev finds : ℕ → Name → Option Found
finds k nm = find table defs k nm

abbrev at : ℕ → ℕ → List Slot → Option Found
at k s through = Some (record { body = k; slot = s; through = through })

-- the specification is body 0, g 1, h 2 and D 3; the instance x has body 3
definition_of_x : defs ≡ (Some 3 ∷ []) ∷ [] ∷ [] ∷ [] ∷ []
definition_of_x = refl

-- the nearest scope outward decides
nearest_k : finds 2 (single (word (codes "k") 0)) ≡ at 1 0 []
nearest_k = refl

-- with a dot before it, a name is looked up at the specification
rooted_k : finds 2 (dotted true (word (codes "k") 1 ∷ []) 0) ≡ at 0 0 []
rooted_k = refl

-- a further part isn't looked up outward
dotted_k : finds 0 (dotted false (word (codes "g") 0 ∷ word (codes "h") 2 ∷ word (codes "k") 4 ∷ []) 0) ≡ None
dotted_k = refl

through_x : finds 2 (dotted false (word (codes "x") 0 ∷ word (codes "q") 2 ∷ []) 0) ≡ at 3 1 (record { body = 0; slot = 2 } ∷ [])
through_x = refl

-- a parameter isn't found behind a dot, but in its own body
parameter_behind_a_dot : finds 0 (dotted false (word (codes "x") 0 ∷ word (codes "p") 2 ∷ []) 0) ≡ None
parameter_behind_a_dot = refl

own_parameter : finds 3 (single (word (codes "p") 0)) ≡ at 3 0 []
own_parameter = refl
