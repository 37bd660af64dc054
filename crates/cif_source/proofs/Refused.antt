-- Sources that break the rules on scopes, at the places where they do.
use Rattle.std.proofs.Common.{lit<, [], ◌∷◌, inl, inr, refl}
use Rattle.cif_system.specs.Words.{one, more}
use Rattle.cif_source.specs.Scoping.{UnknownDue, DuplicateDue, WrongKindDue, DefinitionCycleDue}
use Rattle.std.specs.Prelude.{codes, pos, true, false, [], ◌∷◌, Some, None}
use Rattle.cif_ast.specs.Tree.{node, number, named, no_updates}
use Rattle.cif_ast.specs.declared.declarations.Class.TheVariants as class
use Rattle.cif_source.specs.Source.{bool_type, int_type, range_type, named_type, no_type, syncs, type_decl, enum_decl, event_decl, const_decl, alg_decl, disc_decl, equation_decl, event_param, alg_param, decl_item, component_item, definition_item, instance_item, group_body, automaton_body, Source}
use Rattle.cif_source.proofs.Terms.{word, single, dotted, event_use, edge_by, equation, place, behaviour, instance_named, source_list}
use Rattle.std.proofs.Common.{◌≡◌, map}
use Rattle.cif_ast.specs.declared.names.Ident.{Ident}
use Rattle.cif_source.specs.Components.{whole, Entry, scope_of}
use Rattle.cif_source.specs.Objects.{bodies}
use Rattle.cif_source.specs.Scoping.{instances_within}

-- ---- names that are declared nowhere

-- alg bool b = z;
abbrev unknown : Source
unknown = source_list (decl_item (alg_decl bool_type (word (codes "b") 9) (Some (node (named (single (word (codes "z") 13))) 13)))
    ∷ [])

z_is_declared_nowhere : UnknownDue unknown 13
z_is_declared_nowhere = (0, _, lit< tt, refl, inl (0, _, lit< tt, refl, (refl, refl)))

-- automaton a: event e; location: initial; edge e goto q; end
abbrev unknown_target : Source
unknown_target = source_list (component_item (word (codes "a") 10) (automaton_body (behaviour (event_decl class.Plain no_type (word (codes "e") 19) ∷ []) None None
    (place None true [] [] (edge_by (event_use (single (word (codes "e") 46)) syncs ∷ []) [] no_updates (Some (word (codes "q") 53))
    ∷ [])
    ∷ [])))
    ∷ [])

q_is_no_location : UnknownDue unknown_target 53
q_is_no_location = (1, _, lit< tt, refl, inr (0, _, lit< tt, refl, (refl, refl)))

-- a target is looked up in its automaton alone
-- event q; automaton a: location: initial; edge q goto q; end
abbrev target_outside : Source
target_outside = source_list (decl_item (event_decl class.Plain no_type (word (codes "q") 6))
    ∷ component_item (word (codes "a") 19) (automaton_body (behaviour [] None None
    (place None true [] [] (edge_by (event_use (single (word (codes "q") 46)) syncs ∷ []) [] no_updates (Some (word (codes "q") 53))
    ∷ [])
    ∷ [])))
    ∷ [])

q_is_not_in_a : UnknownDue target_outside 53
q_is_not_in_a = (1, _, lit< tt, refl, inr (0, _, lit< tt, refl, (refl, refl)))

-- ---- names that are declared twice

-- event e; event e;
abbrev duplicate : Source
duplicate = source_list (decl_item (event_decl class.Plain no_type (word (codes "e") 6))
    ∷ decl_item (event_decl class.Plain no_type (word (codes "e") 15))
    ∷ [])

e_is_declared_twice : DuplicateDue duplicate 15 6
e_is_declared_twice = (0, _, lit< tt, refl, record { earlier = _; later = _; order = inl (refl, inl refl); same = refl; first_at = refl; later_at = refl })

-- ---- names of another sort

-- event e; alg bool b = e;
abbrev event_as_value : Source
event_as_value = source_list (decl_item (event_decl class.Plain no_type (word (codes "e") 6))
    ∷ decl_item (alg_decl bool_type (word (codes "b") 18) (Some (node (named (single (word (codes "e") 22))) 22)))
    ∷ [])

e_is_no_value : WrongKindDue event_as_value 22
e_is_no_value = (0, _, lit< tt, refl, inl (0, _, lit< tt, refl, (refl, refl)))

-- event e; alg bool b = e.x;
abbrev part_of_event : Source
part_of_event = source_list (decl_item (event_decl class.Plain no_type (word (codes "e") 6))
    ∷ decl_item (alg_decl bool_type (word (codes "b") 18) (Some (node (named (dotted false (word (codes "e") 22 ∷ word (codes "x") 24 ∷ []) 22)) 22)))
    ∷ [])

e_has_no_parts : WrongKindDue part_of_event 22
e_has_no_parts = (0, _, lit< tt, refl, inl (0, _, lit< tt, refl, (refl, refl)))

-- automaton a: disc int x; equation x = 1; location: initial; end
abbrev equation_of_variable : Source
equation_of_variable = source_list (component_item (word (codes "a") 10) (automaton_body (behaviour (disc_decl int_type (word (codes "x") 22) None ∷ equation_decl (equation (word (codes "x") 34) (node (number (pos 1)) 38)) ∷ []) None None
    (place None true [] [] []
    ∷ [])))
    ∷ [])

x_has_no_equation : WrongKindDue equation_of_variable 34
x_has_no_equation = (1, _, lit< tt, refl, inr (inl (0, _, lit< tt, refl, (refl, refl))))

-- x: D(1, 2); group def D(alg int a): end
abbrev two_arguments : Source
two_arguments = source_list (instance_item (instance_named (word (codes "x") 0) (single (word (codes "D") 3)) (node (number (pos 1)) 5 ∷ node (number (pos 2)) 8 ∷ []))
    ∷ definition_item (word (codes "D") 22) (alg_param int_type (word (codes "a") 32) ∷ []) (group_body (source_list []))
    ∷ [])

x_has_two_arguments : WrongKindDue two_arguments 0
x_has_two_arguments = (0, _, lit< tt, refl, inr (inr (0, _, lit< tt, refl, (refl, refl))))

-- ---- definitions, types and constants that reach themselves

-- group def D(): x: D(); end
abbrev definition_in_itself : Source
definition_in_itself = source_list (definition_item (word (codes "D") 10) [] (group_body (source_list (instance_item (instance_named (word (codes "x") 15) (single (word (codes "D") 18)) []) ∷ [])))
    ∷ [])

d_reaches_itself : DefinitionCycleDue definition_in_itself 10
d_reaches_itself = (0, _, lit< tt, refl, (0, _, lit< tt, refl, (refl, inl (one (0, _, lit< tt, refl, refl)))))

-- type T = U, U = int[0..k]; const T k = 1;
abbrev types_in_one_another : Source
types_in_one_another = source_list (decl_item (type_decl (word (codes "T") 5) (named_type (single (word (codes "U") 9))))
    ∷ decl_item (type_decl (word (codes "U") 12) (range_type (node (number (pos 0)) 20) (node (named (single (word (codes "k") 23))) 23)))
    ∷ decl_item (const_decl (named_type (single (word (codes "T") 33))) (word (codes "k") 35) (node (number (pos 1)) 39))
    ∷ [])

t_reaches_itself : DefinitionCycleDue types_in_one_another 5
t_reaches_itself = (0, _, lit< tt, refl, (0, _, lit< tt, refl, (refl, inr (more (0, _, lit< tt, refl, refl) (more (0, _, lit< tt, refl, refl) (one (0, _, lit< tt, refl, refl)))))))

-- ---- what definitions, types and constants reach

-- the instances of components within count
-- group def D(): group g: x: E(); end end group def E(): y: D(); end
abbrev cycle_within : Source
cycle_within = source_list (definition_item (word (codes "D") 10) [] (group_body (source_list (component_item (word (codes "g") 21) (group_body (source_list (instance_item (instance_named (word (codes "x") 24) (single (word (codes "E") 27)) []) ∷ []))) ∷ [])))
    ∷ definition_item (word (codes "E") 50) [] (group_body (source_list (instance_item (instance_named (word (codes "y") 55) (single (word (codes "D") 58)) []) ∷ [])))
    ∷ [])

d_reaches_itself_by_e : DefinitionCycleDue cycle_within 10
d_reaches_itself_by_e = (0, _, lit< tt, refl, (0, _, lit< tt, refl, (refl, inl (more (0, _, lit< tt, refl, refl) (one (0, _, lit< tt, refl, refl))))))

-- those of definitions within do not
-- group def D(): group def E(): x: D(); end end
abbrev no_cycle : Source
no_cycle = source_list (definition_item (word (codes "D") 10) [] (group_body (source_list (definition_item (word (codes "E") 25) [] (group_body (source_list (instance_item (instance_named (word (codes "x") 30) (single (word (codes "D") 33)) []) ∷ []))) ∷ [])))
    ∷ [])

d_reaches_nothing : map (λ (e : Ident × Entry). instances_within (whole no_cycle, e.1)) (scope_of (whole no_cycle)) ≡ [] ∷ []
d_reaches_nothing = refl

-- through an instance a constant is that of the body as written
-- x: D(); group def D(): const int k = x.k; end
abbrev constant_in_itself : Source
constant_in_itself = source_list (instance_item (instance_named (word (codes "x") 0) (single (word (codes "D") 3)) [])
    ∷ definition_item (word (codes "D") 18) [] (group_body (source_list (decl_item (const_decl int_type (word (codes "k") 33) (node (named (dotted false (word (codes "x") 37 ∷ word (codes "k") 39 ∷ []) 37)) 37)) ∷ [])))
    ∷ [])

k_reaches_itself : DefinitionCycleDue constant_in_itself 33
k_reaches_itself = (1, _, lit< tt, refl, (0, _, lit< tt, refl, (refl, inr (one (0, _, lit< tt, refl, refl)))))

-- a scope declares its parameters, literals and locations too
-- automaton def D(alg int p; event q): enum E = a, b; disc int p; event a; location q: initial; location b; end
abbrev declared_twice : Source
declared_twice = source_list (definition_item (word (codes "D") 14) (alg_param int_type (word (codes "p") 24) ∷ event_param class.Plain no_type (word (codes "q") 33) ∷ []) (automaton_body (behaviour (enum_decl (word (codes "E") 42) (word (codes "a") 46 ∷ word (codes "b") 49 ∷ []) ∷ disc_decl int_type (word (codes "p") 61) None ∷ event_decl class.Plain no_type (word (codes "a") 70) ∷ []) None None
    (place (Some (word (codes "q") 82)) true [] [] []
    ∷ place (Some (word (codes "b") 103)) false [] [] []
    ∷ [])))
    ∷ [])

p_is_declared_twice : DuplicateDue declared_twice 61 24
p_is_declared_twice = (1, _, lit< tt, refl, record { earlier = _; later = _; order = inl (refl, inr (inr (inr (inr (inl refl))))); same = refl; first_at = refl; later_at = refl })

declared_in_text_order : map (λ c. map (λ (e : Ident × Entry). e.0.at) (scope_of c)) (bodies declared_twice) ≡ (14 ∷ []) ∷ (24 ∷ 33 ∷ 42 ∷ 46 ∷ 49 ∷ 61 ∷ 70 ∷ 82 ∷ 103 ∷ []) ∷ []
declared_in_text_order = refl
