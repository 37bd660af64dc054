-- The places at which positions ask for another kind, each of a source, by computing.
use Rattle.std.proofs.Common.{◌≡◌, ℕ, List, [], ◌∷◌, ◌++◌, map, filter, refl}
use Rattle.std.specs.Prelude.{codes, not, flat_map, Option, if◌then◌else◌}
use Rattle.cif_ast.specs.declared.names.Ident.{Ident}
use Rattle.cif_ast.specs.declared.names.Name.{Name}
use Rattle.cif_source.specs.Lookup.{found}
use Rattle.cif_source.specs.Uses.{names_in}
use Rattle.cif_source.specs.Scoping.{is_wrong}
use Rattle.cif_source.specs.Constants.{constants_of}
use Rattle.cif_source.specs.Components.{Component, body_of}
use Rattle.cif_source.specs.Objects.{bodies, is_automaton}
use Rattle.cif_source.proofs.Cell.{cell_tree}
use Rattle.cif_source.proofs.Features.{features_tree}
use Rattle.cif_source.proofs.Rows.{two_classes, invariant, frames}
use Rattle.cif_source.specs.Kinds.{Demand, kind_of, same_kind}
use Rattle.cif_source.specs.Demands.{demands, is_unfit, event_channel, Argument, arguments_in, is_unfit_for}
use Rattle.cif_source.specs.BodyRules.{edges_of, is_constant, initial_count, definition_counts, algs_of}
use Rattle.std.specs.Prelude.{codes, pos, true, false, [], ◌∷◌, Some, None}
use Rattle.cif_ast.specs.Tree.{Tree, node, truth, number, named, received, paren, negative, positive, negation, absolute, least, greatest, sum, product, comparison, all_of, any_of, implication, equivalence, choice, assignment, selection, no_updates}
use Rattle.cif_ast.specs.View.{trees_of, terms_of, factors_of, branches_of, updates_of, update_branches_of}
use Rattle.cif_ast.specs.declared.expressions.CmpOp.TheVariants as cmp
use Rattle.cif_ast.specs.declared.expressions.MulOp.TheVariants as mul
use Rattle.cif_ast.specs.declared.declarations.Class.TheVariants as class
use Rattle.cif_source.specs.Source.{UseTree, EdgeTree, tree_at, bool_type, int_type, range_type, named_type, no_type, void_type, value_type, syncs, sends, receives, always, needs, disables, type_decl, enum_decl, event_decl, const_decl, alg_decl, input_decl, disc_decl, equation_decl, invariant_decl, marked_decl, event_param, alg_param, location_param, decl_item, component_item, definition_item, instance_item, group_body, automaton_body, Source}
use Rattle.cif_source.proofs.Terms.{word, single, dotted, event_use, edge_by, equation, place, behaviour, instance_named, source_list}

abbrev bad_values : Component → List ℕ
bad_values c = map (λ (d : Demand). tree_at d.value) (filter (λ (d : Demand). not (same_kind (kind_of c d.received_kind d.value) d.kind)) (demands c))

abbrev bad_uses : Component → List ℕ
bad_uses c = map (λ (u : UseTree). u.name.at) (filter (λ (u : UseTree). is_unfit u.role (event_channel c u.name)) (flat_map (λ (e : EdgeTree). e.uses) (edges_of c)))

abbrev bad_arguments : Component → List ℕ
bad_arguments c = map (λ (a : Argument). tree_at a.value) (filter (λ (a : Argument). is_unfit_for c a.definition a.value a.param) (arguments_in c))

abbrev pub mismatches : Source → List ℕ
mismatches t = flat_map (λ c. bad_values c ++ bad_uses c ++ bad_arguments c) (bodies t)

the_cell_has_none : mismatches cell_tree ≡ []
the_cell_has_none = refl

features_have_none : mismatches features_tree ≡ []
features_have_none = refl

two_classes_has_none : mismatches two_classes ≡ []
two_classes_has_none = refl

invariant_has_none : mismatches invariant ≡ []
invariant_has_none = refl

frames_has_none : mismatches frames ≡ []
frames_has_none = refl

-- in the cell and the features each name of a constant expression is constant, and no variable of another body is assigned

abbrev not_constant : Source → List ℕ
not_constant t = flat_map (λ c. map (λ (nm : Name). nm.at) (filter (λ nm. is_wrong is_constant (found c nm)) (flat_map names_in (constants_of c)))) (bodies t)

constants_are_constant : not_constant cell_tree ++ not_constant features_tree ≡ []
constants_are_constant = refl

-- each automaton has one initial location, and each algebraic variable one definition

abbrev initial_counts : Source → List ℕ
initial_counts t = flat_map (λ c. if is_automaton (body_of c) then initial_count c ∷ [] else []) (bodies t)

abbrev alg_counts : Source → List (List ℕ)
alg_counts t = flat_map (λ c. map (λ (a : Ident × Option Tree). definition_counts c a.0.text a.1) (algs_of c)) (bodies t)

one_initial_location : initial_counts features_tree ≡ 1 ∷ 1 ∷ 1 ∷ []
one_initial_location = refl

one_definition : alg_counts features_tree ≡ (1 ∷ 1 ∷ []) ∷ (1 ∷ []) ∷ []
one_definition = refl

-- an equality is told at its right operand
-- alg bool b = 1 = true;
abbrev equality : Source
equality = source_list (decl_item (alg_decl bool_type (word (codes "b") 9) (Some (node (comparison (node (number (pos 1)) 13) cmp.Eq (node (truth true) 17)) 13)))
    ∷ [])

equality_at_its_right : mismatches equality ≡ 17 ∷ []
equality_at_its_right = refl

-- of the branches of an `if` the first that differs from the first one is told
-- alg int i = if true: 1 elif true: false elif false: 2 else true end;
abbrev branches : Source
branches = source_list (decl_item (alg_decl int_type (word (codes "i") 8) (Some (node (choice (branches_of ((trees_of (node (truth true) 15 ∷ []), (node (number (pos 1)) 21)) ∷ (trees_of (node (truth true) 28 ∷ []), (node (truth false) 34)) ∷ (trees_of (node (truth false) 45 ∷ []), (node (number (pos 2)) 52)) ∷ [])) (node (truth true) 59)) 12)))
    ∷ [])

first_branch_that_differs : mismatches branches ≡ 34 ∷ []
first_branch_that_differs = refl

-- a whole `if` is told at itself
-- alg int i = if true: true else false end;
abbrev whole_choice : Source
whole_choice = source_list (decl_item (alg_decl int_type (word (codes "i") 8) (Some (node (choice (branches_of ((trees_of (node (truth true) 15 ∷ []), (node (truth true) 21)) ∷ [])) (node (truth false) 31)) 12)))
    ∷ [])

choice_at_itself : mismatches whole_choice ≡ 12 ∷ []
choice_at_itself = refl

-- a condition is boolean, and an order takes integers
-- alg int i = if 1: 2 else 3 end; alg bool b = true < 1;
abbrev condition : Source
condition = source_list (decl_item (alg_decl int_type (word (codes "i") 8) (Some (node (choice (branches_of ((trees_of (node (number (pos 1)) 15 ∷ []), (node (number (pos 2)) 18)) ∷ [])) (node (number (pos 3)) 25)) 12)))
    ∷ decl_item (alg_decl bool_type (word (codes "b") 41) (Some (node (comparison (node (truth true) 45) cmp.Lt (node (number (pos 1)) 52)) 45)))
    ∷ [])

condition_and_order : mismatches condition ≡ 15 ∷ 45 ∷ []
condition_and_order = refl

-- two enumerations with the same literals are one type
-- group g: enum E = p, q; end group h: enum E = p, q; enum F = r, s; alg E e = g.p; alg F f = g.p; end
abbrev enumerations : Source
enumerations = source_list (component_item (word (codes "g") 6) (group_body (source_list (decl_item (enum_decl (word (codes "E") 14) (word (codes "p") 18 ∷ word (codes "q") 21 ∷ [])) ∷ [])))
    ∷ component_item (word (codes "h") 34) (group_body (source_list (decl_item (enum_decl (word (codes "E") 42) (word (codes "p") 46 ∷ word (codes "q") 49 ∷ [])) ∷ decl_item (enum_decl (word (codes "F") 57) (word (codes "r") 61 ∷ word (codes "s") 64 ∷ [])) ∷ decl_item (alg_decl (named_type (single (word (codes "E") 71))) (word (codes "e") 73) (Some (node (named (dotted false (word (codes "g") 77 ∷ word (codes "p") 79 ∷ []) 77)) 77))) ∷ decl_item (alg_decl (named_type (single (word (codes "F") 86))) (word (codes "f") 88) (Some (node (named (dotted false (word (codes "g") 92 ∷ word (codes "p") 94 ∷ []) 92)) 92))) ∷ [])))
    ∷ [])

same_literals_fit : mismatches enumerations ≡ 92 ∷ []
same_literals_fit = refl

-- `?` stands in updates of an edge of which each use receives a value of one kind
-- event int m; event void v; automaton a: disc int x; location: initial; edge m? do x := ?; edge m?, v? do x := (?); edge m? when ? = 1; end
abbrev received_value : Source
received_value = source_list (decl_item (event_decl class.Plain (value_type int_type) (word (codes "m") 10))
    ∷ decl_item (event_decl class.Plain void_type (word (codes "v") 24))
    ∷ component_item (word (codes "a") 37) (automaton_body (behaviour (disc_decl int_type (word (codes "x") 49) None ∷ []) None None
    (place None true [] [] (edge_by (event_use (single (word (codes "m") 76)) receives ∷ []) [] (updates_of (assignment (single (word (codes "x") 82)) (node received 87) ∷ [])) None
    ∷ edge_by (event_use (single (word (codes "m") 95)) receives ∷ event_use (single (word (codes "v") 99)) receives ∷ []) [] (updates_of (assignment (single (word (codes "x") 105)) (node (paren (node received 111)) 110) ∷ [])) None
    ∷ edge_by (event_use (single (word (codes "m") 120)) receives ∷ []) (node (comparison (node received 128) cmp.Eq (node (number (pos 1)) 132)) 128 ∷ []) no_updates None
    ∷ [])
    ∷ [])))
    ∷ [])

received_where_a_value_comes : mismatches received_value ≡ 110 ∷ 111 ∷ 132 ∷ 128 ∷ []
received_where_a_value_comes = refl

-- a value asks for a channel with values, `!` alone for a void channel, and `?` for a channel
-- event e; event void v; event int m; automaton a: location: initial; edge e, v, m; edge e!1; edge v!1; edge m!; edge e?; edge v!; edge v?; edge m!true; edge m!1; end
abbrev event_uses : Source
event_uses = source_list (decl_item (event_decl class.Plain no_type (word (codes "e") 6))
    ∷ decl_item (event_decl class.Plain void_type (word (codes "v") 20))
    ∷ decl_item (event_decl class.Plain (value_type int_type) (word (codes "m") 33))
    ∷ component_item (word (codes "a") 46) (automaton_body (behaviour [] None None
    (place None true [] [] (edge_by (event_use (single (word (codes "e") 73)) syncs ∷ event_use (single (word (codes "v") 76)) syncs ∷ event_use (single (word (codes "m") 79)) syncs ∷ []) [] no_updates None
    ∷ edge_by (event_use (single (word (codes "e") 87)) (sends (Some (node (number (pos 1)) 89))) ∷ []) [] no_updates None
    ∷ edge_by (event_use (single (word (codes "v") 97)) (sends (Some (node (number (pos 1)) 99))) ∷ []) [] no_updates None
    ∷ edge_by (event_use (single (word (codes "m") 107)) (sends None) ∷ []) [] no_updates None
    ∷ edge_by (event_use (single (word (codes "e") 116)) receives ∷ []) [] no_updates None
    ∷ edge_by (event_use (single (word (codes "v") 125)) (sends None) ∷ []) [] no_updates None
    ∷ edge_by (event_use (single (word (codes "v") 134)) receives ∷ []) [] no_updates None
    ∷ edge_by (event_use (single (word (codes "m") 143)) (sends (Some (node (truth true) 145))) ∷ []) [] no_updates None
    ∷ edge_by (event_use (single (word (codes "m") 156)) (sends (Some (node (number (pos 1)) 158))) ∷ []) [] no_updates None
    ∷ [])
    ∷ [])))
    ∷ [])

uses_that_do_not_fit : mismatches event_uses ≡ 145 ∷ 87 ∷ 97 ∷ 107 ∷ 116 ∷ []
uses_that_do_not_fit = refl

-- an argument for an event or a location is a bare name
-- event e; automaton a: location p: initial; end x: D(e, a.p); y: D((e), not a.p); automaton def D(event f; location l): location: initial; end
abbrev bare_names : Source
bare_names = source_list (decl_item (event_decl class.Plain no_type (word (codes "e") 6))
    ∷ component_item (word (codes "a") 19) (automaton_body (behaviour [] None None
    (place (Some (word (codes "p") 31)) true [] [] []
    ∷ [])))
    ∷ instance_item (instance_named (word (codes "x") 47) (single (word (codes "D") 50)) (node (named (single (word (codes "e") 52))) 52 ∷ node (named (dotted false (word (codes "a") 55 ∷ word (codes "p") 57 ∷ []) 55)) 55 ∷ []))
    ∷ instance_item (instance_named (word (codes "y") 61) (single (word (codes "D") 64)) (node (paren (node (named (single (word (codes "e") 67))) 67)) 66 ∷ node (negation (node (named (dotted false (word (codes "a") 75 ∷ word (codes "p") 77 ∷ []) 75)) 75)) 71 ∷ []))
    ∷ definition_item (word (codes "D") 95) (event_param class.Plain no_type (word (codes "f") 103) ∷ location_param (word (codes "l") 115) ∷ []) (automaton_body (behaviour [] None None
    (place None true [] [] []
    ∷ [])))
    ∷ [])

arguments_are_bare : mismatches bare_names ≡ 66 ∷ 71 ∷ []
arguments_are_bare = refl

-- each position asks for its kind
-- type T = int[true..false]; event int[true..0] m; const bool k = 1; alg bool b = 2; input int[0..true] i; alg int c; equation c = true; invariant 3; requirement m needs 4, 5 disables m; marked 6; x: D(7, true); group def D(alg bool p; alg int[0..false] q): end automaton a: disc bool d = 8; alg bool g; location l: initial; marked 9; equation g = 10; edge m!true when 11 do if 12: d := 13 elif 14: d := 15 else d := 16 end; end
abbrev positions : Source
positions = source_list (decl_item (type_decl (word (codes "T") 5) (range_type (node (truth true) 13) (node (truth false) 19)))
    ∷ decl_item (event_decl class.Plain (value_type (range_type (node (truth true) 37) (node (number (pos 0)) 43))) (word (codes "m") 46))
    ∷ decl_item (const_decl bool_type (word (codes "k") 60) (node (number (pos 1)) 64))
    ∷ decl_item (alg_decl bool_type (word (codes "b") 76) (Some (node (number (pos 2)) 80)))
    ∷ decl_item (input_decl (range_type (node (number (pos 0)) 93) (node (truth true) 96)) (word (codes "i") 102))
    ∷ decl_item (alg_decl int_type (word (codes "c") 113) None)
    ∷ decl_item (equation_decl (equation (word (codes "c") 125) (node (truth true) 129)))
    ∷ decl_item (invariant_decl (always (node (number (pos 3)) 145)))
    ∷ decl_item (invariant_decl (needs (single (word (codes "m") 160) ∷ []) (node (number (pos 4)) 168)))
    ∷ decl_item (invariant_decl (disables (node (number (pos 5)) 171) (single (word (codes "m") 182) ∷ [])))
    ∷ decl_item (marked_decl (node (number (pos 6)) 192))
    ∷ instance_item (instance_named (word (codes "x") 195) (single (word (codes "D") 198)) (node (number (pos 7)) 200 ∷ node (truth true) 203 ∷ []))
    ∷ definition_item (word (codes "D") 220) (alg_param bool_type (word (codes "p") 231) ∷ alg_param (range_type (node (number (pos 0)) 242) (node (truth false) 245)) (word (codes "q") 252) ∷ []) (group_body (source_list []))
    ∷ component_item (word (codes "a") 270) (automaton_body (behaviour (disc_decl bool_type (word (codes "d") 283) (Some (node (number (pos 8)) 287)) ∷ alg_decl bool_type (word (codes "g") 299) None ∷ []) None None
    (place (Some (word (codes "l") 311)) true (node (number (pos 9)) 330 ∷ []) (equation (word (codes "g") 342) (node (number (pos 10)) 346) ∷ []) (edge_by (event_use (single (word (codes "m") 355)) (sends (Some (node (truth true) 357))) ∷ []) (node (number (pos 11)) 367 ∷ []) (updates_of (selection (update_branches_of ((trees_of (node (number (pos 12)) 376 ∷ []), (updates_of (assignment (single (word (codes "d") 380)) (node (number (pos 13)) 385) ∷ []))) ∷ (trees_of (node (number (pos 14)) 393 ∷ []), (updates_of (assignment (single (word (codes "d") 397)) (node (number (pos 15)) 402) ∷ []))) ∷ [])) (updates_of (assignment (single (word (codes "d") 410)) (node (number (pos 16)) 415) ∷ [])) ∷ [])) None
    ∷ [])
    ∷ [])))
    ∷ [])

position_kinds : mismatches positions ≡ 13 ∷ 19 ∷ 37 ∷ 96 ∷ 64 ∷ 80 ∷ 129 ∷ 145 ∷ 168 ∷ 171 ∷ 192 ∷ 200 ∷ 203 ∷ 245 ∷ 287 ∷ 330 ∷ 346 ∷ 357 ∷ 367 ∷ 376 ∷ 385 ∷ 393 ∷ 402 ∷ 415 ∷ []
position_kinds = refl

-- each operand is asked for the kind of its form
-- alg int i = -true + abs(true) - min(true, true) + max(true, true) + true * true div true - (+true); alg bool b = not 1 and 2 or (3 => 4) or (5 <=> 6) or true < true or 1 = true or true != 2 or if 7: 8 else true end;
abbrev operand_kinds : Source
operand_kinds = source_list (decl_item (alg_decl int_type (word (codes "i") 8) (Some (node (sum (node (negative (node (truth true) 13)) 12) (terms_of ((false, (node (absolute (node (truth true) 24)) 20)) ∷ (true, (node (least (node (truth true) 36) (node (truth true) 42)) 32)) ∷ (false, (node (greatest (node (truth true) 54) (node (truth true) 60)) 50)) ∷ (false, (node (product (node (truth true) 68) (factors_of ((mul.Times, (node (truth true) 75)) ∷ (mul.Div, (node (truth true) 84)) ∷ []))) 68)) ∷ (true, (node (paren (node (positive (node (truth true) 93)) 92)) 91)) ∷ []))) 12)))
    ∷ decl_item (alg_decl bool_type (word (codes "b") 109) (Some (node (any_of (trees_of (node (all_of (trees_of (node (negation (node (number (pos 1)) 117)) 113 ∷ node (number (pos 2)) 123 ∷ []))) 113 ∷ node (paren (node (implication (node (number (pos 3)) 129) (node (number (pos 4)) 134)) 129)) 128 ∷ node (paren (node (equivalence (node (number (pos 5)) 141) (node (number (pos 6)) 147)) 141)) 140 ∷ node (comparison (node (truth true) 153) cmp.Lt (node (truth true) 160)) 153 ∷ node (comparison (node (number (pos 1)) 168) cmp.Eq (node (truth true) 172)) 168 ∷ node (comparison (node (truth true) 180) cmp.Ne (node (number (pos 2)) 188)) 180 ∷ node (choice (branches_of ((trees_of (node (number (pos 7)) 196 ∷ []), (node (number (pos 8)) 199)) ∷ [])) (node (truth true) 206)) 193 ∷ []))) 113)))
    ∷ [])

operands_of_forms : mismatches operand_kinds ≡ 13 ∷ 24 ∷ 36 ∷ 42 ∷ 54 ∷ 60 ∷ 68 ∷ 75 ∷ 84 ∷ 93 ∷ 117 ∷ 123 ∷ 129 ∷ 134 ∷ 141 ∷ 147 ∷ 153 ∷ 160 ∷ 172 ∷ 188 ∷ 193 ∷ 196 ∷ 206 ∷ []
operands_of_forms = refl

-- events as arguments have the channel and the class of their parameters, and a parameter `event` that is passed on has no class
-- controllable c; uncontrollable u; event e; event int m; event bool n; event void v; x: D(c, u, e, m, v); y: D(u, c, m, n, e); z: D(e, e, v, e, m); group def D(controllable p; uncontrollable q; event r; event int s; event void t): end group def E(event p; controllable q; event int s): v: F(p, s); w: F(q, s); x: F(q, p); end group def F(controllable c; event int s): end
abbrev event_arguments : Source
event_arguments = source_list (decl_item (event_decl class.Con no_type (word (codes "c") 13))
    ∷ decl_item (event_decl class.Unc no_type (word (codes "u") 31))
    ∷ decl_item (event_decl class.Plain no_type (word (codes "e") 40))
    ∷ decl_item (event_decl class.Plain (value_type int_type) (word (codes "m") 53))
    ∷ decl_item (event_decl class.Plain (value_type bool_type) (word (codes "n") 67))
    ∷ decl_item (event_decl class.Plain void_type (word (codes "v") 81))
    ∷ instance_item (instance_named (word (codes "x") 84) (single (word (codes "D") 87)) (node (named (single (word (codes "c") 89))) 89 ∷ node (named (single (word (codes "u") 92))) 92 ∷ node (named (single (word (codes "e") 95))) 95 ∷ node (named (single (word (codes "m") 98))) 98 ∷ node (named (single (word (codes "v") 101))) 101 ∷ []))
    ∷ instance_item (instance_named (word (codes "y") 105) (single (word (codes "D") 108)) (node (named (single (word (codes "u") 110))) 110 ∷ node (named (single (word (codes "c") 113))) 113 ∷ node (named (single (word (codes "m") 116))) 116 ∷ node (named (single (word (codes "n") 119))) 119 ∷ node (named (single (word (codes "e") 122))) 122 ∷ []))
    ∷ instance_item (instance_named (word (codes "z") 126) (single (word (codes "D") 129)) (node (named (single (word (codes "e") 131))) 131 ∷ node (named (single (word (codes "e") 134))) 134 ∷ node (named (single (word (codes "v") 137))) 137 ∷ node (named (single (word (codes "e") 140))) 140 ∷ node (named (single (word (codes "m") 143))) 143 ∷ []))
    ∷ definition_item (word (codes "D") 157) (event_param class.Con no_type (word (codes "p") 172) ∷ event_param class.Unc no_type (word (codes "q") 190) ∷ event_param class.Plain no_type (word (codes "r") 199) ∷ event_param class.Plain (value_type int_type) (word (codes "s") 212) ∷ event_param class.Plain void_type (word (codes "t") 226) ∷ []) (group_body (source_list []))
    ∷ definition_item (word (codes "E") 244) (event_param class.Plain no_type (word (codes "p") 252) ∷ event_param class.Con no_type (word (codes "q") 268) ∷ event_param class.Plain (value_type int_type) (word (codes "s") 281) ∷ []) (group_body (source_list (instance_item (instance_named (word (codes "v") 285) (single (word (codes "F") 288)) (node (named (single (word (codes "p") 290))) 290 ∷ node (named (single (word (codes "s") 293))) 293 ∷ [])) ∷ instance_item (instance_named (word (codes "w") 297) (single (word (codes "F") 300)) (node (named (single (word (codes "q") 302))) 302 ∷ node (named (single (word (codes "s") 305))) 305 ∷ [])) ∷ instance_item (instance_named (word (codes "x") 309) (single (word (codes "F") 312)) (node (named (single (word (codes "q") 314))) 314 ∷ node (named (single (word (codes "p") 317))) 317 ∷ [])) ∷ [])))
    ∷ definition_item (word (codes "F") 335) (event_param class.Con no_type (word (codes "c") 350) ∷ event_param class.Plain (value_type int_type) (word (codes "s") 363) ∷ []) (group_body (source_list []))
    ∷ [])

arguments_with_channel_and_class : mismatches event_arguments ≡ 110 ∷ 113 ∷ 116 ∷ 119 ∷ 122 ∷ 131 ∷ 134 ∷ 137 ∷ 140 ∷ 143 ∷ 290 ∷ 317 ∷ []
arguments_with_channel_and_class = refl

-- the operands of an argument that is no bare name are asked too, and no value is received there
-- x: D(1 + true, (?), ?); group def D(event e; location l; alg int a): end
abbrev argument_operands : Source
argument_operands = source_list (instance_item (instance_named (word (codes "x") 0) (single (word (codes "D") 3)) (node (sum (node (number (pos 1)) 5) (terms_of ((false, (node (truth true) 9)) ∷ []))) 5 ∷ node (paren (node received 16)) 15 ∷ node received 20 ∷ []))
    ∷ definition_item (word (codes "D") 34) (event_param class.Plain no_type (word (codes "e") 42) ∷ location_param (word (codes "l") 54) ∷ alg_param int_type (word (codes "a") 65) ∷ []) (group_body (source_list []))
    ∷ [])

operands_of_arguments : mismatches argument_operands ≡ 9 ∷ 16 ∷ 20 ∷ 20 ∷ 5 ∷ 15 ∷ []
operands_of_arguments = refl

-- constants stand in bounds, first values and values of constants, and not in algebraic variables
-- input int i; type T = int[i..i]; event int[i..9] m; const int[0..i] k = i; alg int[0..i] b = i; input int[i..1] j; group def D(alg int[0..i] a; event int[0..i] f): end automaton a: enum E = p; disc int[0..i] d = i + k; disc E s = p; disc bool t = l; location l: initial; end
abbrev constant_positions : Source
constant_positions = source_list (decl_item (input_decl int_type (word (codes "i") 10))
    ∷ decl_item (type_decl (word (codes "T") 18) (range_type (node (named (single (word (codes "i") 26))) 26) (node (named (single (word (codes "i") 29))) 29)))
    ∷ decl_item (event_decl class.Plain (value_type (range_type (node (named (single (word (codes "i") 43))) 43) (node (number (pos 9)) 46))) (word (codes "m") 49))
    ∷ decl_item (const_decl (range_type (node (number (pos 0)) 62) (node (named (single (word (codes "i") 65))) 65)) (word (codes "k") 68) (node (named (single (word (codes "i") 72))) 72))
    ∷ decl_item (alg_decl (range_type (node (number (pos 0)) 83) (node (named (single (word (codes "i") 86))) 86)) (word (codes "b") 89) (Some (node (named (single (word (codes "i") 93))) 93)))
    ∷ decl_item (input_decl (range_type (node (named (single (word (codes "i") 106))) 106) (node (number (pos 1)) 109)) (word (codes "j") 112))
    ∷ definition_item (word (codes "D") 125) (alg_param (range_type (node (number (pos 0)) 135) (node (named (single (word (codes "i") 138))) 138)) (word (codes "a") 141) ∷ event_param class.Plain (value_type (range_type (node (number (pos 0)) 154) (node (named (single (word (codes "i") 157))) 157))) (word (codes "f") 160) ∷ []) (group_body (source_list []))
    ∷ component_item (word (codes "a") 178) (automaton_body (behaviour (enum_decl (word (codes "E") 186) (word (codes "p") 190 ∷ []) ∷ disc_decl (range_type (node (number (pos 0)) 202) (node (named (single (word (codes "i") 205))) 205)) (word (codes "d") 208) (Some (node (sum (node (named (single (word (codes "i") 212))) 212) (terms_of ((false, (node (named (single (word (codes "k") 216))) 216)) ∷ []))) 212)) ∷ disc_decl (named_type (single (word (codes "E") 224))) (word (codes "s") 226) (Some (node (named (single (word (codes "p") 230))) 230)) ∷ disc_decl bool_type (word (codes "t") 243) (Some (node (named (single (word (codes "l") 247))) 247)) ∷ []) None None
    (place (Some (word (codes "l") 259)) true [] [] []
    ∷ [])))
    ∷ [])

constants_are_asked : not_constant constant_positions ≡ 26 ∷ 29 ∷ 43 ∷ 65 ∷ 86 ∷ 106 ∷ 72 ∷ 138 ∷ 157 ∷ 205 ∷ 212 ∷ 247 ∷ []
constants_are_asked = refl

-- definitions count by the declared value, the equations of the component and those of each location
-- alg int a = 1, b; equation a = 2; equation a = 3; automaton c: alg int a, b = 1, d; equation a = 1; location p: initial; equation a = 2; equation d = 1; location q; end
abbrev counted : Source
counted = source_list (decl_item (alg_decl int_type (word (codes "a") 8) (Some (node (number (pos 1)) 12)))
    ∷ decl_item (alg_decl int_type (word (codes "b") 15) None)
    ∷ decl_item (equation_decl (equation (word (codes "a") 27) (node (number (pos 2)) 31)))
    ∷ decl_item (equation_decl (equation (word (codes "a") 43) (node (number (pos 3)) 47)))
    ∷ component_item (word (codes "c") 60) (automaton_body (behaviour (alg_decl int_type (word (codes "a") 71) None ∷ alg_decl int_type (word (codes "b") 74) (Some (node (number (pos 1)) 78)) ∷ alg_decl int_type (word (codes "d") 81) None ∷ equation_decl (equation (word (codes "a") 93) (node (number (pos 1)) 97)) ∷ []) None None
    (place (Some (word (codes "p") 109)) true [] (equation (word (codes "a") 130) (node (number (pos 2)) 134) ∷ equation (word (codes "d") 146) (node (number (pos 1)) 150) ∷ []) []
    ∷ place (Some (word (codes "q") 162)) false [] [] []
    ∷ [])))
    ∷ [])

definitions_counted : alg_counts counted ≡ (3 ∷ []) ∷ (0 ∷ []) ∷ (2 ∷ 1 ∷ []) ∷ (1 ∷ 1 ∷ []) ∷ (1 ∷ 0 ∷ []) ∷ []
definitions_counted = refl

-- the type of a parameter is read in its definition
-- type T = bool; x: D(true); group def D(alg T a): type T = int; end
abbrev own_type : Source
own_type = source_list (decl_item (type_decl (word (codes "T") 5) bool_type)
    ∷ instance_item (instance_named (word (codes "x") 15) (single (word (codes "D") 18)) (node (truth true) 20 ∷ []))
    ∷ definition_item (word (codes "D") 37) (alg_param (named_type (single (word (codes "T") 43))) (word (codes "a") 45) ∷ []) (group_body (source_list (decl_item (type_decl (word (codes "T") 54) int_type) ∷ [])))
    ∷ [])

type_of_parameter : mismatches own_type ≡ 20 ∷ []
type_of_parameter = refl

-- `?` stands in conditions of updates, and not in sent values
-- event int m; automaton a: disc int x; location: initial; edge m? do if ? > 0: x := ? end; edge m!? do if x = ?: x := 1 end; end
abbrev received_in_condition : Source
received_in_condition = source_list (decl_item (event_decl class.Plain (value_type int_type) (word (codes "m") 10))
    ∷ component_item (word (codes "a") 23) (automaton_body (behaviour (disc_decl int_type (word (codes "x") 35) None ∷ []) None None
    (place None true [] [] (edge_by (event_use (single (word (codes "m") 62)) receives ∷ []) [] (updates_of (selection (update_branches_of ((trees_of (node (comparison (node received 71) cmp.Gt (node (number (pos 0)) 75)) 71 ∷ []), (updates_of (assignment (single (word (codes "x") 78)) (node received 83) ∷ []))) ∷ [])) no_updates ∷ [])) None
    ∷ edge_by (event_use (single (word (codes "m") 95)) (sends (Some (node received 97))) ∷ []) [] (updates_of (selection (update_branches_of ((trees_of (node (comparison (node (named (single (word (codes "x") 105))) 105) cmp.Eq (node received 109)) 105 ∷ []), (updates_of (assignment (single (word (codes "x") 112)) (node (number (pos 1)) 117) ∷ []))) ∷ [])) no_updates ∷ [])) None
    ∷ [])
    ∷ [])))
    ∷ [])

conditions_receive : mismatches received_in_condition ≡ 97 ∷ 97 ∷ 109 ∷ 109 ∷ []
conditions_receive = refl
