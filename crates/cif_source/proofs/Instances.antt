-- Sources that break the rules on instances, at the places where they do.
use Rattle.std.proofs.Common.{◌≡◌, ℕ, zero, suc, lit<, List, [], ◌∷◌, ◌++◌, map, filter, inl, inr, refl, arith}
use Rattle.std.specs.Prelude.{codes, flat_map, not, int_lt, nat_lt, length}
use Rattle.std.specs.List.{range_with_len}
use Rattle.cif_ast.specs.declared.names.Name.{Name}
use Rattle.cif_system.specs.System.{in_range}
use Rattle.cif_source.specs.Components.{body_of}
use Rattle.cif_source.specs.Objects.{components_of, automata, events, event_edges}
use Rattle.cif_source.specs.Value.{constant}
use Rattle.cif_source.specs.Types.{range_of, signed_range}
use Rattle.cif_source.proofs.Features.{features_tree}
use Rattle.cif_source.specs.Constants.{constants_of, bound_values, typed_constants, Bounds, bounds_of}
use Rattle.cif_source.proofs.Cell.{cell_tree}
use Rattle.cif_source.specs.InstanceRules.{AlphabetLacksDue, RoleMixedDue, ConstantRangeDue, object_count, is_faulty, is_lacking, synchronised_name, monitored_in, role_count}
use Rattle.std.specs.Prelude.{codes, pos, true, false, [], ◌∷◌, Some, None}
use Rattle.cif_ast.specs.Tree.{Tree, node, truth, number, named, paren, negative, sum, product, comparison, all_of, any_of, implication, choice, no_updates}
use Rattle.cif_ast.specs.View.{trees_of, terms_of, factors_of, branches_of}
use Rattle.cif_ast.specs.declared.expressions.CmpOp.TheVariants as cmp
use Rattle.cif_ast.specs.declared.expressions.MulOp.TheVariants as mul
use Rattle.cif_ast.specs.declared.declarations.Class.TheVariants as class
use Rattle.cif_source.specs.Source.{SourceItem, TypeTree, tree_at, bool_type, int_type, range_type, no_type, void_type, value_type, syncs, sends, receives, always, needs, disables, type_decl, enum_decl, event_decl, const_decl, alg_decl, input_decl, disc_decl, equation_decl, invariant_decl, marked_decl, event_param, alg_param, decl_item, component_item, definition_item, instance_item, group_body, automaton_body, Source}
use Rattle.cif_source.proofs.Terms.{word, single, event_use, edge_by, equation, place, behaviour, instance_named, source_list}
use Rattle.cif_system.specs.Words.{Exceeds}

-- ---- none in the cell and in the features

-- the names outside alphabets, and how many roles each automaton has for each event at most
abbrev lacking_names : Source → List ℕ
lacking_names t = flat_map (λ a. map (λ (nm : Name). nm.at) (filter (is_lacking a) (flat_map synchronised_name (event_edges a) ++ monitored_in (body_of a)))) (automata t)

abbrev mixed_roles : Source → List ℕ
mixed_roles t = flat_map (λ a. filter (λ e. nat_lt 1 (role_count e a)) (range_with_len 0 (length (events t)))) (automata t)

alphabets_are_kept : lacking_names cell_tree ++ mixed_roles cell_tree ++ lacking_names features_tree ++ mixed_roles features_tree ≡ []
alphabets_are_kept = refl

abbrev faults : Source → List ℕ
faults t = flat_map
    (λ c. map tree_at (filter (is_faulty (constant c)) (constants_of c))
    ++ map (λ (v : TypeTree × Tree). tree_at v.1) (filter (λ v. not (in_range (range_of c v.0) (constant c v.1))) (typed_constants c))
    ++ map tree_at (filter (λ e. not (in_range (signed_range 32) (constant c e))) (bound_values c))
    ++ map (λ (b : Bounds). tree_at b.0) (filter (λ b. int_lt (constant c b.1) (constant c b.0)) (bounds_of c)))
    (components_of t)

constants_keep_their_ranges : faults cell_tree ++ faults features_tree ≡ []
constants_keep_their_ranges = refl

-- ---- alphabets

-- automaton a: event e, f; alphabet e; location: initial; edge f; end
abbrev lacking : Source
lacking = source_list (component_item (word (codes "a") 10) (automaton_body (behaviour (event_decl class.Plain no_type (word (codes "e") 19) ∷ event_decl class.Plain no_type (word (codes "f") 22) ∷ []) (Some (single (word (codes "e") 34) ∷ [])) None
    (place None true [] [] (edge_by (event_use (single (word (codes "f") 61)) syncs ∷ []) [] no_updates None
    ∷ [])
    ∷ [])))
    ∷ [])

f_is_outside_the_alphabet : AlphabetLacksDue lacking 61
f_is_outside_the_alphabet = (0, _, lit< tt, refl, (0, _, lit< tt, refl, (refl, refl)))

-- `monitor` of an event outside the alphabet
-- event e; automaton a: monitor e; location: initial; end
abbrev monitor_lacking : Source
monitor_lacking = source_list (decl_item (event_decl class.Plain no_type (word (codes "e") 6))
    ∷ component_item (word (codes "a") 19) (automaton_body (behaviour [] None (Some (single (word (codes "e") 30) ∷ []))
    (place None true [] [] []
    ∷ [])))
    ∷ [])

e_is_outside_the_alphabet : AlphabetLacksDue monitor_lacking 30
e_is_outside_the_alphabet = (0, _, lit< tt, refl, (0, _, lit< tt, refl, (refl, refl)))

-- event int[0..9] m; automaton Z: location: initial; edge m!1; edge m?; end
abbrev mixed : Source
mixed = source_list (decl_item (event_decl class.Plain (value_type (range_type (node (number (pos 0)) 10) (node (number (pos 9)) 13))) (word (codes "m") 16))
    ∷ component_item (word (codes "Z") 29) (automaton_body (behaviour [] None None
    (place None true [] [] (edge_by (event_use (single (word (codes "m") 56)) (sends (Some (node (number (pos 1)) 58))) ∷ []) [] no_updates None
    ∷ edge_by (event_use (single (word (codes "m") 66)) receives ∷ []) [] no_updates None
    ∷ [])
    ∷ [])))
    ∷ [])

z_sends_and_receives : RoleMixedDue mixed 29
z_sends_and_receives = (0, _, lit< tt, refl, (refl, (0, omega arith)))

-- ---- the number of objects

-- 7 components, 20 declarations, 12 locations and 13 edges
the_cell_is_small : object_count cell_tree ≡ 52
the_cell_is_small = refl

-- a definition named by the byte 0, and for each number up to n one named by it, with two instances of the one before
abbrev doubling : ℕ → List SourceItem
doubling zero = definition_item (word (0 ∷ []) 0) [] (group_body (source_list [])) ∷ []
doubling (suc n) =
    definition_item (word (suc n ∷ []) 0) [] (group_body (source_list (
    instance_item (instance_named (word (codes "a") 0) (single (word (n ∷ []) 0)) [])
    ∷ instance_item (instance_named (word (codes "b") 0) (single (word (n ∷ []) 0)) [])
    ∷ [])))
    ∷ doubling n

abbrev doubled : ℕ → Source
doubled n = source_list (instance_item (instance_named (word (codes "x") 0) (single (word (n ∷ []) 0)) []) ∷ doubling n)

five_doublings : object_count (doubled 5) ≡ 64
five_doublings = refl

-- ---- constant expressions

-- const int[0..3] k = 4;
abbrev outside : Source
outside = source_list (decl_item (const_decl (range_type (node (number (pos 0)) 10) (node (number (pos 3)) 13)) (word (codes "k") 16) (node (number (pos 4)) 20))
    ∷ [])

four_is_outside : ConstantRangeDue outside 20
four_is_outside = (0, _, lit< tt, refl, inr (inl (0, _, lit< tt, refl, (refl, refl))))

-- const int k = 1 + 2 mod (3 - 3);
abbrev zero_divisor : Source
zero_divisor = source_list (decl_item (const_decl int_type (word (codes "k") 10) (node (sum (node (number (pos 1)) 14) (terms_of ((false, (node (product (node (number (pos 2)) 18) (factors_of ((mul.Mod, (node (paren (node (sum (node (number (pos 3)) 25) (terms_of ((true, (node (number (pos 3)) 29)) ∷ []))) 25)) 24)) ∷ []))) 18)) ∷ []))) 14))
    ∷ [])

a_divisor_is_0 : ConstantRangeDue zero_divisor 14
a_divisor_is_0 = (0, _, lit< tt, refl, inl (0, _, lit< tt, refl, (refl, refl)))

-- const int k = 2147483647 * 2147483647 * 2147483647 * 0;
abbrev wide : Source
wide = source_list (decl_item (const_decl int_type (word (codes "k") 10) (node (product (node (number (pos 2147483647)) 14) (factors_of ((mul.Times, (node (number (pos 2147483647)) 27)) ∷ (mul.Times, (node (number (pos 2147483647)) 40)) ∷ (mul.Times, (node (number (pos 0)) 53)) ∷ []))) 14))
    ∷ [])

a_partial_result_is_wide : ConstantRangeDue wide 14
a_partial_result_is_wide = (0, _, lit< tt, refl, inl (0, _, lit< tt, refl, (refl, refl)))

-- input int[0..2147483647 + 1] i;
abbrev long_bound : Source
long_bound = source_list (decl_item (input_decl (range_type (node (number (pos 0)) 10) (node (sum (node (number (pos 2147483647)) 13) (terms_of ((false, (node (number (pos 1)) 26)) ∷ []))) 13)) (word (codes "i") 29))
    ∷ [])

a_bound_is_long : ConstantRangeDue long_bound 13
a_bound_is_long = (0, _, lit< tt, refl, inr (inr (inl (1, _, lit< tt, refl, (refl, refl)))))

-- type T = int[2..1];
abbrev empty_range : Source
empty_range = source_list (decl_item (type_decl (word (codes "T") 5) (range_type (node (number (pos 2)) 13) (node (number (pos 1)) 16)))
    ∷ [])

two_exceeds_one : ConstantRangeDue empty_range 13
two_exceeds_one = (0, _, lit< tt, refl, inr (inr (inr (0, _, lit< tt, refl, (refl, refl)))))

-- ---- by the arguments of an instance

-- event e, f; x: D(e, e); y: D(e, f); automaton def D(event g, h): alphabet g; monitor h; location: initial; edge g, h; end
abbrev lacking_in_y : Source
lacking_in_y = source_list (decl_item (event_decl class.Plain no_type (word (codes "e") 6))
    ∷ decl_item (event_decl class.Plain no_type (word (codes "f") 9))
    ∷ instance_item (instance_named (word (codes "x") 12) (single (word (codes "D") 15)) (node (named (single (word (codes "e") 17))) 17 ∷ node (named (single (word (codes "e") 20))) 20 ∷ []))
    ∷ instance_item (instance_named (word (codes "y") 24) (single (word (codes "D") 27)) (node (named (single (word (codes "e") 29))) 29 ∷ node (named (single (word (codes "f") 32))) 32 ∷ []))
    ∷ definition_item (word (codes "D") 50) (event_param class.Plain no_type (word (codes "g") 58) ∷ event_param class.Plain no_type (word (codes "h") 61) ∷ []) (automaton_body (behaviour [] (Some (single (word (codes "g") 74) ∷ [])) (Some (single (word (codes "h") 85) ∷ []))
    (place None true [] [] (edge_by (event_use (single (word (codes "g") 112)) syncs ∷ event_use (single (word (codes "h") 115)) syncs ∷ []) [] no_updates None
    ∷ [])
    ∷ [])))
    ∷ [])

h_is_outside_in_y : lacking_names lacking_in_y ≡ 115 ∷ 85 ∷ []
h_is_outside_in_y = refl

-- an empty alphabet is declared
-- event e; automaton a: alphabet; location: initial; edge e; end
abbrev no_alphabet : Source
no_alphabet = source_list (decl_item (event_decl class.Plain no_type (word (codes "e") 6))
    ∷ component_item (word (codes "a") 19) (automaton_body (behaviour [] (Some []) None
    (place None true [] [] (edge_by (event_use (single (word (codes "e") 56)) syncs ∷ []) [] no_updates None
    ∷ [])
    ∷ [])))
    ∷ [])

e_is_outside_the_empty_alphabet : lacking_names no_alphabet ≡ 56 ∷ []
e_is_outside_the_empty_alphabet = refl

-- told at the name of the definition
-- event int m, n; x: D(m, n); y: D(m, m); automaton def D(event int g, h): location: initial; edge g!1; edge h?; end
abbrev mixed_in_y : Source
mixed_in_y = source_list (decl_item (event_decl class.Plain (value_type int_type) (word (codes "m") 10))
    ∷ decl_item (event_decl class.Plain (value_type int_type) (word (codes "n") 13))
    ∷ instance_item (instance_named (word (codes "x") 16) (single (word (codes "D") 19)) (node (named (single (word (codes "m") 21))) 21 ∷ node (named (single (word (codes "n") 24))) 24 ∷ []))
    ∷ instance_item (instance_named (word (codes "y") 28) (single (word (codes "D") 31)) (node (named (single (word (codes "m") 33))) 33 ∷ node (named (single (word (codes "m") 36))) 36 ∷ []))
    ∷ definition_item (word (codes "D") 54) (event_param class.Plain (value_type int_type) (word (codes "g") 66) ∷ event_param class.Plain (value_type int_type) (word (codes "h") 69) ∷ []) (automaton_body (behaviour [] None None
    (place None true [] [] (edge_by (event_use (single (word (codes "g") 97)) (sends (Some (node (number (pos 1)) 99))) ∷ []) [] no_updates None
    ∷ edge_by (event_use (single (word (codes "h") 107)) receives ∷ []) [] no_updates None
    ∷ [])
    ∷ [])))
    ∷ [])

d_sends_and_receives_in_y : RoleMixedDue mixed_in_y 54
d_sends_and_receives_in_y = (1, _, lit< tt, refl, (refl, (0, omega arith)))

-- an event of a declared alphabet that is sent
-- event void e; automaton a: alphabet e; location: initial; edge e!; end
abbrev sent_in_alphabet : Source
sent_in_alphabet = source_list (decl_item (event_decl class.Plain void_type (word (codes "e") 11))
    ∷ component_item (word (codes "a") 24) (automaton_body (behaviour [] (Some (single (word (codes "e") 36) ∷ [])) None
    (place None true [] [] (edge_by (event_use (single (word (codes "e") 63)) (sends None) ∷ []) [] no_updates None
    ∷ [])
    ∷ [])))
    ∷ [])

a_synchronises_and_sends : RoleMixedDue sent_in_alphabet 24
a_synchronises_and_sends = (0, _, lit< tt, refl, (refl, (0, omega arith)))

-- ---- objects

-- the specification, a and x; of the specification an enumeration, two events, three invariants, two exclusions of two events
-- each, two marking predicates, an algebraic variable and its equation; of a an algebraic variable, two locations and three edges; of x one constant
-- enum E = p, q, r; event e, f; invariant true, true, true; requirement {e, f} needs true, true disables {e, f}; marked true, true; alg int g; equation g = 1; automaton a: alphabet e, f; alg int h; location p: initial; marked true, true; equation h = 1; edge e, f; location q: equation h = 1; edge e; end x: D(1, e); group def D(alg int y; event z): const int k = 1; group def U(): const int l = 1; end end
abbrev objects : Source
objects = source_list (decl_item (enum_decl (word (codes "E") 5) (word (codes "p") 9 ∷ word (codes "q") 12 ∷ word (codes "r") 15 ∷ []))
    ∷ decl_item (event_decl class.Plain no_type (word (codes "e") 24))
    ∷ decl_item (event_decl class.Plain no_type (word (codes "f") 27))
    ∷ decl_item (invariant_decl (always (node (truth true) 40)))
    ∷ decl_item (invariant_decl (always (node (truth true) 46)))
    ∷ decl_item (invariant_decl (always (node (truth true) 52)))
    ∷ decl_item (invariant_decl (needs (single (word (codes "e") 71) ∷ single (word (codes "f") 74) ∷ []) (node (truth true) 83)))
    ∷ decl_item (invariant_decl (disables (node (truth true) 89) (single (word (codes "e") 104) ∷ single (word (codes "f") 107) ∷ [])))
    ∷ decl_item (marked_decl (node (truth true) 118))
    ∷ decl_item (marked_decl (node (truth true) 124))
    ∷ decl_item (alg_decl int_type (word (codes "g") 138) None)
    ∷ decl_item (equation_decl (equation (word (codes "g") 150) (node (number (pos 1)) 154)))
    ∷ component_item (word (codes "a") 167) (automaton_body (behaviour (alg_decl int_type (word (codes "h") 193) None ∷ []) (Some (single (word (codes "e") 179) ∷ single (word (codes "f") 182) ∷ [])) None
    (place (Some (word (codes "p") 205)) true (node (truth true) 224 ∷ node (truth true) 230 ∷ []) (equation (word (codes "h") 245) (node (number (pos 1)) 249) ∷ []) (edge_by (event_use (single (word (codes "e") 257)) syncs ∷ event_use (single (word (codes "f") 260)) syncs ∷ []) [] no_updates None
    ∷ [])
    ∷ place (Some (word (codes "q") 272)) false [] (equation (word (codes "h") 284) (node (number (pos 1)) 288) ∷ []) (edge_by (event_use (single (word (codes "e") 296)) syncs ∷ []) [] no_updates None
    ∷ [])
    ∷ [])))
    ∷ instance_item (instance_named (word (codes "x") 303) (single (word (codes "D") 306)) (node (number (pos 1)) 308 ∷ node (named (single (word (codes "e") 311))) 311 ∷ []))
    ∷ definition_item (word (codes "D") 325) (alg_param int_type (word (codes "y") 335) ∷ event_param class.Plain no_type (word (codes "z") 344) ∷ []) (group_body (source_list (decl_item (const_decl int_type (word (codes "k") 358) (node (number (pos 1)) 362)) ∷ definition_item (word (codes "U") 375) [] (group_body (source_list (decl_item (const_decl int_type (word (codes "l") 390) (node (number (pos 1)) 394)) ∷ []))) ∷ [])))
    ∷ [])

objects_counted : object_count objects ≡ 24
objects_counted = refl

one_past_the_limit : Exceeds 3 5 4
one_past_the_limit = (omega arith, refl)

-- ---- constants of instances alone, every operand evaluated

-- const int a = if true: 1 else 1 div 0 end, b = if 1 mod 0 = 1: 1 else 2 end, f = if false: 1 div 0 else 2 end; const bool c = false and 1 div 0 = 1, d = true or 1 div 0 = 1, e = true => 1 div 0 = 1; type T = int[1..0]; event int[2..1] m; alg int[0 div 0..9] g = 1 div 0; input int[-2147483647 - 1..2147483647] i; input int[-2147483647 - 2..2147483647 + 1] j; x: D(1); group def D(alg int[3..2] p): end group def U(alg int[3..2] p): const int[0..1] k = 2; end automaton h: disc int[0..3] v = 4; disc bool w = 1 div 0 = 1; disc int[-3..-1] u = 0; location: initial; end
abbrev all_faults : Source
all_faults = source_list (decl_item (const_decl int_type (word (codes "a") 10) (node (choice (branches_of ((trees_of (node (truth true) 17 ∷ []), (node (number (pos 1)) 23)) ∷ [])) (node (product (node (number (pos 1)) 30) (factors_of ((mul.Div, (node (number (pos 0)) 36)) ∷ []))) 30)) 14))
    ∷ decl_item (const_decl int_type (word (codes "b") 43) (node (choice (branches_of ((trees_of (node (comparison (node (product (node (number (pos 1)) 50) (factors_of ((mul.Mod, (node (number (pos 0)) 56)) ∷ []))) 50) cmp.Eq (node (number (pos 1)) 60)) 50 ∷ []), (node (number (pos 1)) 63)) ∷ [])) (node (number (pos 2)) 70)) 47))
    ∷ decl_item (const_decl int_type (word (codes "f") 77) (node (choice (branches_of ((trees_of (node (truth false) 84 ∷ []), (node (product (node (number (pos 1)) 91) (factors_of ((mul.Div, (node (number (pos 0)) 97)) ∷ []))) 91)) ∷ [])) (node (number (pos 2)) 104)) 81))
    ∷ decl_item (const_decl bool_type (word (codes "c") 122) (node (all_of (trees_of (node (truth false) 126 ∷ node (comparison (node (product (node (number (pos 1)) 136) (factors_of ((mul.Div, (node (number (pos 0)) 142)) ∷ []))) 136) cmp.Eq (node (number (pos 1)) 146)) 136 ∷ []))) 126))
    ∷ decl_item (const_decl bool_type (word (codes "d") 149) (node (any_of (trees_of (node (truth true) 153 ∷ node (comparison (node (product (node (number (pos 1)) 161) (factors_of ((mul.Div, (node (number (pos 0)) 167)) ∷ []))) 161) cmp.Eq (node (number (pos 1)) 171)) 161 ∷ []))) 153))
    ∷ decl_item (const_decl bool_type (word (codes "e") 174) (node (implication (node (truth true) 178) (node (comparison (node (product (node (number (pos 1)) 186) (factors_of ((mul.Div, (node (number (pos 0)) 192)) ∷ []))) 186) cmp.Eq (node (number (pos 1)) 196)) 186)) 178))
    ∷ decl_item (type_decl (word (codes "T") 204) (range_type (node (number (pos 1)) 212) (node (number (pos 0)) 215)))
    ∷ decl_item (event_decl class.Plain (value_type (range_type (node (number (pos 2)) 229) (node (number (pos 1)) 232))) (word (codes "m") 235))
    ∷ decl_item (alg_decl (range_type (node (product (node (number (pos 0)) 246) (factors_of ((mul.Div, (node (number (pos 0)) 252)) ∷ []))) 246) (node (number (pos 9)) 255)) (word (codes "g") 258) (Some (node (product (node (number (pos 1)) 262) (factors_of ((mul.Div, (node (number (pos 0)) 268)) ∷ []))) 262)))
    ∷ decl_item (input_decl (range_type (node (sum (node (negative (node (number (pos 2147483647)) 282)) 281) (terms_of ((true, (node (number (pos 1)) 295)) ∷ []))) 281) (node (number (pos 2147483647)) 298)) (word (codes "i") 310))
    ∷ decl_item (input_decl (range_type (node (sum (node (negative (node (number (pos 2147483647)) 324)) 323) (terms_of ((true, (node (number (pos 2)) 337)) ∷ []))) 323) (node (sum (node (number (pos 2147483647)) 340) (terms_of ((false, (node (number (pos 1)) 353)) ∷ []))) 340)) (word (codes "j") 356))
    ∷ instance_item (instance_named (word (codes "x") 359) (single (word (codes "D") 362)) (node (number (pos 1)) 364 ∷ []))
    ∷ definition_item (word (codes "D") 378) (alg_param (range_type (node (number (pos 3)) 388) (node (number (pos 2)) 391)) (word (codes "p") 394) ∷ []) (group_body (source_list []))
    ∷ definition_item (word (codes "U") 412) (alg_param (range_type (node (number (pos 3)) 422) (node (number (pos 2)) 425)) (word (codes "p") 428) ∷ []) (group_body (source_list (decl_item (const_decl (range_type (node (number (pos 0)) 442) (node (number (pos 1)) 445)) (word (codes "k") 448) (node (number (pos 2)) 452)) ∷ [])))
    ∷ component_item (word (codes "h") 469) (automaton_body (behaviour (disc_decl (range_type (node (number (pos 0)) 481) (node (number (pos 3)) 484)) (word (codes "v") 487) (Some (node (number (pos 4)) 491)) ∷ disc_decl bool_type (word (codes "w") 504) (Some (node (comparison (node (product (node (number (pos 1)) 508) (factors_of ((mul.Div, (node (number (pos 0)) 514)) ∷ []))) 508) cmp.Eq (node (number (pos 1)) 518)) 508)) ∷ disc_decl (range_type (node (negative (node (number (pos 3)) 531)) 530) (node (negative (node (number (pos 1)) 535)) 534)) (word (codes "u") 538) (Some (node (number (pos 0)) 542)) ∷ []) None None
    (place None true [] [] []
    ∷ [])))
    ∷ [])

faults_of_instances : faults all_faults ≡ 246 ∷ 14 ∷ 47 ∷ 81 ∷ 126 ∷ 153 ∷ 178 ∷ 323 ∷ 340 ∷ 212 ∷ 229 ∷ 388 ∷ 508 ∷ 491 ∷ 542 ∷ []
faults_of_instances = refl
