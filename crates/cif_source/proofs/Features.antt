-- A source with equations by location, enumerations, named types, constants in one another, a void channel, conditional
-- updates, location and alg parameters, a name that passes an instance, and an exclusion.
use Rattle.std.proofs.Common.{◌≡◌, ℕ, ℤ, pos, negsuc, List, [], ◌∷◌, Some, None, refl}
use Rattle.cif_system.specs.System.{System, State, initial, outputs}
use Rattle.cif_system.specs.Choices.{first_step}
use Rattle.cif_source.specs.Step.{system_of}
use Rattle.std.specs.Prelude.{codes, pos, true, false, [], ◌∷◌, Some, None}
use Rattle.cif_ast.specs.Tree.{node, truth, number, named, paren, negative, negation, absolute, greatest, sum, product, comparison, all_of, choice, assignment, selection, no_updates}
use Rattle.cif_ast.specs.View.{trees_of, terms_of, factors_of, branches_of, updates_of, update_branches_of}
use Rattle.cif_ast.specs.declared.expressions.CmpOp.TheVariants as cmp
use Rattle.cif_ast.specs.declared.expressions.MulOp.TheVariants as mul
use Rattle.cif_ast.specs.declared.declarations.Class.TheVariants as class
use Rattle.cif_source.specs.Source.{bool_type, int_type, range_type, named_type, no_type, void_type, syncs, sends, receives, needs, disables, type_decl, enum_decl, event_decl, const_decl, alg_decl, disc_decl, invariant_decl, alg_param, location_param, decl_item, component_item, definition_item, instance_item, group_body, automaton_body, Source}
use Rattle.cif_source.proofs.Terms.{word, single, dotted, event_use, edge_by, equation, place, behaviour, instance_named, source_list}

-- The text is:
--     enum E = low, high; type T = int[0..K]; const int K = L + 1, L = 2; event void v; controllable c;
--     automaton A: alg int g; location p: initial; equation g = 1; edge v! goto q; location q: equation g = 5; edge c goto p; end
--     automaton B: disc T n = 2; disc E s = high; location: initial; edge v? do if A.p: n := A.g + n elif true: n := 0 else n := 1 end, s := low; edge c when n = 3, s = low do n := (-7 mod 3) + 1; end
--     w: D(A.q, A.g * 2); automaton def D(location l; alg int h): event e; disc int[-4..20] m; location: initial; edge e when l do m := if l and h > 9: max(h, 3) - abs(-1) else 0 end; end
--     requirement c needs G.x.y; group G: x: H.Dn(A.p); end group H: group def Dn(location z): alg bool y = not z; end end
abbrev pub features_tree : Source
features_tree = source_list (decl_item (enum_decl (word (codes "E") 5) (word (codes "low") 9 ∷ word (codes "high") 14 ∷ []))
    ∷ decl_item (type_decl (word (codes "T") 25) (range_type (node (number (pos 0)) 33) (node (named (single (word (codes "K") 36))) 36)))
    ∷ decl_item (const_decl int_type (word (codes "K") 50) (node (sum (node (named (single (word (codes "L") 54))) 54) (terms_of ((false, (node (number (pos 1)) 58)) ∷ []))) 54))
    ∷ decl_item (const_decl int_type (word (codes "L") 61) (node (number (pos 2)) 65))
    ∷ decl_item (event_decl class.Plain void_type (word (codes "v") 79))
    ∷ decl_item (event_decl class.Con no_type (word (codes "c") 95))
    ∷ component_item (word (codes "A") 108) (automaton_body (behaviour (alg_decl int_type (word (codes "g") 119) None ∷ []) None None
    (place (Some (word (codes "p") 131)) true [] (equation (word (codes "g") 152) (node (number (pos 1)) 156) ∷ []) (edge_by (event_use (single (word (codes "v") 164)) (sends None) ∷ []) [] no_updates (Some (word (codes "q") 172))
    ∷ [])
    ∷ place (Some (word (codes "q") 184)) false [] (equation (word (codes "g") 196) (node (number (pos 5)) 200) ∷ []) (edge_by (event_use (single (word (codes "c") 208)) syncs ∷ []) [] no_updates (Some (word (codes "p") 215))
    ∷ [])
    ∷ [])))
    ∷ component_item (word (codes "B") 232) (automaton_body (behaviour (disc_decl (named_type (single (word (codes "T") 240))) (word (codes "n") 242) (Some (node (number (pos 2)) 246)) ∷ disc_decl (named_type (single (word (codes "E") 254))) (word (codes "s") 256) (Some (node (named (single (word (codes "high") 260))) 260)) ∷ []) None None
    (place None true [] [] (edge_by (event_use (single (word (codes "v") 290)) receives ∷ []) [] (updates_of (selection (update_branches_of ((trees_of (node (named (dotted false (word (codes "A") 299 ∷ word (codes "p") 301 ∷ []) 299)) 299 ∷ []), (updates_of (assignment (single (word (codes "n") 304)) (node (sum (node (named (dotted false (word (codes "A") 309 ∷ word (codes "g") 311 ∷ []) 309)) 309) (terms_of ((false, (node (named (single (word (codes "n") 315))) 315)) ∷ []))) 309) ∷ []))) ∷ (trees_of (node (truth true) 322 ∷ []), (updates_of (assignment (single (word (codes "n") 328)) (node (number (pos 0)) 333) ∷ []))) ∷ [])) (updates_of (assignment (single (word (codes "n") 340)) (node (number (pos 1)) 345) ∷ [])) ∷ assignment (single (word (codes "s") 352)) (node (named (single (word (codes "low") 357))) 357) ∷ [])) None
    ∷ edge_by (event_use (single (word (codes "c") 367)) syncs ∷ []) (node (comparison (node (named (single (word (codes "n") 374))) 374) cmp.Eq (node (number (pos 3)) 378)) 374 ∷ node (comparison (node (named (single (word (codes "s") 381))) 381) cmp.Eq (node (named (single (word (codes "low") 385))) 385)) 381 ∷ []) (updates_of (assignment (single (word (codes "n") 392)) (node (sum (node (paren (node (product (node (negative (node (number (pos 7)) 399)) 398) (factors_of ((mul.Mod, (node (number (pos 3)) 405)) ∷ []))) 398)) 397) (terms_of ((false, (node (number (pos 1)) 410)) ∷ []))) 397) ∷ [])) None
    ∷ [])
    ∷ [])))
    ∷ instance_item (instance_named (word (codes "w") 417) (single (word (codes "D") 420)) (node (named (dotted false (word (codes "A") 422 ∷ word (codes "q") 424 ∷ []) 422)) 422 ∷ node (product (node (named (dotted false (word (codes "A") 427 ∷ word (codes "g") 429 ∷ []) 427)) 427) (factors_of ((mul.Times, (node (number (pos 2)) 433)) ∷ []))) 427 ∷ []))
    ∷ definition_item (word (codes "D") 451) (location_param (word (codes "l") 462) ∷ alg_param int_type (word (codes "h") 473) ∷ []) (automaton_body (behaviour (event_decl class.Plain no_type (word (codes "e") 483) ∷ disc_decl (range_type (node (negative (node (number (pos 4)) 496)) 495) (node (number (pos 20)) 499)) (word (codes "m") 503) None ∷ []) None None
    (place None true [] [] (edge_by (event_use (single (word (codes "e") 530)) syncs ∷ []) (node (named (single (word (codes "l") 537))) 537 ∷ []) (updates_of (assignment (single (word (codes "m") 542)) (node (choice (branches_of ((trees_of (node (all_of (trees_of (node (named (single (word (codes "l") 550))) 550 ∷ node (comparison (node (named (single (word (codes "h") 556))) 556) cmp.Gt (node (number (pos 9)) 560)) 556 ∷ []))) 550 ∷ []), (node (sum (node (greatest (node (named (single (word (codes "h") 567))) 567) (node (number (pos 3)) 570)) 563) (terms_of ((true, (node (absolute (node (negative (node (number (pos 1)) 580)) 579)) 575)) ∷ []))) 563)) ∷ [])) (node (number (pos 0)) 588)) 547) ∷ [])) None
    ∷ [])
    ∷ [])))
    ∷ decl_item (invariant_decl (needs (single (word (codes "c") 611) ∷ []) (node (named (dotted false (word (codes "G") 619 ∷ word (codes "x") 621 ∷ word (codes "y") 623 ∷ []) 619)) 619)))
    ∷ component_item (word (codes "G") 632) (group_body (source_list (instance_item (instance_named (word (codes "x") 635) (dotted false (word (codes "H") 638 ∷ word (codes "Dn") 640 ∷ []) 638) (node (named (dotted false (word (codes "A") 643 ∷ word (codes "p") 645 ∷ []) 643)) 643 ∷ [])) ∷ [])))
    ∷ component_item (word (codes "H") 659) (group_body (source_list (definition_item (word (codes "Dn") 672) (location_param (word (codes "z") 684) ∷ []) (group_body (source_list (decl_item (alg_decl bool_type (word (codes "y") 697) (Some (node (negation (node (named (single (word (codes "z") 705))) 705)) 701))) ∷ []))) ∷ [])))
    ∷ [])

abbrev features : System
features = system_of features_tree

-- the places of A, B and w, and the values of n, s and m
abbrev at : List ℕ → List ℤ → State
at locs vals = record { locs = locs; vals = vals; ins = [] }

abbrev start : State
start = at (0 ∷ 0 ∷ 0 ∷ []) (pos 2 ∷ pos 1 ∷ pos 0 ∷ [])

abbrev sent : State
sent = at (1 ∷ 0 ∷ 0 ∷ []) (pos 3 ∷ pos 0 ∷ pos 0 ∷ [])

first_values : initial features ≡ start
first_values = refl

-- along v: n is 1 + 2 by the equation of the old location
v_reads_the_old_location : first_step features start 0 ≡ Some sent
v_reads_the_old_location = refl

-- e waits for the location that the parameter denotes
e_waits : first_step features start 2 ≡ None
e_waits = refl

e_is_enabled : first_step features sent 2 ≡ Some (at (1 ∷ 0 ∷ 0 ∷ []) (pos 3 ∷ pos 0 ∷ pos 9 ∷ []))
e_is_enabled = refl

-- c needs that A is not in p, told through an instance whose definition stands further down
c_is_permitted : first_step features sent 1 ≡ Some (at (0 ∷ 0 ∷ 0 ∷ []) (pos 0 ∷ pos 0 ∷ pos 0 ∷ []))
c_is_permitted = refl

algebraic_values : outputs features sent ≡ record { places = 1 ∷ 0 ∷ 0 ∷ []; values = pos 3 ∷ pos 0 ∷ pos 0 ∷ []; algs = pos 5 ∷ pos 1 ∷ [] }
algebraic_values = refl

-- alg int q = -7 div 2; alg int r = -7 mod 2;
abbrev quotients : Source
quotients = source_list (decl_item (alg_decl int_type (word (codes "q") 8) (Some (node (product (node (negative (node (number (pos 7)) 13)) 12) (factors_of ((mul.Div, (node (number (pos 2)) 19)) ∷ []))) 12)))
    ∷ decl_item (alg_decl int_type (word (codes "r") 30) (Some (node (product (node (negative (node (number (pos 7)) 35)) 34) (factors_of ((mul.Mod, (node (number (pos 2)) 41)) ∷ []))) 34)))
    ∷ [])

division_truncates : outputs (system_of quotients) (initial (system_of quotients)) ≡ record { places = []; values = []; algs = negsuc 2 ∷ negsuc 0 ∷ [] }
division_truncates = refl

-- without a first value a variable has the value nearest to 0
-- automaton a: disc int[3..5] x; disc int[-5..-3] y; disc int z; disc bool b; location: initial; end
abbrev nearest : Source
nearest = source_list (component_item (word (codes "a") 10) (automaton_body (behaviour (disc_decl (range_type (node (number (pos 3)) 22) (node (number (pos 5)) 25)) (word (codes "x") 28) None ∷ disc_decl (range_type (node (negative (node (number (pos 5)) 41)) 40) (node (negative (node (number (pos 3)) 45)) 44)) (word (codes "y") 48) None ∷ disc_decl int_type (word (codes "z") 60) None ∷ disc_decl bool_type (word (codes "b") 73) None ∷ []) None None
    (place None true [] [] []
    ∷ [])))
    ∷ [])

nearest_to_zero : (initial (system_of nearest)).vals ≡ pos 3 ∷ negsuc 2 ∷ pos 0 ∷ pos 0 ∷ []
nearest_to_zero = refl

-- `monitor;` monitors the whole alphabet: B stays where it has no open edge
-- event e; automaton A: location: initial; edge e; end automaton B: monitor; alphabet e; location: initial; end
abbrev monitors_all : Source
monitors_all = source_list (decl_item (event_decl class.Plain no_type (word (codes "e") 6))
    ∷ component_item (word (codes "A") 19) (automaton_body (behaviour [] None None
    (place None true [] [] (edge_by (event_use (single (word (codes "e") 46)) syncs ∷ []) [] no_updates None
    ∷ [])
    ∷ [])))
    ∷ component_item (word (codes "B") 63) (automaton_body (behaviour [] (Some (single (word (codes "e") 84) ∷ [])) (Some [])
    (place None true [] [] []
    ∷ [])))
    ∷ [])

monitoring_all_passes : first_step (system_of monitors_all) (initial (system_of monitors_all)) 0 ≡ Some (at (0 ∷ 0 ∷ []) [])
monitoring_all_passes = refl

-- a predicate disables the first of the events, and the second needs it
-- controllable c, d; automaton a: disc bool b = true; location: initial; edge c, d do b := not b; end requirement a.b disables {c}, d needs a.b;
abbrev exclusions : Source
exclusions = source_list (decl_item (event_decl class.Con no_type (word (codes "c") 13))
    ∷ decl_item (event_decl class.Con no_type (word (codes "d") 16))
    ∷ component_item (word (codes "a") 29) (automaton_body (behaviour (disc_decl bool_type (word (codes "b") 42) (Some (node (truth true) 46)) ∷ []) None None
    (place None true [] [] (edge_by (event_use (single (word (codes "c") 76)) syncs ∷ event_use (single (word (codes "d") 79)) syncs ∷ []) [] (updates_of (assignment (single (word (codes "b") 84)) (node (negation (node (named (single (word (codes "b") 93))) 93)) 89) ∷ [])) None
    ∷ [])
    ∷ [])))
    ∷ decl_item (invariant_decl (disables (node (named (dotted false (word (codes "a") 112 ∷ word (codes "b") 114 ∷ []) 112)) 112) (single (word (codes "c") 126) ∷ [])))
    ∷ decl_item (invariant_decl (needs (single (word (codes "d") 130) ∷ []) (node (named (dotted false (word (codes "a") 138 ∷ word (codes "b") 140 ∷ []) 138)) 138)))
    ∷ [])

c_is_disabled : first_step (system_of exclusions) (at (0 ∷ []) (pos 1 ∷ [])) 0 ≡ None
c_is_disabled = refl

d_has_what_it_needs : first_step (system_of exclusions) (at (0 ∷ []) (pos 1 ∷ [])) 1 ≡ Some (at (0 ∷ []) (pos 0 ∷ []))
d_has_what_it_needs = refl

c_is_not_disabled : first_step (system_of exclusions) (at (0 ∷ []) (pos 0 ∷ [])) 0 ≡ Some (at (0 ∷ []) (pos 1 ∷ []))
c_is_not_disabled = refl

d_lacks_what_it_needs : first_step (system_of exclusions) (at (0 ∷ []) (pos 0 ∷ [])) 1 ≡ None
d_lacks_what_it_needs = refl
