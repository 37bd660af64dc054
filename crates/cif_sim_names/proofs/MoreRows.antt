-- Further worked examples, each by computing from the tree of its text: the forms that lines of a script don't have, and reasons
-- beside each other.
use Rattle.std.proofs.Common.{◌≡◌, ℕ, pos, negsuc, [], ◌∷◌, Some, None, refl}
use Rattle.std.specs.Prelude.{codes, true, false}
use Rattle.std.specs.Fmt.{digits}
use Rattle.cif_ast.specs.Tree.{Tree, UpdateTree, node, truth, number, named, received, sum, comparison, assignment, selection, no_updates}
use Rattle.cif_ast.specs.View.{trees_of, terms_of, updates_of, update_branches_of}
use Rattle.cif_ast.specs.declared.expressions.CmpOp.TheVariants as cmp
use Rattle.cif_ast.specs.declared.declarations.Class.TheVariants as class
use Rattle.grammar.specs.Pieces.{Text}
use Rattle.cif_system.specs.System.{con, initial, unc}
use Rattle.cif_source.specs.Source.{range_type, no_type, void_type, value_type, syncs, sends, receives, needs, event_decl, disc_decl, always, invariant_decl, decl_item, component_item, automaton_body, Source}
use Rattle.cif_source.specs.Step.{system_of}
use Rattle.cif_source.proofs.Terms.{word, single, event_use, edge_by, place, behaviour, source_list}
use Rattle.cif_source.proofs.Rows.{two_classes, counter, invariant, frames}
use Rattle.cif_sim_model.specs.Runs.{first_event, first_event_of}
use Rattle.cif_sim_model.specs.Script.{idle, read_line}
use Rattle.cif_sim_model.specs.Simulation.{StopsAt, out_of_range, bad_line, script_moments, state_reached}
use Rattle.cif_why_model.specs.Reasons.{leaves, breaks, reasons_of}
use Rattle.cif_sim_names.specs.Sources.{names_of, told_of}
use Rattle.cif_sim_names.proofs.Rows.{alone, first_of, mixed, monitor_stays, run_of, why_of}

an_empty_script_starts : run_of alone [] ≡ codes "start\n"
unfolding digits
an_empty_script_starts = refl

a_value_may_be_set_again : run_of alone (codes "set k 2\nset k 2\nset k 0") ≡ codes "start\nset k=2\nset k=2\nset k=0\n"
unfolding digits
a_value_may_be_set_again = refl

two_returns_are_one_too_many : StopsAt (names_of alone) (system_of alone) (codes "set k 2\r\r\n") 1 bad_line
unfolding digits
two_returns_are_one_too_many = refl

a_line_of_a_blank_is_bad : StopsAt (names_of alone) (system_of alone) (codes "\n \n") 2 bad_line
unfolding digits
a_line_of_a_blank_is_bad = (idle, _, refl, refl, refl)

a_tab_is_no_blank : StopsAt (names_of alone) (system_of alone) (codes "set k\t2") 1 bad_line
unfolding digits
a_tab_is_no_blank = refl

nothing_stands_behind_a_value : read_line (names_of alone) (codes "set k 2 ") ≡ None
unfolding digits
nothing_stands_behind_a_value = refl

a_path_has_no_dollar : read_line (names_of alone) (codes "set $k 2") ≡ None
unfolding digits
a_path_has_no_dollar = refl

the_least_of_64_bits : StopsAt (names_of alone) (system_of alone) (codes "set k -9223372036854775808") 1 (out_of_range (negsuc 9223372036854775807))
unfolding digits
the_least_of_64_bits = (0, refl, refl)

below_64_bits : read_line (names_of alone) (codes "set k -9223372036854775809") ≡ None
unfolding digits
below_64_bits = refl

no_plus_before_a_number : read_line (names_of alone) (codes "set k +1") ≡ None
unfolding digits
no_plus_before_a_number = refl

a_minus_alone : read_line (names_of alone) (codes "set k -") ≡ None
unfolding digits
a_minus_alone = refl

an_empty_value : read_line (names_of alone) (codes "set k ") ≡ None
unfolding digits
an_empty_value = refl

no_truth_for_a_number : read_line (names_of alone) (codes "set k true") ≡ None
unfolding digits
no_truth_for_a_number = refl

fire_names_an_event : read_line (names_of two_classes) (codes "fire") ≡ None
unfolding digits
fire_names_an_event = refl

no_event_is_set : read_line (names_of two_classes) (codes "set A.u true") ≡ None
unfolding digits
no_event_is_set = refl

empty_lines_are_no_steps : run_of frames (codes "fire e\n\nfire e") ≡ codes "start p=* q=*\nstep 1 e\nstep 2 e\n"
unfolding digits
empty_lines_are_no_steps = refl

a_parameter_is_no_path : read_line (names_of frames) (codes "fire p.c") ≡ None
unfolding digits
a_parameter_is_no_path = refl

sets_are_no_steps : run_of mixed (codes "set b true\n\nfire a.e\nset b true\nfire a.e\n") ≡ codes "start a=* a.v=g a.w=false a.n=-2\nset b=true\nstep 1 a.e a.v=r a.w=true a.n=2\nset b=true\nstep 2 a.e a.n=-2\n"
unfolding digits
sets_are_no_steps = refl

nothing_is_read_behind_a_stop : script_moments (names_of alone) (system_of alone) (codes "\nset k 9\nset k z\n") ≡ record { action = idle; before = record { locs = []; vals = []; ins = pos 0 ∷ [] }; after = record { locs = []; vals = []; ins = pos 0 ∷ [] } } ∷ []
unfolding digits
nothing_is_read_behind_a_stop = refl

-- ---- reasons

-- event void m; automaton S: location a: initial; location b: edge m!; end automaton R: location a: initial; location b: edge m?; end automaton Y: alphabet m; location: initial; end
-- invariant {m, m} needs false;
abbrev all_parties : Source
all_parties = source_list (decl_item (event_decl class.Plain void_type (word (codes "m") 11))
    ∷ component_item (word (codes "Y") 20) (automaton_body (behaviour [] (Some (single (word (codes "m") 30) ∷ [])) None (place None true [] [] [] ∷ [])))
    ∷ component_item (word (codes "S") 24) (automaton_body (behaviour [] None None
    (place (Some (word (codes "a") 36)) true [] [] []
    ∷ place (Some (word (codes "b") 57)) false [] [] (edge_by (event_use (single (word (codes "m") 65)) (sends None) ∷ []) [] no_updates None ∷ []) ∷ [])))
    ∷ component_item (word (codes "R") 83) (automaton_body (behaviour [] None None
    (place (Some (word (codes "a") 91)) true [] [] []
    ∷ place (Some (word (codes "b") 95)) false [] [] (edge_by (event_use (single (word (codes "m") 110)) receives ∷ []) [] no_updates None ∷ []) ∷ [])))
    ∷ decl_item (invariant_decl (needs (single (word (codes "m") 128) ∷ single (word (codes "m") 131) ∷ []) (node (truth false) 140)))
    ∷ [])

each_of_the_parties : why_of all_parties [] 0 ≡ codes "blocks Y\nno sender\nno receiver\nexcluded 140\nexcluded 140\n"
unfolding digits
each_of_the_parties = refl

-- event int[0..3] m; S: m!5; T: m!3; R: disc int[0..2] v; m? do v := ?; invariant m needs false
abbrev two_senders : Source
two_senders = source_list (decl_item (event_decl class.Plain (value_type (range_type (node (number (pos 0)) 10) (node (number (pos 3)) 13))) (word (codes "m") 16))
    ∷ component_item (word (codes "S") 29) (automaton_body (behaviour [] None None
    (place None true [] [] (edge_by (event_use (single (word (codes "m") 56)) (sends (Some (node (number (pos 5)) 58))) ∷ []) [] no_updates None ∷ []) ∷ [])))
    ∷ component_item (word (codes "T") 60) (automaton_body (behaviour [] None None
    (place None true [] [] (edge_by (event_use (single (word (codes "m") 66)) (sends (Some (node (number (pos 3)) 68))) ∷ []) [] no_updates None ∷ []) ∷ [])))
    ∷ component_item (word (codes "R") 75) (automaton_body (behaviour (disc_decl (range_type (node (number (pos 0)) 87) (node (number (pos 4)) 90)) (word (codes "v") 93) None ∷ []) None None
    (place None true [] [] (edge_by (event_use (single (word (codes "m") 120)) receives ∷ []) [] (updates_of (assignment (single (word (codes "v") 126)) (node received 131) ∷ [])) None ∷ []) ∷ [])))
    ∷ decl_item (invariant_decl (needs (single (word (codes "m") 140) ∷ []) (node (truth false) 150)))
    ∷ [])

one_of_two_senders_is_in_range : why_of two_senders [] 0 ≡ codes "excluded 150\nleaves 58 m\n"
unfolding digits
one_of_two_senders_is_in_range = refl

-- event int[0..3] m; S: disc int[0..3] x = 3; m!1 do x := x + ?.. (9); R: m? ; the sender's own update is value 1
abbrev sender_updates : Source
sender_updates = source_list (decl_item (event_decl class.Plain (value_type (range_type (node (number (pos 0)) 10) (node (number (pos 3)) 13))) (word (codes "m") 16))
    ∷ component_item (word (codes "S") 29) (automaton_body (behaviour (disc_decl (range_type (node (number (pos 0)) 37) (node (number (pos 4)) 40)) (word (codes "x") 43) None ∷ []) None None
    (place None true [] [] (edge_by (event_use (single (word (codes "m") 56)) (sends (Some (node (number (pos 1)) 58))) ∷ []) [] (updates_of (assignment (single (word (codes "x") 63)) (node (number (pos 9)) 68) ∷ [])) None ∷ []) ∷ [])))
    ∷ component_item (word (codes "R") 75) (automaton_body (behaviour (disc_decl (range_type (node (number (pos 0)) 87) (node (number (pos 0)) 90)) (word (codes "v") 93) None ∷ []) None None
    (place None true [] [] (edge_by (event_use (single (word (codes "m") 120)) receives ∷ []) [] (updates_of (assignment (single (word (codes "v") 126)) (node received 131) ∷ [])) None ∷ []) ∷ [])))
    ∷ [])

sender_and_receiver_assign : reasons_of (system_of sender_updates) (told_of sender_updates) (state_reached (names_of sender_updates) (system_of sender_updates) []) 0 ≡ leaves 0 0 1 ∷ leaves 1 0 0 ∷ []
sender_and_receiver_assign = refl

sender_and_receiver_are_told : why_of sender_updates [] 0 ≡ codes "leaves 63 S.x\nleaves 126 R.v\n"
unfolding digits
sender_and_receiver_are_told = refl

-- automaton a: event e; disc int[0..3] w, x, y, z; edge e do if w = 1: if x = 1: x := 9 else y := 9 end, z := 1 elif w = 2: x := 1 else if w = 0: y := 1, z := 7 end end, w := 8
abbrev v_at : Text → ℕ → Tree
v_at t at = node (named (single (word t at))) at

abbrev is_num : Text → ℕ → ℕ → Tree
is_num t z at = node (comparison (v_at t at) cmp.Eq (node (number (pos z)) at)) at

abbrev becomes : Text → ℕ → ℕ → UpdateTree
becomes t at z = assignment (single (word t at)) (node (number (pos z)) at)

abbrev nested : Source
nested = source_list (component_item (word (codes "a") 10) (automaton_body (behaviour (event_decl class.Plain no_type (word (codes "e") 19)
    ∷ disc_decl (range_type (node (number (pos 0)) 31) (node (number (pos 3)) 34)) (word (codes "w") 37) None
    ∷ disc_decl (range_type (node (number (pos 0)) 31) (node (number (pos 3)) 34)) (word (codes "x") 37) None
    ∷ disc_decl (range_type (node (number (pos 0)) 31) (node (number (pos 3)) 34)) (word (codes "y") 37) None
    ∷ disc_decl (range_type (node (number (pos 0)) 31) (node (number (pos 3)) 34)) (word (codes "z") 40) None ∷ []) None None
    (place None true [] [] (edge_by (event_use (single (word (codes "e") 67)) syncs ∷ []) [] (updates_of (
    selection
    (update_branches_of (
    (trees_of (is_num (codes "w") 1 70 ∷ []), updates_of (selection (update_branches_of ((trees_of (is_num (codes "x") 1 71 ∷ []), updates_of (becomes (codes "x") 100 9 ∷ [])) ∷ [])) (updates_of (becomes (codes "y") 101 9 ∷ [])) ∷ becomes (codes "z") 102 1 ∷ []))
    ∷ (trees_of (is_num (codes "w") 2 72 ∷ []), updates_of (becomes (codes "x") 103 1 ∷ [])) ∷ []))
    (updates_of (selection (update_branches_of ((trees_of (is_num (codes "w") 0 73 ∷ []), updates_of (becomes (codes "y") 104 1 ∷ becomes (codes "z") 105 7 ∷ [])) ∷ [])) no_updates ∷ []))
    ∷ becomes (codes "w") 106 8 ∷ [])) None
    ∷ [])
    ∷ [])))
    ∷ [])

in_the_last_branch : reasons_of (system_of nested) (told_of nested) (state_reached (names_of nested) (system_of nested) []) 0 ≡ leaves 0 0 5 ∷ leaves 0 0 6 ∷ []
in_the_last_branch = refl

in_the_first_branch : reasons_of (system_of nested) (told_of nested) (record { locs = 0 ∷ []; vals = pos 1 ∷ pos 0 ∷ pos 0 ∷ pos 0 ∷ []; ins = [] }) 0 ≡ leaves 0 0 1 ∷ leaves 0 0 6 ∷ []
in_the_first_branch = refl

nested_branches_are_told : why_of nested [] 0 ≡ codes "leaves 105 a.z\nleaves 106 a.w\n"
unfolding digits
nested_branches_are_told = refl

-- a state in which the invariant (x <= 3 over a.x + b.y) is false already: every choice that agrees breaks it still
false_before_and_after : reasons_of (system_of invariant) (told_of invariant) (record { locs = 0 ∷ 0 ∷ []; vals = pos 3 ∷ pos 3 ∷ []; ins = [] }) 0 ≡ breaks 0 ∷ []
unfolding digits
false_before_and_after = refl

-- out of range: nothing is told of the invariant
no_invariant_where_values_leave : reasons_of (system_of invariant) (told_of invariant) (record { locs = 0 ∷ 0 ∷ []; vals = pos 9 ∷ pos 9 ∷ []; ins = [] }) 0 ≡ leaves 0 0 0 ∷ leaves 0 1 0 ∷ leaves 1 0 0 ∷ []
unfolding digits
no_invariant_where_values_leave = refl

-- x = 7 and y = 1: the first edge leaves, the second breaks
one_edge_leaves_one_breaks : reasons_of (system_of invariant) (told_of invariant) (record { locs = 0 ∷ 0 ∷ []; vals = pos 7 ∷ pos 1 ∷ []; ins = [] }) 0 ≡ leaves 0 0 0 ∷ breaks 0 ∷ []
unfolding digits
one_edge_leaves_one_breaks = refl

-- ---- more

as_many_steps_as_asked : first_of monitor_stays 1 ≡ codes "start A=p B=* B.n=0\nstep 1 e A=q\n"
unfolding digits
as_many_steps_as_asked = refl

-- event void m; (a channel in no role)
abbrev unused_channel : Source
unused_channel = source_list (decl_item (event_decl class.Plain void_type (word (codes "m") 11)) ∷ [])

a_channel_without_a_role : why_of unused_channel [] 0 ≡ codes "no automaton takes part\n"
unfolding digits
a_channel_without_a_role = refl

-- automaton a: event e, f; disc int[0..3] x = 3; location: initial; edge f, e do x := x + 1; end : the use of e is edge 1
abbrev second_use : Source
second_use = source_list (component_item (word (codes "a") 10) (automaton_body (behaviour (event_decl class.Plain no_type (word (codes "e") 19) ∷ event_decl class.Plain no_type (word (codes "f") 20)
    ∷ disc_decl (range_type (node (number (pos 0)) 31) (node (number (pos 3)) 34)) (word (codes "x") 37) (Some (node (number (pos 3)) 38)) ∷ []) None None
    (place None true [] [] (edge_by (event_use (single (word (codes "f") 60)) syncs ∷ event_use (single (word (codes "e") 67)) syncs ∷ []) [] (updates_of (assignment (single (word (codes "x") 163)) (node (sum (v_at (codes "x") 168) (terms_of ((false, (node (number (pos 1)) 172)) ∷ []))) 168) ∷ [])) None ∷ []) ∷ [])))
    ∷ [])

the_second_use_is_edge_1 : reasons_of (system_of second_use) (told_of second_use) (state_reached (names_of second_use) (system_of second_use) []) 0 ≡ leaves 0 1 0 ∷ []
the_second_use_is_edge_1 = refl

the_first_use_is_edge_0 : reasons_of (system_of second_use) (told_of second_use) (state_reached (names_of second_use) (system_of second_use) []) 1 ≡ leaves 0 0 0 ∷ []
the_first_use_is_edge_0 = refl

-- automaton a: event e; disc int[0..9] x; edge e do x := 1; edge e do x := 2; end invariant x != 2; invariant x != 1;
abbrev two_invariants : Source
two_invariants = source_list (component_item (word (codes "a") 10) (automaton_body (behaviour (event_decl class.Plain no_type (word (codes "e") 19)
    ∷ disc_decl (range_type (node (number (pos 0)) 31) (node (number (pos 9)) 34)) (word (codes "x") 37) None
    ∷ invariant_decl (always (node (comparison (v_at (codes "x") 40) cmp.Ne (node (number (pos 2)) 44)) 40))
    ∷ invariant_decl (always (node (comparison (v_at (codes "x") 50) cmp.Ne (node (number (pos 1)) 54)) 50)) ∷ []) None None
    (place None true [] [] (edge_by (event_use (single (word (codes "e") 60)) syncs ∷ []) [] (updates_of (becomes (codes "x") 61 1 ∷ [])) None
    ∷ edge_by (event_use (single (word (codes "e") 62)) syncs ∷ []) [] (updates_of (becomes (codes "x") 63 2 ∷ [])) None ∷ []) ∷ [])))
    ∷ [])

each_choice_breaks_another : why_of two_invariants [] 0 ≡ codes "breaks 40\nbreaks 50\n"
unfolding digits
each_choice_breaks_another = refl

-- a choice that repairs a false invariant is a step: x = 2, by x := 1 breaks 50, by x := 2 breaks 40; with x = 7 the same
no_reason_where_it_has_a_step : reasons_of (system_of counter) (told_of counter) (record { locs = 0 ∷ []; vals = pos 3 ∷ []; ins = [] }) 0 ≡ []
no_reason_where_it_has_a_step = refl

-- ---- the first event of a class

the_first_is_uncontrollable : first_event (system_of two_classes) (initial (system_of two_classes)) ≡ Some 0
the_first_is_uncontrollable = refl

no_controllable_event_at_first : first_event_of (system_of two_classes) con (initial (system_of two_classes)) ≡ None
no_controllable_event_at_first = refl

after_it_a_controllable_one : first_event_of (system_of two_classes) con (state_reached (names_of two_classes) (system_of two_classes) (codes "fire A.u")) ≡ Some 1
unfolding digits
after_it_a_controllable_one = refl

and_no_other : first_event_of (system_of two_classes) unc (state_reached (names_of two_classes) (system_of two_classes) (codes "fire A.u")) ≡ None
unfolding digits
and_no_other = refl
