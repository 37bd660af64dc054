-- Worked examples of what simulations write and of reasons, each by computing from the tree of its text.
use Rattle.std.proofs.Common.{◌≡◌, ℕ, pos, negsuc, [], ◌∷◌, Some, None, refl}
use Rattle.std.specs.Prelude.{codes, true, false}
use Rattle.std.specs.Fmt.{digits}
use Rattle.cif_ast.specs.Tree.{node, truth, number, named, received, negative, sum, comparison, assignment, selection, no_updates}
use Rattle.cif_ast.specs.View.{trees_of, terms_of, updates_of, update_branches_of}
use Rattle.cif_ast.specs.declared.expressions.CmpOp.TheVariants as cmp
use Rattle.cif_ast.specs.declared.declarations.Class.TheVariants as class
use Rattle.grammar.specs.Pieces.{Text}
use Rattle.cif_source.specs.Source.{bool_type, range_type, named_type, no_type, void_type, value_type, syncs, sends, receives, needs, enum_decl, event_decl, input_decl, disc_decl, invariant_decl, decl_item, component_item, automaton_body, Source}
use Rattle.cif_source.specs.Step.{system_of}
use Rattle.cif_source.proofs.Terms.{word, single, dotted, event_use, edge_by, place, behaviour, source_list}
use Rattle.cif_source.proofs.Rows.{two_classes, counter, invariant, frames}
use Rattle.cif_source.proofs.Cell.{cell_tree}
use Rattle.cif_inst_model.proofs.Trees.{swap, channel}
use Rattle.cif_inst_model.specs.Flat.{net_of_source}
use Rattle.cif_net_model.specs.Meaning.{system_of_net}
use Rattle.cif_sim_model.specs.Script.{idle, sets, fires, read_line}
use Rattle.cif_sim_model.specs.Simulation.{StopsAt, out_of_range, bad_line, first_text, script_moments, script_text, state_reached}
use Rattle.cif_why_model.specs.Reasons.{leaves, reasons_of}
use Rattle.cif_why_model.specs.Lines.{reasons_text}
use Rattle.cif_sim_names.specs.Nets.{names_of_net, told_of_net}
use Rattle.cif_sim_names.specs.Sources.{names_of, told_of}

-- what `simulate FILE --first N` writes of a source, and `simulate FILE SCRIPT`
abbrev pub first_of : Source → ℕ → Text
first_of t n = first_text (names_of t) (system_of t) n

abbrev pub run_of : Source → Text → Text
run_of t script = script_text (names_of t) (system_of t) script

-- what `why FILE SCRIPT EVENT` writes of a source, of the event with this number
abbrev pub why_of : Source → Text → (event : ℕ) → Text
why_of t script e = reasons_text (told_of t) (reasons_of (system_of t) (told_of t) (state_reached (names_of t) (system_of t) script) e)

-- ---- steps by the first event that has one

two_classes_take_turns : first_of two_classes 3 ≡ codes "start A=x\nstep 1 A.u A=y\nstep 2 A.c A=x\nstep 3 A.u A=y\n"
unfolding digits
two_classes_take_turns = refl

no_step_is_no_deadlock : first_of two_classes 0 ≡ codes "start A=x\n"
unfolding digits
no_step_is_no_deadlock = refl

values_are_swapped : first_of swap 1 ≡ codes "start a=* a.x=1 a.y=2\nstep 1 a.e a.x=2 a.y=1\n"
unfolding digits
values_are_swapped = refl

-- controllable e; plant A: location p: initial; edge e goto q; location q; end automaton B: monitor e; disc int[0..5] n = 0; location: initial; edge e when false do n := n + 1; end
abbrev pub monitor_stays : Source
monitor_stays = source_list (decl_item (event_decl class.Con no_type (word (codes "e") 13))
    ∷ component_item (word (codes "A") 22) (automaton_body (behaviour [] None None
    (place (Some (word (codes "p") 34)) true [] [] (edge_by (event_use (single (word (codes "e") 51)) syncs ∷ []) [] no_updates (Some (word (codes "q") 58))
    ∷ [])
    ∷ place (Some (word (codes "q") 70)) false [] [] []
    ∷ [])))
    ∷ component_item (word (codes "B") 87) (automaton_body (behaviour (disc_decl (range_type (node (number (pos 0)) 110) (node (number (pos 5)) 113)) (word (codes "n") 116) (Some (node (number (pos 0)) 120)) ∷ []) None (Some (single (word (codes "e") 98) ∷ []))
    (place None true [] [] (edge_by (event_use (single (word (codes "e") 147)) syncs ∷ []) (node (truth false) 154 ∷ []) (updates_of (assignment (single (word (codes "n") 163)) (node (sum (node (named (single (word (codes "n") 168))) 168) (terms_of ((false, (node (number (pos 1)) 172)) ∷ []))) 168) ∷ [])) None
    ∷ [])
    ∷ [])))
    ∷ [])

monitor_is_passed : first_of monitor_stays 2 ≡ codes "start A=p B=* B.n=0\nstep 1 e A=q\ndeadlock\n"
unfolding digits
monitor_is_passed = refl

-- controllable e; plant A: location p: initial; edge e goto q; location q; end automaton B: monitor e; disc int[0..5] n = 0; location: initial; edge e when true do n := n + 1; end
abbrev monitor_moves : Source
monitor_moves = source_list (decl_item (event_decl class.Con no_type (word (codes "e") 13))
    ∷ component_item (word (codes "A") 22) (automaton_body (behaviour [] None None
    (place (Some (word (codes "p") 34)) true [] [] (edge_by (event_use (single (word (codes "e") 51)) syncs ∷ []) [] no_updates (Some (word (codes "q") 58))
    ∷ [])
    ∷ place (Some (word (codes "q") 70)) false [] [] []
    ∷ [])))
    ∷ component_item (word (codes "B") 87) (automaton_body (behaviour (disc_decl (range_type (node (number (pos 0)) 110) (node (number (pos 5)) 113)) (word (codes "n") 116) (Some (node (number (pos 0)) 120)) ∷ []) None (Some (single (word (codes "e") 98) ∷ []))
    (place None true [] [] (edge_by (event_use (single (word (codes "e") 147)) syncs ∷ []) (node (truth true) 154 ∷ []) (updates_of (assignment (single (word (codes "n") 162)) (node (sum (node (named (single (word (codes "n") 167))) 167) (terms_of ((false, (node (number (pos 1)) 171)) ∷ []))) 167) ∷ [])) None
    ∷ [])
    ∷ [])))
    ∷ [])

monitor_takes_part : first_of monitor_moves 1 ≡ codes "start A=p B=* B.n=0\nstep 1 e A=q B.n=1\n"
unfolding digits
monitor_takes_part = refl

four_is_received : first_of channel 1 ≡ codes "start S=* T=* R=* R.v=0\nstep 1 m R.v=4\n"
unfolding digits
four_is_received = refl

-- event e; automaton A: alphabet e; location: initial; end automaton B: location: initial; edge e; end
abbrev declared_alphabet : Source
declared_alphabet = source_list (decl_item (event_decl class.Plain no_type (word (codes "e") 6))
    ∷ component_item (word (codes "A") 19) (automaton_body (behaviour [] (Some (single (word (codes "e") 31) ∷ [])) None
    (place None true [] [] []
    ∷ [])))
    ∷ component_item (word (codes "B") 67) (automaton_body (behaviour [] None None
    (place None true [] [] (edge_by (event_use (single (word (codes "e") 94)) syncs ∷ []) [] no_updates None
    ∷ [])
    ∷ [])))
    ∷ [])

alphabet_blocks : first_of declared_alphabet 1 ≡ codes "start A=* B=*\ndeadlock\n"
unfolding digits
alphabet_blocks = refl

invariant_keeps_the_first_edge_out : first_of invariant 2 ≡ codes "start a=* b=* a.x=0 b.y=1\nstep 1 e a.x=1 b.y=2\ndeadlock\n"
unfolding digits
invariant_keeps_the_first_edge_out = refl

arguments_stand_where_they_are_given : first_of frames 2 ≡ codes "start p=* q=*\nstep 1 e\nstep 2 e\n"
unfolding digits
arguments_stand_where_they_are_given = refl

-- ---- scripts

script_stops_at_once : run_of two_classes (codes "fire A.c\n") ≡ codes "start A=x\n"
unfolding digits
script_stops_at_once = refl

c_is_not_enabled : read_line (names_of two_classes) (codes "fire A.c") ≡ Some (fires 1)
unfolding digits
c_is_not_enabled = refl

f_is_not_enabled : run_of frames (codes "fire f") ≡ codes "start p=* q=*\n"
unfolding digits
f_is_not_enabled = refl

-- input int[0..3] k;
abbrev pub alone : Source
alone = source_list (decl_item (input_decl (range_type (node (number (pos 0)) 10) (node (number (pos 3)) 13)) (word (codes "k") 16)) ∷ [])

one_value_is_in_range : run_of alone (codes "set k 2\nset k 7\n") ≡ codes "start\nset k=2\n"
unfolding digits
one_value_is_in_range = refl

the_other_is_not : StopsAt (names_of alone) (system_of alone) (codes "set k 2\nset k 7\n") 2 (out_of_range (pos 7))
unfolding digits
the_other_is_not = (sets 0 (pos 2), _, refl, refl, (0, refl, refl))

not_this_way : StopsAt (names_of alone) (system_of alone) (codes "set k=2") 1 bad_line
unfolding digits
not_this_way = refl

empty_lines_do_nothing : run_of alone (codes "\n\r\nset k 1\r\n\nset k 0\r") ≡ codes "start\nset k=1\nset k=0\n"
unfolding digits
empty_lines_do_nothing = refl

no_other_decimals : StopsAt (names_of alone) (system_of alone) (codes "set k 02") 1 bad_line
unfolding digits
no_other_decimals = refl

two_spaces_are_too_many : StopsAt (names_of alone) (system_of alone) (codes "set k  2") 1 bad_line
unfolding digits
two_spaces_are_too_many = refl

nothing_before_a_name : StopsAt (names_of two_classes) (system_of two_classes) (codes "fire .A.u") 1 bad_line
unfolding digits
nothing_before_a_name = refl

beyond_64_bits : StopsAt (names_of alone) (system_of alone) (codes "set k 9223372036854775808") 1 bad_line
unfolding digits
beyond_64_bits = refl

within_64_bits : StopsAt (names_of alone) (system_of alone) (codes "set k 9223372036854775807") 1 (out_of_range (pos 9223372036854775807))
unfolding digits
within_64_bits = (0, refl, refl)

c_follows_u : run_of two_classes (codes "fire A.u\n\nfire A.c\nfire A.u\nfire A.u\nset A.u\n") ≡ codes "start A=x\nstep 1 A.u A=y\nstep 2 A.c A=x\nstep 3 A.u A=y\n"
unfolding digits
c_follows_u = refl

-- the empty line is counted
it_stops_at_the_fifth_line : script_moments (names_of two_classes) (system_of two_classes) (codes "fire A.u\n\nfire A.c\nfire A.u\nfire A.u\nset A.u\n")
    ≡ record { action = fires 0; before = record { locs = 0 ∷ []; vals = []; ins = [] }; after = record { locs = 1 ∷ []; vals = []; ins = [] } }
    ∷ record { action = idle; before = record { locs = 1 ∷ []; vals = []; ins = [] }; after = record { locs = 1 ∷ []; vals = []; ins = [] } }
    ∷ record { action = fires 1; before = record { locs = 1 ∷ []; vals = []; ins = [] }; after = record { locs = 0 ∷ []; vals = []; ins = [] } }
    ∷ record { action = fires 0; before = record { locs = 0 ∷ []; vals = []; ins = [] }; after = record { locs = 1 ∷ []; vals = []; ins = [] } } ∷ []
it_stops_at_the_fifth_line = refl

-- enum T = r, g; input T c; input bool b; automaton a: event e; disc T v = g; disc bool w; disc int[-3..3] n = -2; location: initial; edge e do v := c, w := b, n := -n; end
abbrev pub mixed : Source
mixed = source_list (decl_item (enum_decl (word (codes "T") 5) (word (codes "r") 9 ∷ word (codes "g") 12 ∷ []))
    ∷ decl_item (input_decl (named_type (single (word (codes "T") 21))) (word (codes "c") 23))
    ∷ decl_item (input_decl bool_type (word (codes "b") 37))
    ∷ component_item (word (codes "a") 50) (automaton_body (behaviour (event_decl class.Plain no_type (word (codes "e") 59)
    ∷ disc_decl (named_type (single (word (codes "T") 67))) (word (codes "v") 69) (Some (node (named (single (word (codes "g") 73))) 73))
    ∷ disc_decl bool_type (word (codes "w") 86) None
    ∷ disc_decl (range_type (node (negative (node (number (pos 3)) 99)) 98) (node (number (pos 3)) 102)) (word (codes "n") 105) (Some (node (negative (node (number (pos 2)) 110)) 109)) ∷ []) None None
    (place None true [] [] (edge_by (event_use (single (word (codes "e") 137)) syncs ∷ []) [] (updates_of (assignment (single (word (codes "v") 142)) (node (named (single (word (codes "c") 147))) 147)
    ∷ assignment (single (word (codes "w") 150)) (node (named (single (word (codes "b") 155))) 155)
    ∷ assignment (single (word (codes "n") 158)) (node (negative (node (named (single (word (codes "n") 164))) 164)) 163) ∷ [])) None
    ∷ [])
    ∷ [])))
    ∷ [])

values_are_told_by_their_kinds : run_of mixed (codes "set b true\nset c g\nfire a.e\nset c r\nfire a.e")
    ≡ codes "start a=* a.v=g a.w=false a.n=-2\nset b=true\nset c=g\nstep 1 a.e a.w=true a.n=2\nset c=r\nstep 2 a.e a.v=r a.n=-2\n"
unfolding digits
values_are_told_by_their_kinds = refl

no_place_for_a_literal : StopsAt (names_of mixed) (system_of mixed) (codes "set c 1") 1 bad_line
no_place_for_a_literal = refl

no_number_for_a_truth : StopsAt (names_of mixed) (system_of mixed) (codes "set b 1") 1 bad_line
no_number_for_a_truth = refl

no_variable_is_set : StopsAt (names_of mixed) (system_of mixed) (codes "set a.w true") 1 bad_line
no_variable_is_set = refl

no_minus_before_zero : read_line (names_of alone) (codes "set k -0") ≡ None
unfolding digits
no_minus_before_zero = refl

minus_before_another : read_line (names_of alone) (codes "set k -7") ≡ Some (sets 0 (negsuc 6))
unfolding digits
minus_before_another = refl

-- ---- reasons

both_choices_break_the_invariant : why_of invariant (codes "fire e\n") 0 ≡ codes "breaks 208\n"
unfolding digits
both_choices_break_the_invariant = refl

A_is_where_e_does_not_lead_on : why_of monitor_stays (codes "fire e\n") 0 ≡ codes "blocks A\n"
unfolding digits
A_is_where_e_does_not_lead_on = refl

ten_is_the_last : why_of counter (codes "fire a.u\nfire a.u\nfire a.u\nfire a.u\nfire a.u\nfire a.u\nfire a.u\nfire a.u\nfire a.u\nfire a.u\n") 0 ≡ codes "leaves 79 a.n\n"
unfolding digits
ten_is_the_last = refl

channel_is_enabled : why_of channel [] 0 ≡ codes "enabled\n"
unfolding digits
channel_is_enabled = refl

no_event_has_that_path : read_line (names_of two_classes) (codes "fire A.z") ≡ None
unfolding digits
no_event_has_that_path = refl

-- event e;
abbrev unused : Source
unused = source_list (decl_item (event_decl class.Plain no_type (word (codes "e") 6)) ∷ [])

no_automaton_has_e : why_of unused [] 0 ≡ codes "no automaton takes part\n"
unfolding digits
no_automaton_has_e = refl

-- event void m; automaton S: location a: initial; location b: edge m!; end automaton R: location: initial; edge m?; end invariant m needs S.b;
abbrev silent : Source
silent = source_list (decl_item (event_decl class.Plain void_type (word (codes "m") 11))
    ∷ component_item (word (codes "S") 24) (automaton_body (behaviour [] None None
    (place (Some (word (codes "a") 36)) true [] [] []
    ∷ place (Some (word (codes "b") 57)) false [] [] (edge_by (event_use (single (word (codes "m") 65)) (sends None) ∷ []) [] no_updates None
    ∷ [])
    ∷ [])))
    ∷ component_item (word (codes "R") 83) (automaton_body (behaviour [] None None
    (place None true [] [] (edge_by (event_use (single (word (codes "m") 110)) receives ∷ []) [] no_updates None
    ∷ [])
    ∷ [])))
    ∷ decl_item (invariant_decl (needs (single (word (codes "m") 128) ∷ []) (node (named (dotted false (word (codes "S") 136 ∷ word (codes "b") 138 ∷ []) 136)) 136)))
    ∷ [])

two_reasons_hold : why_of silent [] 0 ≡ codes "no sender\nexcluded 136\n"
unfolding digits
two_reasons_hold = refl

-- event void m; automaton S: location: initial; edge m!; end automaton R: location a: initial; location b: edge m?; end
abbrev deaf : Source
deaf = source_list (decl_item (event_decl class.Plain void_type (word (codes "m") 11))
    ∷ component_item (word (codes "S") 24) (automaton_body (behaviour [] None None
    (place None true [] [] (edge_by (event_use (single (word (codes "m") 51)) (sends None) ∷ []) [] no_updates None
    ∷ [])
    ∷ [])))
    ∷ component_item (word (codes "R") 69) (automaton_body (behaviour [] None None
    (place (Some (word (codes "a") 81)) true [] [] []
    ∷ place (Some (word (codes "b") 102)) false [] [] (edge_by (event_use (single (word (codes "m") 110)) receives ∷ []) [] no_updates None
    ∷ [])
    ∷ [])))
    ∷ [])

nobody_receives : why_of deaf [] 0 ≡ codes "no receiver\n"
unfolding digits
nobody_receives = refl

-- event int[0..3] m; automaton S: location: initial; edge m!5; end automaton R: disc int[0..4] v; location: initial; edge m? do v := ?; end
abbrev loud : Source
loud = source_list (decl_item (event_decl class.Plain (value_type (range_type (node (number (pos 0)) 10) (node (number (pos 3)) 13))) (word (codes "m") 16))
    ∷ component_item (word (codes "S") 29) (automaton_body (behaviour [] None None
    (place None true [] [] (edge_by (event_use (single (word (codes "m") 56)) (sends (Some (node (number (pos 5)) 58))) ∷ []) [] no_updates None
    ∷ [])
    ∷ [])))
    ∷ component_item (word (codes "R") 75) (automaton_body (behaviour (disc_decl (range_type (node (number (pos 0)) 87) (node (number (pos 4)) 90)) (word (codes "v") 93) None ∷ []) None None
    (place None true [] [] (edge_by (event_use (single (word (codes "m") 120)) receives ∷ []) [] (updates_of (assignment (single (word (codes "v") 126)) (node received 131) ∷ [])) None
    ∷ [])
    ∷ [])))
    ∷ [])

-- the variable is not told of, since what is sent is out of range already
the_sent_value_leaves : why_of loud [] 0 ≡ codes "leaves 58 m\n"
unfolding digits
the_sent_value_leaves = refl

-- automaton a: event e; disc int[0..3] x, y; location: initial; edge e do if x = 1: x := 9 else y := 7, x := 1 end; end
abbrev choosing : Source
choosing = source_list (component_item (word (codes "a") 10) (automaton_body (behaviour (event_decl class.Plain no_type (word (codes "e") 19)
    ∷ disc_decl (range_type (node (number (pos 0)) 31) (node (number (pos 3)) 34)) (word (codes "x") 37) None
    ∷ disc_decl (range_type (node (number (pos 0)) 31) (node (number (pos 3)) 34)) (word (codes "y") 40) None ∷ []) None None
    (place None true [] [] (edge_by (event_use (single (word (codes "e") 67)) syncs ∷ []) [] (updates_of (selection
    (update_branches_of ((trees_of (node (comparison (node (named (single (word (codes "x") 75))) 75) cmp.Eq (node (number (pos 1)) 79)) 75 ∷ []), updates_of (assignment (single (word (codes "x") 82)) (node (number (pos 9)) 87) ∷ [])) ∷ []))
    (updates_of (assignment (single (word (codes "y") 94)) (node (number (pos 7)) 99) ∷ assignment (single (word (codes "x") 102)) (node (number (pos 1)) 107) ∷ [])) ∷ [])) None
    ∷ [])
    ∷ [])))
    ∷ [])

-- of the branch that is made the second value by number
seven_leaves : reasons_of (system_of choosing) (told_of choosing) (state_reached (names_of choosing) (system_of choosing) []) 0 ≡ leaves 0 0 1 ∷ []
seven_leaves = refl

it_goes_to_y : why_of choosing [] 0 ≡ codes "leaves 94 a.y\n"
unfolding digits
it_goes_to_y = refl

-- ---- a feed cell

abbrev shift : Text
shift = codes "set i_start true\nfire start.u_on\nfire motor.c_on\nset i_start false\nset i_part true\nfire start.u_off\nfire part.u_on\nfire motor.c_off\n"

cell_is_told : run_of cell_tree shift
    ≡ codes "start start=Off stop=Off part=Off motor=Off lamp=Off Run=Idle Run.count=0\nset i_start=true\nstep 1 start.u_on start=On Run=Busy\nstep 2 motor.c_on motor=On\nset i_start=false\nset i_part=true\nstep 3 start.u_off start=Off\nstep 4 part.u_on part=On Run.count=1\nstep 5 motor.c_off motor=Off\n"
unfolding digits
cell_is_told = refl

-- event 6 is motor.c_on, event 8 lamp.c_on
part_keeps_the_motor_off : why_of cell_tree shift 6 ≡ codes "excluded 868\n"
unfolding digits
part_keeps_the_motor_off = refl

lamp_waits_for_three : why_of cell_tree shift 8 ≡ codes "excluded 973\n"
unfolding digits
lamp_waits_for_three = refl

nothing_happens_alone : first_of cell_tree 5 ≡ codes "start start=Off stop=Off part=Off motor=Off lamp=Off Run=Idle Run.count=0\ndeadlock\n"
unfolding digits
nothing_happens_alone = refl

-- ---- the nets of these sources

names_stay : names_of_net (net_of_source two_classes) ≡ names_of two_classes
unfolding digits
names_stay = refl

so_do_reasons : reasons_of (system_of_net (net_of_source counter)) (told_of_net (net_of_source counter)) (record { locs = 0 ∷ []; vals = pos 10 ∷ []; ins = [] }) 0 ≡ leaves 0 0 0 ∷ []
unfolding digits
so_do_reasons = refl
