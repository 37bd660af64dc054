-- Sources that break the rules on bodies, at the places where they do.
use Rattle.std.proofs.Common.{◌≡◌, ℕ, lit<, [], ◌∷◌, inl, inr, refl, ap, arith}
use Rattle.std.specs.Prelude.{codes}
use Rattle.cif_source.specs.Components.{Component, part}
use Rattle.cif_source.specs.BodyRules.{MismatchDue, NotConstantDue, InitialsDue, NotOwnDue, AssignedTwiceDue, EquationsDue}
use Rattle.std.specs.Prelude.{codes, pos, true, false, [], ◌∷◌, Some, None}
use Rattle.cif_ast.specs.Tree.{node, truth, number, named, assignment, selection, no_updates}
use Rattle.cif_ast.specs.View.{trees_of, updates_of, update_branches_of}
use Rattle.cif_ast.specs.declared.declarations.Class.TheVariants as class
use Rattle.cif_source.specs.Source.{bool_type, int_type, no_type, void_type, syncs, sends, event_decl, const_decl, alg_decl, input_decl, disc_decl, event_param, decl_item, component_item, definition_item, instance_item, group_body, automaton_body, Source}
use Rattle.cif_source.proofs.Terms.{word, single, dotted, event_use, edge_by, equation, place, behaviour, instance_named, source_list}
use Rattle.std.proofs.Common.{List, map}
use Rattle.std.specs.Prelude.{flat_map}
use Rattle.cif_ast.specs.declared.names.Name.{Name}
use Rattle.cif_source.specs.Components.{copy}
use Rattle.cif_source.specs.Lookup.{found}
use Rattle.cif_source.specs.Objects.{bodies}
use Rattle.cif_source.specs.Source.{list_of_updates}
use Rattle.cif_source.specs.BodyRules.{LeadsElsewhere, edges_of, lists_of, targets_of}

-- ---- kinds

-- alg bool b = 1;
abbrev number_as_truth : Source
number_as_truth = source_list (decl_item (alg_decl bool_type (word (codes "b") 9) (Some (node (number (pos 1)) 13)))
    ∷ [])

one_is_no_truth : MismatchDue number_as_truth 13
one_is_no_truth = (0, _, lit< tt, refl, inl (0, _, lit< tt, refl, (refl, refl)))

-- event void v; automaton a: location: initial; edge v!1; end
abbrev value_on_void : Source
value_on_void = source_list (decl_item (event_decl class.Plain void_type (word (codes "v") 11))
    ∷ component_item (word (codes "a") 24) (automaton_body (behaviour [] None None
    (place None true [] [] (edge_by (event_use (single (word (codes "v") 51)) (sends (Some (node (number (pos 1)) 53))) ∷ []) [] no_updates None
    ∷ [])
    ∷ [])))
    ∷ [])

v_carries_no_value : MismatchDue value_on_void 51
v_carries_no_value = (1, _, lit< tt, refl, inr (inl (0, _, lit< tt, refl, (refl, refl))))

-- event e; x: D(e); group def D(controllable c): end
abbrev classless_argument : Source
classless_argument = source_list (decl_item (event_decl class.Plain no_type (word (codes "e") 6))
    ∷ instance_item (instance_named (word (codes "x") 9) (single (word (codes "D") 12)) (node (named (single (word (codes "e") 14))) 14 ∷ []))
    ∷ definition_item (word (codes "D") 28) (event_param class.Con no_type (word (codes "c") 43) ∷ []) (group_body (source_list []))
    ∷ [])

e_is_not_controllable : MismatchDue classless_argument 14
e_is_not_controllable = (0, _, lit< tt, refl, inr (inr (0, _, lit< tt, refl, (refl, refl))))

-- ---- constants

-- input int i; const int k = i;
abbrev input_in_constant : Source
input_in_constant = source_list (decl_item (input_decl int_type (word (codes "i") 10))
    ∷ decl_item (const_decl int_type (word (codes "k") 23) (node (named (single (word (codes "i") 27))) 27))
    ∷ [])

i_is_not_constant : NotConstantDue input_in_constant 27
i_is_not_constant = (0, _, lit< tt, refl, (0, _, lit< tt, refl, (refl, refl)))

-- ---- initial locations

-- automaton a: location p; end
abbrev no_initial : Source
no_initial = source_list (component_item (word (codes "a") 10) (automaton_body (behaviour [] None None
    (place (Some (word (codes "p") 22)) false [] [] []
    ∷ [])))
    ∷ [])

a_has_no_initial_location : InitialsDue no_initial 10 0
a_has_no_initial_location = (1, _, lit< tt, refl, record { automaton = refl; named = refl; counted = refl; other = λ h. omega (arith, h) })

-- group g: automaton def D(): location p: initial; location q: initial; end end
abbrev two_initial : Source
two_initial = source_list (component_item (word (codes "g") 6) (group_body (source_list (definition_item (word (codes "D") 23) [] (automaton_body (behaviour [] None None
    (place (Some (word (codes "p") 37)) true [] [] []
    ∷ place (Some (word (codes "q") 58)) true [] [] []
    ∷ []))) ∷ [])))
    ∷ [])

d_has_two_initial_locations : InitialsDue two_initial 23 2
d_has_two_initial_locations = (2, _, lit< tt, refl, record { automaton = refl; named = refl; counted = refl; other = λ h. omega (arith, h) })

-- ---- assigned variables

-- automaton a: disc int x; location: initial; end automaton b: event e; location: initial; edge e do a.x := 1; end
abbrev foreign : Source
foreign = source_list (component_item (word (codes "a") 10) (automaton_body (behaviour (disc_decl int_type (word (codes "x") 22) None ∷ []) None None
    (place None true [] [] []
    ∷ [])))
    ∷ component_item (word (codes "b") 58) (automaton_body (behaviour (event_decl class.Plain no_type (word (codes "e") 67) ∷ []) None None
    (place None true [] [] (edge_by (event_use (single (word (codes "e") 94)) syncs ∷ []) [] (updates_of (assignment (dotted false (word (codes "a") 99 ∷ word (codes "x") 101 ∷ []) 99) (node (number (pos 1)) 106) ∷ [])) None
    ∷ [])
    ∷ [])))
    ∷ [])

abbrev first_letter : Component → ℕ
first_letter (part o n b) = elim n.text [ [] ↦ 0 | x ∷ xs ↦ x ]
first_letter _ = 0

x_is_not_own : NotOwnDue foreign 99
x_is_not_own = (2, _, lit< tt, refl, (0, _, lit< tt, refl, (refl, λ h. let letters : 97 ≡ 98 = ap first_letter h in omega (arith, letters))))

-- automaton a: event e; disc int x; location: initial; edge e do x := 1, x := 2; end
abbrev twice : Source
twice = source_list (component_item (word (codes "a") 10) (automaton_body (behaviour (event_decl class.Plain no_type (word (codes "e") 19) ∷ disc_decl int_type (word (codes "x") 31) None ∷ []) None None
    (place None true [] [] (edge_by (event_use (single (word (codes "e") 58)) syncs ∷ []) [] (updates_of (assignment (single (word (codes "x") 63)) (node (number (pos 1)) 68) ∷ assignment (single (word (codes "x") 71)) (node (number (pos 2)) 76) ∷ [])) None
    ∷ [])
    ∷ [])))
    ∷ [])

x_is_assigned_twice : AssignedTwiceDue twice 71
x_is_assigned_twice = (
  1,
  _,
  lit< tt,
  refl,
  (
    0,
    _,
    lit< tt,
    refl,
    record {
      earlier = _;
      later = _;
      order = inl (refl, inl refl);
      earlier_name = _;
      later_name = _;
      earlier_assigns = (0, lit< tt, refl);
      later_assigns = (0, lit< tt, refl);
      later_at = refl;
      variable = _;
      earlier_found = refl;
      later_found = refl;
    },
  ),
)

-- x and a.x are one variable, and a branch counts
-- automaton a: event e; disc int x; location: initial; edge e do if true: x := 1 end, a.x := 2; end
abbrev twice_in_branch : Source
twice_in_branch = source_list (component_item (word (codes "a") 10) (automaton_body (behaviour (event_decl class.Plain no_type (word (codes "e") 19) ∷ disc_decl int_type (word (codes "x") 31) None ∷ []) None None
    (place None true [] [] (edge_by (event_use (single (word (codes "e") 58)) syncs ∷ []) [] (updates_of (selection (update_branches_of ((trees_of (node (truth true) 66 ∷ []), (updates_of (assignment (single (word (codes "x") 72)) (node (number (pos 1)) 77) ∷ []))) ∷ [])) no_updates ∷ assignment (dotted false (word (codes "a") 84 ∷ word (codes "x") 86 ∷ []) 84) (node (number (pos 2)) 91) ∷ [])) None
    ∷ [])
    ∷ [])))
    ∷ [])

x_is_assigned_in_a_branch : AssignedTwiceDue twice_in_branch 84
x_is_assigned_in_a_branch = (
  1,
  _,
  lit< tt,
  refl,
  (
    0,
    _,
    lit< tt,
    refl,
    record {
      earlier = _;
      later = _;
      order = inl (refl, inl refl);
      earlier_name = _;
      later_name = _;
      earlier_assigns = (0, lit< tt, refl);
      later_assigns = (0, lit< tt, refl);
      later_at = refl;
      variable = _;
      earlier_found = refl;
      later_found = refl;
    },
  ),
)

-- the name of the own variable may pass the specification
abbrev StaysInSecond : List Component → Name → Type 0
StaysInSecond (c ∷ d ∷ []) nm = LeadsElsewhere d (found d nm) → ⊥
StaysInSecond _ nm = ⊥

own_name_stays : StaysInSecond (bodies twice_in_branch) (dotted true (word (codes "a") 0 ∷ word (codes "x") 0 ∷ []) 0)
own_name_stays = λ h. h refl

-- and no instance of the same definition
-- x: D(); automaton def D(): event e; disc int v; location: initial; edge e do x.v := 1; end
abbrev own_of_instance : Source
own_of_instance = source_list (instance_item (instance_named (word (codes "x") 0) (single (word (codes "D") 3)) [])
    ∷ definition_item (word (codes "D") 22) [] (automaton_body (behaviour (event_decl class.Plain no_type (word (codes "e") 33) ∷ disc_decl int_type (word (codes "v") 45) None ∷ []) None None
    (place None true [] [] (edge_by (event_use (single (word (codes "e") 72)) syncs ∷ []) [] (updates_of (assignment (dotted false (word (codes "x") 77 ∷ word (codes "v") 79 ∷ []) 77) (node (number (pos 1)) 84) ∷ [])) None
    ∷ [])
    ∷ [])))
    ∷ [])

abbrev is_copy : Component → ℕ
is_copy (copy o n ps b g i) = 1
is_copy _ = 0

name_passes_an_instance : NotOwnDue own_of_instance 77
name_passes_an_instance = (1, _, lit< tt, refl, (0, _, lit< tt, refl, (refl, λ h. let copies : 1 ≡ 0 = ap is_copy h in omega (arith, copies))))

-- branches of one `if` are one update, and each branch is a list of its own, at any depth
-- automaton a: event e; disc int x, y; location: initial; edge e do if true: if true: x := 1, x := 2 end else x := 3 end, y := 1; end
abbrev nested_updates : Source
nested_updates = source_list (component_item (word (codes "a") 10) (automaton_body (behaviour (event_decl class.Plain no_type (word (codes "e") 19) ∷ disc_decl int_type (word (codes "x") 31) None ∷ disc_decl int_type (word (codes "y") 34) None ∷ []) None None
    (place None true [] [] (edge_by (event_use (single (word (codes "e") 61)) syncs ∷ []) [] (updates_of (selection (update_branches_of ((trees_of (node (truth true) 69 ∷ []), (updates_of (selection (update_branches_of ((trees_of (node (truth true) 78 ∷ []), (updates_of (assignment (single (word (codes "x") 84)) (node (number (pos 1)) 89) ∷ assignment (single (word (codes "x") 92)) (node (number (pos 2)) 97) ∷ []))) ∷ [])) no_updates ∷ []))) ∷ [])) (updates_of (assignment (single (word (codes "x") 108)) (node (number (pos 3)) 113) ∷ [])) ∷ assignment (single (word (codes "y") 120)) (node (number (pos 1)) 125) ∷ [])) None
    ∷ [])
    ∷ [])))
    ∷ [])

-- for each list of updates of a body and each update in it, the places of the names that it assigns
abbrev targets_in : Component → List (List (List ℕ))
targets_in c = map (λ us. map (λ u. map (λ (nm : Name). nm.at) (targets_of u)) (list_of_updates us)) (flat_map lists_of (edges_of c))

lists_of_updates : flat_map targets_in (bodies nested_updates) ≡ ((84 ∷ 92 ∷ 108 ∷ []) ∷ (120 ∷ []) ∷ []) ∷ ((84 ∷ 92 ∷ []) ∷ []) ∷ ((84 ∷ []) ∷ (92 ∷ []) ∷ []) ∷ [] ∷ ((108 ∷ []) ∷ []) ∷ []
lists_of_updates = refl

-- ---- definitions of algebraic variables

-- alg bool b;
abbrev undefined : Source
undefined = source_list (decl_item (alg_decl bool_type (word (codes "b") 9) None)
    ∷ [])

b_has_no_definition : EquationsDue undefined 9 0
b_has_no_definition = (0, _, lit< tt, refl, (0, _, lit< tt, refl, (refl, (0, lit< tt, refl), λ h. omega (arith, h))))

-- automaton a: alg bool b = true; location p: initial; location q: equation b = false; end
abbrev defined_twice : Source
defined_twice = source_list (component_item (word (codes "a") 10) (automaton_body (behaviour (alg_decl bool_type (word (codes "b") 22) (Some (node (truth true) 26)) ∷ []) None None
    (place (Some (word (codes "p") 41)) true [] [] []
    ∷ place (Some (word (codes "q") 62)) false [] (equation (word (codes "b") 74) (node (truth false) 78) ∷ []) []
    ∷ [])))
    ∷ [])

b_has_two_definitions_in_q : EquationsDue defined_twice 22 2
b_has_two_definitions_in_q = (1, _, lit< tt, refl, (0, _, lit< tt, refl, (refl, (1, lit< tt, refl), λ h. omega (arith, h))))
