-- Worked sources with exclusions and a state invariant, at the top and in a definition with two instances. The net of each is a net
-- and represents it, by computing. Above each tree stands its text.
use Rattle.std.proofs.Common.{◌≡◌, ℕ, ◌+◌, ℤ, pos, true, false, List, [], ◌∷◌, Some, None, lit≤, refl}
use Rattle.std.specs.Prelude.{codes}
use Rattle.cif_ast.specs.Tree.{Tree, node, number, named, paren, sum, comparison, assignment}
use Rattle.cif_ast.specs.View.{terms_of, updates_of}
use Rattle.cif_ast.specs.declared.declarations.Class.TheVariants as class
use Rattle.cif_ast.specs.declared.expressions.CmpOp.TheVariants as cmp
use Rattle.cif_system.specs.System.{State, initial}
use Rattle.cif_system.specs.Choices.{first_step}
use Rattle.cif_net_expr.specs.Tree.{CmpOp, eq, lt, le, NetExpr, net_expr, n_number, n_var, n_compare}
use Rattle.cif_net_model.specs.Net.{NetExclusion}
use Rattle.cif_net_model.specs.Facts.{is_net}
use Rattle.cif_net_model.specs.Meaning.{system_of_net}
use Rattle.cif_source.specs.Source.{int_type, range_type, no_type, syncs, EdgeTree, always, needs, disables, event_decl, disc_decl, invariant_decl, ParamTree, event_param, alg_param, decl_item, component_item, definition_item, instance_item, automaton_body, Source}
use Rattle.cif_source.proofs.Terms.{word, single, dotted, event_use, edge_by, place, behaviour, instance_named, source_list}
use Rattle.cif_inst_model.specs.Flat.{net_of_source}
use Rattle.cif_inst_model.specs.Represents.{Represents}
use Rattle.cif_inst_model.proofs.RepresentsLaws.{apart-differ, all-found, net-represents}

abbrev with_values : List ℕ → List ℤ → State
with_values locs vals = record { locs = locs; vals = vals; ins = [] }

-- a comparison of a variable with a number, and where it, the variable and the number stand
abbrev compared : ℕ → ℕ → CmpOp → ℕ → ℕ → ℕ → NetExpr
compared at v op at_v z at_z = net_expr (n_compare (net_expr (n_var v) at_v) op (net_expr (n_number (pos z)) at_z)) at

-- an edge of the event that adds a number to the variable of that name
abbrev adding : ℕ → List ℕ → ℕ → List ℕ → ℕ → ℕ → ℕ → EdgeTree
adding at_event event at_var var at_value z at_z =
    edge_by (event_use (single (word event at_event)) syncs ∷ []) []
    (updates_of (assignment (single (word var at_var)) (node (sum (node (named (single (word var at_value))) at_value) (terms_of ((false, node (number (pos z)) at_z) ∷ []))) at_value) ∷ [])) None

-- ---- exclusions of events, and a state invariant

-- controllable e, f; automaton a: disc int[0..9] x = 0; location: initial; edge e do x := x + 1; edge f do x := x + 2; end invariant e needs a.x < 2; invariant (a.x = 1) disables {e, f}; invariant a.x <= 3;
abbrev x_at : ℕ → Tree
x_at at = node (named (dotted false (word (codes "a") at ∷ word (codes "x") (at + 2) ∷ []) at)) at

abbrev limited : Source
limited = source_list (decl_item (event_decl class.Con no_type (word (codes "e") 13))
    ∷ decl_item (event_decl class.Con no_type (word (codes "f") 16))
    ∷ component_item (word (codes "a") 29) (automaton_body (behaviour (disc_decl (range_type (node (number (pos 0)) 41) (node (number (pos 9)) 44)) (word (codes "x") 47) (Some (node (number (pos 0)) 51)) ∷ []) None None
    (place None true [] [] (adding 78 (codes "e") 83 (codes "x") 88 1 92 ∷ adding 100 (codes "f") 105 (codes "x") 110 2 114 ∷ [])
    ∷ [])))
    ∷ decl_item (invariant_decl (needs (single (word (codes "e") 131) ∷ []) (node (comparison (x_at 139) cmp.Lt (node (number (pos 2)) 145)) 139)))
    ∷ decl_item (invariant_decl (disables (node (paren (node (comparison (x_at 159) cmp.Eq (node (number (pos 1)) 165)) 159)) 158) (single (word (codes "e") 178) ∷ single (word (codes "f") 181) ∷ [])))
    ∷ decl_item (invariant_decl (always (node (comparison (x_at 195) cmp.Le (node (number (pos 3)) 202)) 195)))
    ∷ [])

-- one exclusion for each event that is named, each with the predicate at its place
abbrev three : NetExclusion → NetExclusion → NetExclusion → List NetExclusion
three x y z = x ∷ y ∷ z ∷ []

its_exclusions : (net_of_source limited).exclusions ≡ three
    (record { event = 0; pred = compared 139 0 lt 139 2 145; allows = true })
    (record { event = 0; pred = compared 158 0 eq 159 1 165; allows = false })
    (record { event = 1; pred = compared 158 0 eq 159 1 165; allows = false })
its_exclusions = refl

its_invariant : (net_of_source limited).invariants ≡ record { pred = compared 195 0 le 195 3 202; at = 195 } ∷ []
its_invariant = refl

limited_is_a_net : is_net (net_of_source limited) ≡ true
limited_is_a_net = refl

limited_is_represented : Represents (net_of_source limited) limited
limited_is_represented = net-represents limited (record { few = lit≤ tt; constants = refl; named = refl; differ = apart-differ limited refl; found = all-found limited tt })

-- e leads to 1, where both events are disabled; f leads to 2, where e needs less and after f the invariant does not hold
e_leads_to_1 : first_step (system_of_net (net_of_source limited)) (initial (system_of_net (net_of_source limited))) 0 ≡ Some (with_values (0 ∷ []) (pos 1 ∷ []))
e_leads_to_1 = refl

f_leads_to_2 : first_step (system_of_net (net_of_source limited)) (initial (system_of_net (net_of_source limited))) 1 ≡ Some (with_values (0 ∷ []) (pos 2 ∷ []))
f_leads_to_2 = refl

f_is_disabled_at_1 : first_step (system_of_net (net_of_source limited)) (with_values (0 ∷ []) (pos 1 ∷ [])) 1 ≡ None
f_is_disabled_at_1 = refl

e_needs_less_than_2 : first_step (system_of_net (net_of_source limited)) (with_values (0 ∷ []) (pos 2 ∷ [])) 0 ≡ None
e_needs_less_than_2 = refl

f_keeps_the_invariant : first_step (system_of_net (net_of_source limited)) (with_values (0 ∷ []) (pos 2 ∷ [])) 1 ≡ None
f_keeps_the_invariant = refl

-- ---- in a definition

-- controllable e, f; p: D(e, 1); q: D(f, 2); automaton def D(controllable c; alg int k): disc int[0..9] n = 0; invariant c needs n < k; location: initial; edge c do n := n + 1; end
abbrev limited_params : List ParamTree
limited_params = event_param class.Con no_type (word (codes "c") 72) ∷ alg_param int_type (word (codes "k") 83) ∷ []

abbrev limited_twice : Source
limited_twice = source_list (decl_item (event_decl class.Con no_type (word (codes "e") 13))
    ∷ decl_item (event_decl class.Con no_type (word (codes "f") 16))
    ∷ instance_item (instance_named (word (codes "p") 19) (single (word (codes "D") 22)) (node (named (single (word (codes "e") 24))) 24 ∷ node (number (pos 1)) 27 ∷ []))
    ∷ instance_item (instance_named (word (codes "q") 31) (single (word (codes "D") 34)) (node (named (single (word (codes "f") 36))) 36 ∷ node (number (pos 2)) 39 ∷ []))
    ∷ definition_item (word (codes "D") 57) limited_params (automaton_body (behaviour
    (disc_decl (range_type (node (number (pos 0)) 96) (node (number (pos 9)) 99)) (word (codes "n") 102) (Some (node (number (pos 0)) 106))
    ∷ invariant_decl (needs (single (word (codes "c") 119) ∷ []) (node (comparison (node (named (single (word (codes "n") 127))) 127) cmp.Lt (node (named (single (word (codes "k") 131))) 131)) 127))
    ∷ []) None None
    (place None true [] [] (adding 158 (codes "c") 163 (codes "n") 168 1 172 ∷ [])
    ∷ [])))
    ∷ [])

-- each instance has its own, of its event and its variable, and with its argument
abbrev two : NetExclusion → NetExclusion → List NetExclusion
two x y = x ∷ y ∷ []

exclusions_of_the_instances : (net_of_source limited_twice).exclusions ≡ two
    (record { event = 0; pred = compared 127 0 lt 127 1 27; allows = true })
    (record { event = 1; pred = compared 127 1 lt 127 2 39; allows = true })
exclusions_of_the_instances = refl

limited_twice_is_a_net : is_net (net_of_source limited_twice) ≡ true
limited_twice_is_a_net = refl

limited_twice_is_represented : Represents (net_of_source limited_twice) limited_twice
limited_twice_is_represented = net-represents limited_twice (record { few = lit≤ tt; constants = refl; named = refl; differ = apart-differ limited_twice refl; found = all-found limited_twice tt })
