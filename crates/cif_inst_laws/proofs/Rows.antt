-- A worked source with a definition, whose two instances are given an event, a number and a location: its net is a net and
-- represents it, by computing. Above the tree stands its text.
use Rattle.std.proofs.Common.{◌≡◌, ℕ, ℤ, pos, List, [], ◌∷◌, Some, None, lit≤, refl}
use Rattle.std.specs.Prelude.{codes, true, false}
use Rattle.cif_ast.specs.Tree.{Tree, node, number, named, sum, comparison, assignment}
use Rattle.cif_ast.specs.View.{terms_of, updates_of}
use Rattle.cif_ast.specs.declared.declarations.Class.TheVariants as class
use Rattle.cif_ast.specs.declared.expressions.CmpOp.TheVariants as cmp
use Rattle.cif_system.specs.System.{State, initial}
use Rattle.cif_system.specs.Choices.{first_step}
use Rattle.cif_net_expr.specs.Tree.{lt, net_expr, n_number, n_loc, n_var, n_sum, n_compare, n_and, no_net_exprs, net_exprs, no_net_terms, net_terms}
use Rattle.cif_net_model.specs.Facts.{is_net}
use Rattle.cif_net_model.specs.Meaning.{system_of_net}
use Rattle.cif_source.specs.Source.{int_type, range_type, no_type, syncs, event_decl, const_decl, disc_decl, event_param, alg_param, location_param, decl_item, component_item, definition_item, instance_item, InstanceTree, ParamTree, EdgeTree, SourceBody, automaton_body, Source}
use Rattle.cif_source.specs.Components.{Component, whole, part, copy}
use Rattle.cif_source.specs.Objects.{automata}
use Rattle.cif_source.proofs.Terms.{word, single, dotted, event_use, edge_by, place, behaviour, instance_named, source_list}
use Rattle.cif_inst_model.specs.Flat.{net_of_source, event_number}
use Rattle.cif_inst_model.specs.Translation.{net_of, net_guard}
use Rattle.cif_inst_model.specs.Represents.{Represents}
use Rattle.cif_inst_model.proofs.RepresentsLaws.{apart-differ, all-found, net-represents}

-- controllable e, f; const int k = 2; a: D(e, 1, m.r); b: D(f, k + 1, m.s); automaton m: location r: initial; edge e goto s; location s; end automaton def D(controllable c; alg int p; location l): disc int[0..9] n = 0; location: initial; edge c when l, n < p do n := n + p; end
abbrev name_at : List ℕ → ℕ → Tree
name_at text at = node (named (single (word text at))) at

abbrev moving : SourceBody
moving = automaton_body (behaviour [] None None
    (place (Some (word (codes "r") 96)) true [] [] (edge_by (event_use (single (word (codes "e") 113)) syncs ∷ []) [] (updates_of []) (Some (word (codes "s") 120)) ∷ [])
    ∷ place (Some (word (codes "s") 132)) false [] [] []
    ∷ []))

abbrev d_params : List ParamTree
d_params = event_param class.Con no_type (word (codes "c") 168) ∷ alg_param int_type (word (codes "p") 179) ∷ location_param (word (codes "l") 191) ∷ []

abbrev d_guards : List Tree
d_guards = name_at (codes "l") 248 ∷ node (comparison (name_at (codes "n") 251) cmp.Lt (name_at (codes "p") 255)) 251 ∷ []

abbrev d_edge : EdgeTree
d_edge = edge_by (event_use (single (word (codes "c") 241)) syncs ∷ []) d_guards (updates_of (assignment (single (word (codes "n") 260)) (node (sum (name_at (codes "n") 265) (terms_of ((false, name_at (codes "p") 269) ∷ []))) 265) ∷ [])) None

abbrev d_body : SourceBody
d_body = automaton_body (behaviour (disc_decl (range_type (node (number (pos 0)) 204) (node (number (pos 9)) 207)) (word (codes "n") 210) (Some (node (number (pos 0)) 214)) ∷ []) None None (place None true [] [] (d_edge ∷ []) ∷ []))

abbrev a_item : InstanceTree
a_item = instance_named (word (codes "a") 36) (single (word (codes "D") 39)) (name_at (codes "e") 41 ∷ node (number (pos 1)) 44 ∷ node (named (dotted false (word (codes "m") 47 ∷ word (codes "r") 49 ∷ []) 47)) 47 ∷ [])

abbrev b_item : InstanceTree
b_item = instance_named (word (codes "b") 53) (single (word (codes "D") 56))
    (name_at (codes "f") 58
    ∷ node (sum (name_at (codes "k") 61) (terms_of ((false, node (number (pos 1)) 65) ∷ []))) 61
    ∷ node (named (dotted false (word (codes "m") 68 ∷ word (codes "s") 70 ∷ []) 68)) 68
    ∷ [])

abbrev twice : Source
twice = source_list (decl_item (event_decl class.Con no_type (word (codes "e") 13))
    ∷ decl_item (event_decl class.Con no_type (word (codes "f") 16))
    ∷ decl_item (const_decl int_type (word (codes "k") 29) (node (number (pos 2)) 33))
    ∷ instance_item a_item
    ∷ instance_item b_item
    ∷ component_item (word (codes "m") 84) moving
    ∷ definition_item (word (codes "D") 153) d_params d_body
    ∷ [])

abbrev a : Component
a = copy (whole twice) (word (codes "D") 153) d_params d_body (whole twice) a_item

abbrev b : Component
b = copy (whole twice) (word (codes "D") 153) d_params d_body (whole twice) b_item

its_automata : automata twice ≡ a ∷ b ∷ part (whole twice) (word (codes "m") 84) moving ∷ []
its_automata = refl

its_net_is_a_net : is_net (net_of_source twice) ≡ true
its_net_is_a_net = refl

its_net_represents_it : Represents (net_of_source twice) twice
its_net_represents_it = net-represents twice (record { few = lit≤ tt; constants = refl; named = refl; differ = apart-differ twice refl; found = all-found twice tt })

-- ---- parameters

-- each instance has its own event, number, location and variable
events_of_the_instances : (event_number a (single (word (codes "c") 241)) ≡ 0) × (event_number b (single (word (codes "c") 241)) ≡ 1)
events_of_the_instances = (refl, refl)

guard_of_a : net_guard a 241 d_guards ≡ net_expr (n_and (net_exprs (net_expr (n_loc 2 0) 248) (net_exprs (net_expr (n_compare (net_expr (n_var 0) 251) lt (net_expr (n_number (pos 1)) 44)) 251) no_net_exprs))) 248
guard_of_a = refl

-- an argument that names a constant has its value, at its own place
argument_of_b : net_of b (name_at (codes "p") 255) ≡ net_expr (n_sum (net_expr (n_number (pos 2)) 61) (net_terms false (net_expr (n_number (pos 1)) 65) no_net_terms)) 61
argument_of_b = refl

location_of_b : net_of b (name_at (codes "l") 248) ≡ net_expr (n_loc 2 1) 248
location_of_b = refl

-- with e the first instance counts to 1 as the automaton leaves its location; f then counts to 3
abbrev net_state : List ℕ → List ℤ → State
net_state locs vals = record { locs = locs; vals = vals; ins = [] }

e_is_first : first_step (system_of_net (net_of_source twice)) (initial (system_of_net (net_of_source twice))) 0 ≡ Some (net_state (0 ∷ 0 ∷ 1 ∷ []) (pos 1 ∷ pos 0 ∷ []))
e_is_first = refl

f_waits : first_step (system_of_net (net_of_source twice)) (initial (system_of_net (net_of_source twice))) 1 ≡ None
f_waits = refl

f_is_second : first_step (system_of_net (net_of_source twice)) (net_state (0 ∷ 0 ∷ 1 ∷ []) (pos 1 ∷ pos 0 ∷ [])) 1 ≡ Some (net_state (0 ∷ 0 ∷ 1 ∷ []) (pos 1 ∷ pos 3 ∷ []))
f_is_second = refl
