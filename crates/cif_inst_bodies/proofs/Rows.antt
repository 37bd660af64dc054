-- Worked examples of the laws, each by computing. Above the tree stands its text.
use Rattle.std.proofs.Common.{◌≡◌, pos, List, [], ◌∷◌, map, Some, None, refl}
use Rattle.std.specs.Prelude.{codes, true, false, slice_get}
use Rattle.cif_base.specs.declared.types.Ty.TheVariants as ty
use Rattle.cif_ast.specs.Tree.{node, number, named, sum, assignment, no_updates}
use Rattle.cif_ast.specs.View.{terms_of, updates_of}
use Rattle.cif_ast.specs.declared.declarations.Class.TheVariants as class
use Rattle.cif_source.specs.Source.{bool_type, int_type, range_type, no_type, syncs, event_decl, const_decl, alg_decl, disc_decl, event_param, alg_param, location_param, DeclTree, EdgeTree, decl_item, component_item, definition_item, instance_item, InstanceTree, ParamTree, SourceBody, group_body, automaton_body, Source}
use Rattle.cif_source.specs.Components.{Component, whole, part, blank, copy, as_written, body_of, declared, location, definition, parameter}
use Rattle.cif_source.specs.Lookup.{reached, found, definition_found, denotes, thing, given}
use Rattle.cif_source.specs.Objects.{components_of, bodies, variables, number_in}
use Rattle.cif_source.specs.Uses.{event_asked, location_asked, uses, own_names, own_sought}
use Rattle.cif_source.specs.Scoping.{is_wrong}
use Rattle.cif_source.specs.Step.{event_at, variable_at}
use Rattle.cif_source.specs.Value.{constant}
use Rattle.cif_source.specs.Types.{from_to, range_of, first_of_type}
use Rattle.cif_source.proofs.Terms.{word, single, dotted, event_use, edge_by, place, behaviour, instance_named, source_list}
use Rattle.cif_source.specs.Kinds.{no_kind, int_kind, kind_at, kind_of}
use Rattle.cif_source.specs.BodyRules.{is_constant, initial_count, definition_counts, targets_of_all}
use Rattle.cif_source.specs.Demands.{demands, event_channel, is_unfit, is_unfit_for}
use Rattle.cif_inst_model.specs.Types.{net_type}
use Rattle.cif_inst_bodies.specs.Alike.{AreAlike}
use Rattle.cif_inst_bodies.specs.Arguments.{IsNameFor}

-- ---- a definition in a definition, two instances of the outer one, and a name that both and the specification declare

-- controllable e, f; const int k = 1; a: G(e); b: G(f); group def G(controllable c): const int k = 3; x: D(c); automaton def D(controllable d): const int k = 4; disc int[0..k] v = k; location: initial; edge d; end end
abbrev inner_k : DeclTree
inner_k = const_decl int_type (word (codes "k") 152) (node (number (pos 4)) 156)

abbrev d_params : List ParamTree
d_params = event_param class.Con no_type (word (codes "d") 138) ∷ []

abbrev d_body : SourceBody
d_body = automaton_body (behaviour (inner_k ∷ disc_decl (range_type (node (number (pos 0)) 168) (node (named (single (word (codes "k") 171))) 171)) (word (codes "v") 174) (Some (node (named (single (word (codes "k") 178))) 178)) ∷ []) None None
    (place None true [] [] (edge_by (event_use (single (word (codes "d") 205)) syncs ∷ []) [] no_updates None
    ∷ [])
    ∷ []))

abbrev x_item : InstanceTree
x_item = instance_named (word (codes "x") 100) (single (word (codes "D") 103)) (node (named (single (word (codes "c") 105))) 105 ∷ [])

abbrev g_params : List ParamTree
g_params = event_param class.Con no_type (word (codes "c") 79) ∷ []

abbrev g_body : SourceBody
g_body = group_body (source_list (decl_item (const_decl int_type (word (codes "k") 93) (node (number (pos 3)) 97))
    ∷ instance_item x_item
    ∷ definition_item (word (codes "D") 123) d_params d_body
    ∷ []))

abbrev a_item : InstanceTree
a_item = instance_named (word (codes "a") 36) (single (word (codes "G") 39)) (node (named (single (word (codes "e") 41))) 41 ∷ [])

abbrev b_item : InstanceTree
b_item = instance_named (word (codes "b") 45) (single (word (codes "G") 48)) (node (named (single (word (codes "f") 50))) 50 ∷ [])

abbrev pub nested : Source
nested = source_list (decl_item (event_decl class.Con no_type (word (codes "e") 13))
    ∷ decl_item (event_decl class.Con no_type (word (codes "f") 16))
    ∷ decl_item (const_decl int_type (word (codes "k") 29) (node (number (pos 1)) 33))
    ∷ instance_item a_item
    ∷ instance_item b_item
    ∷ definition_item (word (codes "G") 64) g_params g_body
    ∷ [])

abbrev a : Component
a = copy (whole nested) (word (codes "G") 64) g_params g_body (whole nested) a_item

abbrev b : Component
b = copy (whole nested) (word (codes "G") 64) g_params g_body (whole nested) b_item

abbrev ax : Component
ax = copy a (word (codes "D") 123) d_params d_body a x_item

abbrev bx : Component
bx = copy b (word (codes "D") 123) d_params d_body b x_item

abbrev g : Component
g = blank (whole nested) (word (codes "G") 64) g_params g_body

abbrev d : Component
d = blank g (word (codes "D") 123) d_params d_body

its_components : components_of nested ≡ whole nested ∷ a ∷ ax ∷ b ∷ bx ∷ []
its_components = refl

its_bodies : bodies nested ≡ whole nested ∷ g ∷ d ∷ []
its_bodies = refl

components_as_written : map as_written (components_of nested) ≡ whole nested ∷ g ∷ d ∷ g ∷ d ∷ []
components_as_written = refl

-- the inmost scope decides, in the instances and in the definition
k_is_found : found ax (single (word (codes "k") 178)) ≡ reached (ax, declared inner_k)
k_is_found = refl

k_is_found_as_written : found d (single (word (codes "k") 178)) ≡ reached (d, declared inner_k)
k_is_found_as_written = refl

k_is_alike : AreAlike (found ax (single (word (codes "k") 178))) (found bx (single (word (codes "k") 178)))
k_is_alike = (refl, refl)

-- a parameter is found in both, though it stands for other events
c_is_alike : AreAlike (found ax (single (word (codes "c") 105))) (found bx (single (word (codes "c") 105)))
c_is_alike = (refl, refl)

d_denotes_e : denotes ax (single (word (codes "d") 205)) ≡ Some (thing (whole nested) (declared (event_decl class.Con no_type (word (codes "e") 13))))
d_denotes_e = refl

d_denotes_f : denotes bx (single (word (codes "d") 205)) ≡ Some (thing (whole nested) (declared (event_decl class.Con no_type (word (codes "f") 16))))
d_denotes_f = refl

-- ---- kinds

k_is_a_number : kind_of bx no_kind (node (named (single (word (codes "k") 178))) 178) ≡ int_kind
k_is_a_number = refl

k_is_a_number_as_written : kind_of d no_kind (node (named (single (word (codes "k") 178))) 178) ≡ int_kind
k_is_a_number_as_written = refl

-- ---- constants

k_is_four : constant bx (node (named (single (word (codes "k") 178))) 178) ≡ pos 4
k_is_four = refl

k_is_four_as_written : constant d (node (named (single (word (codes "k") 178))) 178) ≡ pos 4
k_is_four_as_written = refl

range_of_v : range_of bx (range_type (node (number (pos 0)) 168) (node (named (single (word (codes "k") 171))) 171)) ≡ from_to (pos 0) (pos 4)
range_of_v = refl

range_of_v_as_written : range_of d (range_type (node (number (pos 0)) 168) (node (named (single (word (codes "k") 171))) 171)) ≡ from_to (pos 0) (pos 4)
range_of_v_as_written = refl

-- ---- where a constant names a parameter, it has a value in the instance that it has not in the definition: the rule on constants excludes that

-- x: D(5); automaton def D(alg int p): const int k = p; location: initial; end
abbrev p_params : List ParamTree
p_params = alg_param int_type (word (codes "p") 33) ∷ []

abbrev p_body : SourceBody
p_body = automaton_body (behaviour (const_decl int_type (word (codes "k") 47) (node (named (single (word (codes "p") 51))) 51) ∷ []) None None (place None true [] [] [] ∷ []))

abbrev p_item : InstanceTree
p_item = instance_named (word (codes "x") 0) (single (word (codes "D") 3)) (node (number (pos 5)) 5 ∷ [])

abbrev passed_on : Source
passed_on = source_list (instance_item p_item ∷ definition_item (word (codes "D") 23) p_params p_body ∷ [])

k_in_the_instance : constant (copy (whole passed_on) (word (codes "D") 23) p_params p_body (whole passed_on) p_item) (node (named (single (word (codes "k") 47))) 47) ≡ pos 5
k_in_the_instance = refl

k_in_the_definition : constant (blank (whole passed_on) (word (codes "D") 23) p_params p_body) (node (named (single (word (codes "k") 47))) 47) ≡ pos 0
k_in_the_definition = refl

p_denotes_its_argument : denotes (copy (whole passed_on) (word (codes "D") 23) p_params p_body (whole passed_on) p_item) (single (word (codes "p") 51)) ≡ Some (given (whole passed_on) (node (number (pos 5)) 5))
p_denotes_its_argument = refl

-- ---- arguments and events

x_has_its_argument : slice_get x_item.args 0 ≡ Some (node (named (single (word (codes "c") 105))) 105)
x_has_its_argument = refl

c_leads_to_a_parameter : IsNameFor event_asked a (node (named (single (word (codes "c") 105))) 105)
c_leads_to_a_parameter = record {
  name = single (word (codes "c") 105);
  at = 105;
  is_bare = refl;
  place = (a, parameter 0 (event_param class.Con no_type (word (codes "c") 79)));
  is_found = refl;
  is_sort = refl;
}

c_fits : is_unfit_for a ax (node (named (single (word (codes "c") 105))) 105) (event_param class.Con no_type (word (codes "d") 138)) ≡ false
c_fits = refl

d_is_the_first_event : event_at (denotes ax (single (word (codes "d") 205))) ≡ Some 0
d_is_the_first_event = refl

d_is_the_second_event : event_at (denotes bx (single (word (codes "d") 205))) ≡ Some 1
d_is_the_second_event = refl

-- in the definition the parameter stands for itself, and denotes no event
d_is_no_event_as_written : event_at (denotes d (single (word (codes "d") 205))) ≡ None
d_is_no_event_as_written = refl

v_stands_at_its_number : slice_get (variables nested) (number_in (variables nested) bx (codes "v")) ≡ Some (bx, disc_decl (range_type (node (number (pos 0)) 168) (node (named (single (word (codes "k") 171))) 171)) (word (codes "v") 174) (Some (node (named (single (word (codes "k") 178))) 178)))
v_stands_at_its_number = refl

v_is_found_in_its_own_instance : found bx (single (word (codes "v") 174)) ≡ reached (bx, declared (disc_decl (range_type (node (number (pos 0)) 168) (node (named (single (word (codes "k") 171))) 171)) (word (codes "v") 174) (Some (node (named (single (word (codes "k") 178))) 178))))
v_is_found_in_its_own_instance = refl

-- ---- what is asked for

positions_are_asked_for_the_same : demands bx ≡ demands d
positions_are_asked_for_the_same = refl

uses_are_one : uses bx ≡ uses d
uses_are_one = refl

writing_again : as_written (as_written bx) ≡ d
writing_again = refl

one_body : body_of ax ≡ body_of d
one_body = refl

inner_definition_is_found : definition_found a x_item ≡ reached (a, definition (word (codes "D") 123) d_params d_body)
inner_definition_is_found = refl

inner_definition_is_found_as_written : definition_found g x_item ≡ reached (g, definition (word (codes "D") 123) d_params d_body)
inner_definition_is_found_as_written = refl

k_is_constant : is_wrong is_constant (found bx (single (word (codes "k") 178))) ≡ false
k_is_constant = refl

first_value_of_v : first_of_type bx (range_type (node (number (pos 0)) 168) (node (named (single (word (codes "k") 171))) 171)) (Some (node (named (single (word (codes "k") 178))) 178)) ≡ pos 4
first_value_of_v = refl

type_of_v : (net_type bx (range_type (node (number (pos 0)) 168) (node (named (single (word (codes "k") 171))) 171))).type_of ≡ ty.Int (pos 0) (pos 4)
type_of_v = refl

d_fits : is_unfit syncs (event_channel bx (single (word (codes "d") 205))) ≡ false
d_fits = refl

-- ---- a location as an argument, and an assigned variable

-- event e; w: W(m.r); automaton m: location r: initial; edge e goto s; location s; end automaton def W(location l): disc int[0..2] n = 0; alg bool g = l; location: initial; edge e when g do n := n + 1; end
abbrev n_decl : DeclTree
n_decl = disc_decl (range_type (node (number (pos 0)) 123) (node (number (pos 2)) 126)) (word (codes "n") 129) (Some (node (number (pos 0)) 133))

abbrev w_params : List ParamTree
w_params = location_param (word (codes "l") 110) ∷ []

abbrev w_edge : EdgeTree
w_edge = edge_by (event_use (single (word (codes "e") 176)) syncs ∷ []) (node (named (single (word (codes "g") 183))) 183 ∷ []) (updates_of (assignment (single (word (codes "n") 188)) (node (sum (node (named (single (word (codes "n") 193))) 193) (terms_of ((false, (node (number (pos 1)) 197)) ∷ []))) 193) ∷ [])) None

abbrev w_body : SourceBody
w_body = automaton_body (behaviour (n_decl ∷ alg_decl bool_type (word (codes "g") 145) (Some (node (named (single (word (codes "l") 149))) 149)) ∷ []) None None (place None true [] [] (w_edge ∷ []) ∷ []))

abbrev m_body : SourceBody
m_body = automaton_body (behaviour [] None None
    (place (Some (word (codes "r") 42)) true [] [] (edge_by (event_use (single (word (codes "e") 59)) syncs ∷ []) [] no_updates (Some (word (codes "s") 66)) ∷ [])
    ∷ place (Some (word (codes "s") 78)) false [] [] []
    ∷ []))

abbrev w_item : InstanceTree
w_item = instance_named (word (codes "w") 9) (single (word (codes "W") 12)) (node (named (dotted false (word (codes "m") 14 ∷ word (codes "r") 16 ∷ []) 14)) 14 ∷ [])

abbrev watched : Source
watched = source_list (decl_item (event_decl class.Plain no_type (word (codes "e") 6)) ∷ instance_item w_item ∷ component_item (word (codes "m") 30) m_body ∷ definition_item (word (codes "W") 99) w_params w_body ∷ [])

abbrev w : Component
w = copy (whole watched) (word (codes "W") 99) w_params w_body (whole watched) w_item

abbrev m : Component
m = part (whole watched) (word (codes "m") 30) m_body

l_denotes_r : denotes w (single (word (codes "l") 149)) ≡ Some (thing m (location 0))
l_denotes_r = refl

l_is_boolean : kind_at (found w (single (word (codes "l") 149))) ≡ kind_at (reached (m, location 0))
l_is_boolean = refl

r_is_named : IsNameFor location_asked (whole watched) (node (named (dotted false (word (codes "m") 14 ∷ word (codes "r") 16 ∷ []) 14)) 14)
r_is_named = record { name = dotted false (word (codes "m") 14 ∷ word (codes "r") 16 ∷ []) 14; at = 14; is_bare = refl; place = (m, location 0); is_found = refl; is_sort = refl }

n_is_assigned : targets_of_all w_edge.updates ≡ single (word (codes "n") 188) ∷ []
n_is_assigned = refl

n_is_its_own : found w (single (word (codes "n") 188)) ≡ reached (w, declared n_decl)
n_is_its_own = refl

n_is_the_first_variable : variable_at (denotes w (single (word (codes "n") 188))) ≡ Some 0
n_is_the_first_variable = refl

g_is_defined_once : definition_counts w (codes "g") (Some (node (named (single (word (codes "l") 149))) 149)) ≡ 1 ∷ []
g_is_defined_once = refl

w_begins_in_one_location : initial_count w ≡ 1
w_begins_in_one_location = refl

s_is_sought : map (own_sought m) (own_names m) ≡ reached (m, location 1) ∷ []
s_is_sought = refl
