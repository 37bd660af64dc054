-- The trees of small sources with channels. Above each stands its text.
use Rattle.std.proofs.Common.{ℕ, pos, true, List, [], ◌∷◌, Some, None}
use Rattle.std.specs.Prelude.{codes}
use Rattle.cif_ast.specs.Tree.{node, number, named, received, assignment, no_updates}
use Rattle.cif_ast.specs.View.{updates_of}
use Rattle.cif_ast.specs.declared.declarations.Class.TheVariants as class
use Rattle.cif_source.specs.Source.{TypeTree, int_type, range_type, void_type, value_type, sends, receives, InstanceTree, event_decl, disc_decl, ParamTree, event_param, alg_param, decl_item, component_item, definition_item, instance_item, SourceBody, automaton_body, Source}
use Rattle.cif_source.proofs.Terms.{word, single, event_use, edge_by, place, behaviour, instance_named, source_list}

-- controllable void e; automaton S: location: initial; edge e!; end automaton R: location: initial; edge e?; end
abbrev pub signal : Source
signal = source_list (decl_item (event_decl class.Con void_type (word (codes "e") 18))
    ∷ component_item (word (codes "S") 31) (automaton_body (behaviour [] None None
    (place None true [] [] (edge_by (event_use (single (word (codes "e") 58)) (sends None) ∷ []) [] no_updates None
    ∷ [])
    ∷ [])))
    ∷ component_item (word (codes "R") 76) (automaton_body (behaviour [] None None
    (place None true [] [] (edge_by (event_use (single (word (codes "e") 103)) receives ∷ []) [] no_updates None
    ∷ [])
    ∷ [])))
    ∷ [])

-- controllable int[0..9] c; s: S(c, 5); r: R(c); automaton def S(controllable int[0..9] o; alg int v): location: initial; edge o!v; end automaton def R(controllable int i): disc int[0..9] n = 0; location: initial; edge i? do n := ?; end
abbrev digit : ℕ → ℕ → TypeTree
digit lower upper = range_type (node (number (pos 0)) lower) (node (number (pos 9)) upper)

abbrev pub s_params : List ParamTree
s_params = event_param class.Con (value_type (digit 80 83)) (word (codes "o") 86) ∷ alg_param int_type (word (codes "v") 97) ∷ []

abbrev pub s_body : SourceBody
s_body = automaton_body (behaviour [] None None
    (place None true [] [] (edge_by (event_use (single (word (codes "o") 125)) (sends (Some (node (named (single (word (codes "v") 127))) 127))) ∷ []) [] no_updates None
    ∷ [])
    ∷ []))

abbrev pub r_params : List ParamTree
r_params = event_param class.Con (value_type int_type) (word (codes "i") 167) ∷ []

abbrev pub r_body : SourceBody
r_body = automaton_body (behaviour (disc_decl (digit 180 183) (word (codes "n") 186) (Some (node (number (pos 0)) 190)) ∷ []) None None
    (place None true [] [] (edge_by (event_use (single (word (codes "i") 217)) receives ∷ []) [] (updates_of (assignment (single (word (codes "n") 223)) (node received 228) ∷ [])) None
    ∷ [])
    ∷ []))

abbrev pub s_item : InstanceTree
s_item = instance_named (word (codes "s") 26) (single (word (codes "S") 29)) (node (named (single (word (codes "c") 31))) 31 ∷ node (number (pos 5)) 34 ∷ [])

abbrev pub r_item : InstanceTree
r_item = instance_named (word (codes "r") 38) (single (word (codes "R") 41)) (node (named (single (word (codes "c") 43))) 43 ∷ [])

abbrev pub delivering : Source
delivering = source_list (decl_item (event_decl class.Con (value_type (digit 17 20)) (word (codes "c") 23))
    ∷ instance_item s_item
    ∷ instance_item r_item
    ∷ definition_item (word (codes "S") 61) s_params s_body
    ∷ definition_item (word (codes "R") 148) r_params r_body
    ∷ [])
