-- The flat net that a source is translated to: its automata, events, inputs, variables, algebraic variables, exclusions and
-- state invariants, each by its number.
use Rattle.std.specs.Prelude.{ℕ, pos, Bool, true, false, List, [], ◌∷◌, ◌++◌, map, flat_map, filter_map, Option, Some, None, option_map, unwrap_or}
use Rattle.std.specs.List.{join_with_byte}
use Rattle.cif_base.specs.declared.types.Ty.TheVariants as ty
use Rattle.cif_ast.specs.Tree.{Tree, UpdateTree, assignment, selection, UpdateTrees, no_updates, updates, UpdateBranches, no_update_branches, update_branches}
use Rattle.cif_ast.specs.declared.names.Ident.{Ident}
use Rattle.cif_ast.specs.declared.names.Name.{Name}
use Rattle.cif_system.specs.System as system
use Rattle.cif_net_expr.specs.Tree.{NetExpr, net_expr, n_number, NetUpdate, net_set, net_choose, NetUpdates, no_net_updates, net_updates, NetUpdateBranches, no_net_update_branches, net_update_branches}
use Rattle.cif_net_model.specs.Net.{no_net_chan, NetEdge, NetAuto, NetEvent, NetStored, AlgValue, one_value, by_loc, NetAlg, NetExclusion, NetInvariant, Net}
use Rattle.cif_net_model.specs.Exprs.{placed}
use Rattle.cif_source.specs.Source.{Text, RoleTree, sends, LocationTree, always, needs, disables, event_decl, disc_decl, input_decl, alg_decl, invariant_decl, TypeTree, SourceBody, group_body, automaton_body, Source, tree_at, list_of_trees}
use Rattle.cif_source.specs.Components.{Component, body_of, specification_of, Path, path_of}
use Rattle.cif_source.specs.Lookup.{denotes}
use Rattle.cif_source.specs.Objects.{automata, events, variables, inputs, algs, declarations, Declared, automaton_number, locs_of, EventEdge, event_edges}
use Rattle.cif_source.specs.Value.{own_definitions, location_definitions}
use Rattle.cif_source.specs.Types.{first_of_type}
use Rattle.cif_source.specs.Step.{event_at, variable_at, role_of, end_of, first_place, class_of}
use Rattle.cif_source.specs.BodyRules.{targets_of_all}
use Rattle.cif_source.specs.InstanceRules.{synchronised_name}
use Rattle.cif_inst_model.specs.Types.{net_type, net_channel}
use Rattle.cif_inst_model.specs.Translation.{conjunction, net_of, net_list, net_guard}

-- ---- paths

-- the names of a path, with dots between them
abbrev pub dotted : Path → Text
dotted = join_with_byte 46

abbrev pub own_path : Component → Ident → Text
own_path c n = dotted (path_of c ++ n.text ∷ [])

-- ---- edges

-- the number of what a name denotes, and 0 where it denotes no such thing
abbrev pub event_number : Component → Name → ℕ
event_number c nm = unwrap_or (event_at (denotes c nm)) 0

abbrev pub variable_number : Component → Name → ℕ
variable_number c nm = unwrap_or (variable_at (denotes c nm)) 0

-- several conditions of a branch are one conjunction
abbrev mutual
  pub net_updates_of : Component → UpdateTrees → NetUpdates
  net_updates_of c no_updates = no_net_updates
  net_updates_of c (updates u us) = net_updates (net_update_of c u) (net_updates_of c us)

  pub net_update_of : Component → UpdateTree → NetUpdate
  net_update_of c (assignment nm e) = net_set (variable_number c nm) (net_of c e)
  net_update_of c (selection bs us) = net_choose (net_update_branches_of c bs) (net_updates_of c us)

  pub net_update_branches_of : Component → UpdateBranches → NetUpdateBranches
  net_update_branches_of c no_update_branches = no_net_update_branches
  net_update_branches_of c (update_branches cs us bs) =
      net_update_branches (conjunction (net_list c (list_of_trees cs))) (net_updates_of c us) (net_update_branches_of c bs)

abbrev pub sent_tree : RoleTree → Option Tree
sent_tree (sends e) = e
sent_tree _ = None

-- where the values of an edge stand: the sent value, and then the assigned names
abbrev pub value_places : EventEdge → List ℕ
value_places w = elim (sent_tree w.event_use.role) [ None ↦ [] | Some e ↦ tree_at e ∷ [] ] ++ map (λ (nm : Name). nm.at) (targets_of_all w.edge.updates)

-- without a guard it has the guard `true`, at the use of the event
abbrev pub net_edge : Component → EventEdge → NetEdge
net_edge a w = record {
  event = event_number a w.event_use.name;
  role = role_of w.event_use.role;
  from = w.from;
  to = end_of a w;
  guard = net_guard a w.event_use.name.at w.edge.guards;
  sent = option_map (net_of a) (sent_tree w.event_use.role);
  updates = net_updates_of a w.edge.updates;
  places = value_places w;
}

-- ---- automata

-- a location without a name has the empty one
abbrev pub location_name : LocationTree → Text
location_name l = elim l.name [ None ↦ [] | Some n ↦ n.text ]

abbrev pub named_events : Component → List Name → List ℕ
named_events a nms = filter_map (λ nm. event_at (denotes a nm)) nms

-- the declared alphabet, or else the events of the edges that neither send nor receive, in the order of the text
abbrev pub alphabet_in : Component → SourceBody → List ℕ
alphabet_in a (group_body is) = []
alphabet_in a (automaton_body b) = named_events a (elim b.alphabet [ None ↦ flat_map synchronised_name (event_edges a) | Some nms ↦ nms ])

abbrev pub alphabet_of : Component → List ℕ
alphabet_of a = alphabet_in a (body_of a)

-- `monitor;` names no event and means all of the alphabet
abbrev pub monitored_events : Component → Option (List Name) → List ℕ
monitored_events a None = []
monitored_events a (Some []) = alphabet_of a
monitored_events a (Some (nm ∷ nms)) = named_events a (nm ∷ nms)

abbrev pub monitored_in : Component → SourceBody → List ℕ
monitored_in a (group_body is) = []
monitored_in a (automaton_body b) = monitored_events a b.monitor

abbrev pub net_auto : Component → NetAuto
net_auto a = record {
  path = dotted (path_of a);
  locs = map location_name (locs_of a);
  first = first_place a;
  alphabet = alphabet_of a;
  monitors = monitored_in a (body_of a);
  edges = map (net_edge a) (event_edges a);
}

-- ---- declarations

abbrev pub net_event : Declared → NetEvent
net_event (c, event_decl k h n) = record { path = own_path c n; class = class_of k; chan = net_channel c h }
net_event _ = record { path = []; class = system.plain; chan = no_net_chan }

abbrev pub stored_by : Component → Ident → TypeTree → Option Tree → NetStored
stored_by c n t e = record { path = own_path c n; type_of = (net_type c t).type_of; first = first_of_type c t e; literals = (net_type c t).literals }

-- a variable or an input, which has no first value of its own
abbrev pub net_stored : Declared → NetStored
net_stored (c, disc_decl t n e) = stored_by c n t e
net_stored (c, input_decl t n) = stored_by c n t None
net_stored _ = record { path = []; type_of = ty.Int (pos 0) (pos 0); first = pos 0; literals = [] }

-- the first of the definitions
abbrev pub net_definition : Component → List Tree → NetExpr
net_definition c [] = net_expr (n_number (pos 0)) 0
net_definition c (e ∷ es) = net_of c e

-- one definition of its own, or else one for each location of its automaton
abbrev pub net_alg_value : Component → Text → Option Tree → AlgValue
net_alg_value c x e = elim (own_definitions c x e) [
  | [] ↦ by_loc (automaton_number (specification_of c) c) (map (λ l. net_definition c (location_definitions x l)) (locs_of c))
  | d ∷ ds ↦ one_value (net_of c d)
]

abbrev pub net_alg : Declared → NetAlg
net_alg (c, alg_decl t n e) = record { path = own_path c n; type_of = (net_type c t).type_of; literals = (net_type c t).literals; value = net_alg_value c n.text e }
net_alg _ = record { path = []; type_of = ty.Int (pos 0) (pos 0); literals = []; value = one_value (net_expr (n_number (pos 0)) 0) }

-- one for each event that is named; the predicate has the place at which it stands there
abbrev pub predicate_at : Component → Tree → NetExpr
predicate_at c p = placed (tree_at p) (net_of c p)

abbrev pub exclusion_of : Component → Tree → Bool → Name → Option NetExclusion
exclusion_of c p allows nm = option_map (λ e. record { event = e; pred = predicate_at c p; allows = allows }) (event_at (denotes c nm))

abbrev pub net_exclusions : Declared → List NetExclusion
net_exclusions (c, invariant_decl (needs nms p)) = filter_map (exclusion_of c p true) nms
net_exclusions (c, invariant_decl (disables p nms)) = filter_map (exclusion_of c p false) nms
net_exclusions _ = []

abbrev pub net_invariants : Declared → List NetInvariant
net_invariants (c, invariant_decl (always p)) = record { pred = predicate_at c p; at = tree_at p } ∷ []
net_invariants _ = []

-- ---- the net

abbrev pub net_of_source : Source → Net
net_of_source t = record {
  autos = map net_auto (automata t);
  events = map net_event (events t);
  inputs = map net_stored (inputs t);
  vars = map net_stored (variables t);
  algs = map net_alg (algs t);
  exclusions = flat_map net_exclusions (declarations t);
  invariants = flat_map net_invariants (declarations t);
}
