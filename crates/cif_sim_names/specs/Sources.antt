-- By which names a simulation tells of a source, and what reasons in it are told by.
use Rattle.std.specs.Prelude.{ℕ, ◌+◌, ℤ, List, [], ◌∷◌, ◌++◌, map, flat_map, filter_map, length, option_to_list, slice_get, unwrap_or, option_map, option_and_then, if◌then◌else◌}
use Rattle.std.specs.List.{zip, list_all}
use Rattle.cif_ast.specs.Tree.{UpdateTree, assignment, selection, UpdateTrees, no_updates, updates, UpdateBranches, no_update_branches, update_branches}
use Rattle.cif_ast.specs.declared.names.Ident.{Ident}
use Rattle.cif_ast.specs.declared.names.Name.{Name}
use Rattle.grammar.specs.Pieces.{Text}
use Rattle.cif_system.specs.System.{State}
use Rattle.cif_source.specs.Source.{always, needs, disables, event_decl, disc_decl, input_decl, invariant_decl, TypeTree, Source, tree_at, list_of_trees}
use Rattle.cif_source.specs.Components.{Component, specification_of, path_of}
use Rattle.cif_source.specs.Lookup.{denotes}
use Rattle.cif_source.specs.Objects.{automata, events, variables, inputs, declarations, Declared, locs_of, EventEdge, event_edges}
use Rattle.cif_source.specs.Value.{value_of, is_true}
use Rattle.cif_source.specs.Step.{event_at, variable_at}
use Rattle.cif_source.specs.BodyRules.{targets_of, targets_of_all, targets_of_branches}
use Rattle.cif_inst_model.specs.Types.{net_type}
use Rattle.cif_inst_model.specs.Flat.{dotted, own_path, location_name, sent_tree, value_places}
use Rattle.cif_sim_model.specs.Names.{numbers, AutomatonNames, ValueNames, Names}
use Rattle.cif_why_model.specs.Told.{Assigned, EdgeTold, AutomatonTold, Told}
use Rattle.cif_sim_names.specs.Nets.{values_of, value_told}

-- ---- names

abbrev pub automaton_names : Component → AutomatonNames
automaton_names a = record { path = dotted (path_of a); locs = map location_name (locs_of a) }

abbrev pub value_names : Component → Ident → TypeTree → ValueNames
value_names c n t = record { path = own_path c n; values = values_of (net_type c t).type_of (net_type c t).literals }

abbrev pub no_names : ValueNames
no_names = record { path = []; values = numbers }

abbrev pub declared_names : Declared → ValueNames
declared_names (c, disc_decl t n e) = value_names c n t
declared_names (c, input_decl t n) = value_names c n t
declared_names _ = no_names

abbrev pub declared_path : Declared → Text
declared_path (c, event_decl k h n) = own_path c n
declared_path _ = []

abbrev pub names_of : Source → Names
names_of t = record {
  automata = map automaton_names (automata t);
  events = map declared_path (events t);
  variables = map declared_names (variables t);
  inputs = map declared_names (inputs t);
}

-- ---- values of edges

-- What updates assign in a state, where the first of their right sides has the number k: of a conditional one what the branch
-- does whose conditions are the first that hold, and else what stands behind `else`.
abbrev mutual
  pub numbered_all : Component → State → ℤ → (k : ℕ) → UpdateTrees → List Assigned
  numbered_all c s r k no_updates = []
  numbered_all c s r k (updates u us) = numbered_by c s r k u ++ numbered_all c s r (k + length (targets_of u)) us

  pub numbered_by : Component → State → ℤ → (k : ℕ) → UpdateTree → List Assigned
  numbered_by c s r k (assignment nm e) =
      map (λ v. record { number = k; variable = v; value = value_of c e s r }) (option_to_list (variable_at (denotes c nm)))
  numbered_by c s r k (selection bs us) = numbered_in c s r k (numbered_all c s r (k + length (targets_of_branches bs)) us) bs

  pub numbered_in : Component → State → ℤ → (k : ℕ) → List Assigned → UpdateBranches → List Assigned
  numbered_in c s r k others no_update_branches = others
  numbered_in c s r k others (update_branches cs us bs) =
      if list_all (λ e. is_true (value_of c e s r)) (list_of_trees cs) then numbered_all c s r k us else numbered_in c s r (k + length (targets_of_all us)) others bs

-- the path of the event, or of the variable, that a name denotes
abbrev pub event_named : Component → Name → Text
event_named a nm = unwrap_or (option_map declared_path (option_and_then (slice_get (events (specification_of a))) (event_at (denotes a nm)))) []

abbrev pub variable_named : Component → Name → Text
variable_named a nm =
    unwrap_or (option_map (λ d. (declared_names d).path) (option_and_then (slice_get (variables (specification_of a))) (variable_at (denotes a nm)))) []

-- what the values of an edge go to: the event, and then the variables
abbrev pub paths_of : Component → EventEdge → List Text
paths_of a w = map (λ e. event_named a w.event_use.name) (option_to_list (sent_tree w.event_use.role)) ++ map (variable_named a) (targets_of_all w.edge.updates)

abbrev pub edge_told : Component → EventEdge → EdgeTold
edge_told a w = record {
  values = map value_told (zip (value_places w) (paths_of a w));
  assigned = λ s r. numbered_all a s r (length (option_to_list (sent_tree w.event_use.role))) w.edge.updates;
}

abbrev pub automaton_told : Component → AutomatonTold
automaton_told a = record { path = dotted (path_of a); edges = map (edge_told a) (event_edges a) }

-- ---- predicates

-- one for each event that is named
abbrev pub exclusion_places : Declared → List ℕ
exclusion_places (c, invariant_decl (needs nms p)) = map (λ e. tree_at p) (filter_map (λ nm. event_at (denotes c nm)) nms)
exclusion_places (c, invariant_decl (disables p nms)) = map (λ e. tree_at p) (filter_map (λ nm. event_at (denotes c nm)) nms)
exclusion_places _ = []

abbrev pub invariant_places : Declared → List ℕ
invariant_places (c, invariant_decl (always p)) = tree_at p ∷ []
invariant_places _ = []

abbrev pub told_of : Source → Told
told_of t = record {
  automata = map automaton_told (automata t);
  exclusions = flat_map exclusion_places (declarations t);
  invariants = flat_map invariant_places (declarations t);
}
