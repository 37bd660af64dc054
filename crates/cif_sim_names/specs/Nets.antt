-- By which names a simulation tells of a net, and what reasons in it are told by.
use Rattle.std.specs.Prelude.{ℕ, ◌+◌, ℤ, List, [], ◌∷◌, ◌++◌, map, length, option_to_list, slice_get, unwrap_or, option_map, if◌then◌else◌}
use Rattle.std.specs.List.{zip}
use Rattle.cif_base.specs.declared.types.Ty.{Ty}
use Rattle.cif_base.specs.declared.types.Ty.TheVariants as ty
use Rattle.grammar.specs.Pieces.{Text}
use Rattle.cif_system.specs.System.{State}
use Rattle.cif_net_expr.specs.Tree.{NetUpdate, net_set, net_choose, NetUpdates, no_net_updates, net_updates, NetUpdateBranches, no_net_update_branches, net_update_branches}
use Rattle.cif_net_model.specs.Net.{NetEdge, NetAuto, NetEvent, NetStored, NetExclusion, NetInvariant, Net}
use Rattle.cif_net_model.specs.Exprs.{expr_at, targets, writes_all, writes_by, writes_in}
use Rattle.cif_net_model.specs.Value.{is_true}
use Rattle.cif_net_model.specs.Meaning.{value_in}
use Rattle.cif_sim_model.specs.Names.{Values, truths, numbers, literals, AutomatonNames, ValueNames, Names}
use Rattle.cif_why_model.specs.Told.{ValueTold, Assigned, EdgeTold, Told}

-- ---- names

-- the values of a type with these literals
abbrev pub values_of : Ty → List Text → Values
values_of ty.Bool ls = truths
values_of (ty.Int lo hi) ls = numbers
values_of (ty.Enum size) ls = literals ls

abbrev pub auto_names : NetAuto → AutomatonNames
auto_names a = record { path = a.path; locs = a.locs }

abbrev pub stored_names : NetStored → ValueNames
stored_names v = record { path = v.path; values = values_of v.type_of v.literals }

abbrev pub names_of_net : Net → Names
names_of_net n = record {
  automata = map auto_names n.autos;
  events = map (λ (e : NetEvent). e.path) n.events;
  variables = map stored_names n.vars;
  inputs = map stored_names n.inputs;
}

-- ---- values of edges

-- What updates assign in a state, where the first of their right sides has the number k: of a conditional one what the branch
-- does whose condition is the first that holds, and else what stands behind `else`.
abbrev mutual
  pub net_numbered_all : Net → State → ℤ → (k : ℕ) → NetUpdates → List Assigned
  net_numbered_all n s r k no_net_updates = []
  net_numbered_all n s r k (net_updates u us) = net_numbered_by n s r k u ++ net_numbered_all n s r (k + length (writes_by u)) us

  pub net_numbered_by : Net → State → ℤ → (k : ℕ) → NetUpdate → List Assigned
  net_numbered_by n s r k (net_set v e) = record { number = k; variable = v; value = value_in n s r e } ∷ []
  net_numbered_by n s r k (net_choose bs us) = net_numbered_in n s r k (net_numbered_all n s r (k + length (writes_in bs)) us) bs

  pub net_numbered_in : Net → State → ℤ → (k : ℕ) → List Assigned → NetUpdateBranches → List Assigned
  net_numbered_in n s r k other no_net_update_branches = other
  net_numbered_in n s r k other (net_update_branches c us bs) =
      if is_true (value_in n s r c) then net_numbered_all n s r k us else net_numbered_in n s r (k + length (writes_all us)) other bs

abbrev pub event_path_in : Net → ℕ → Text
event_path_in n e = unwrap_or (option_map (λ (x : NetEvent). x.path) (slice_get n.events e)) []

abbrev pub variable_path_in : Net → ℕ → Text
variable_path_in n v = unwrap_or (option_map (λ (x : NetStored). x.path) (slice_get n.vars v)) []

-- what the values of an edge go to: the event, and then the variables
abbrev pub paths_of_edge : Net → NetEdge → List Text
paths_of_edge n x = map (λ e. event_path_in n x.event) (option_to_list x.sent) ++ map (variable_path_in n) (targets x.updates)

abbrev pub value_told : ℕ × Text → ValueTold
value_told (at, path) = record { place = at; path = path }

abbrev pub net_edge_told : Net → NetEdge → EdgeTold
net_edge_told n x = record {
  values = map value_told (zip x.places (paths_of_edge n x));
  assigned = λ s r. net_numbered_all n s r (length (option_to_list x.sent)) x.updates;
}

abbrev pub told_of_net : Net → Told
told_of_net n = record {
  automata = map (λ (a : NetAuto). record { path = a.path; edges = map (net_edge_told n) a.edges }) n.autos;
  exclusions = map (λ (x : NetExclusion). expr_at x.pred) n.exclusions;
  invariants = map (λ (i : NetInvariant). i.at) n.invariants;
}
