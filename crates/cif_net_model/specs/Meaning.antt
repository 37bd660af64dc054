-- A net as a system of automata (CIF 3 language reference).
use Rattle.std.specs.Prelude.{ℕ, ℤ, pos, ◌-ℤ◌, Bool, not, ◌&&◌, ◌||◌, nat_eq, zero, suc, pred, List, [], ◌∷◌, ◌++◌, map, length, Some, option_map, slice_index_or, if◌then◌else◌}
use Rattle.std.specs.List.{list_all, list_any}
use Rattle.cif_base.specs.declared.types.Ty.{Ty}
use Rattle.cif_base.specs.declared.types.Ty.TheVariants as ty
use Rattle.cif_system.specs.System.{State, Range, Edge, Automaton, Channel, no_channel, void_channel, value_channel, Event, Exclusion, Stored, System}
use Rattle.cif_net_expr.specs.Tree.{NetExpr, NetUpdate, net_set, net_choose, NetUpdates, no_net_updates, net_updates, NetUpdateBranches, no_net_update_branches, net_update_branches}
use Rattle.cif_net_model.specs.Net.{NetChan, no_net_chan, void_net_chan, net_chan_of, NetEdge, NetAuto, NetEvent, NetStored, one_value, by_loc, NetAlg, NetExclusion, NetInvariant, Net}
use Rattle.cif_net_model.specs.Unfolding.{at_or, unfolded}
use Rattle.cif_net_model.specs.Value.{is_true, net_value}

-- the numbers of a type: a boolean is 0 or 1, and a literal is its place in its enumeration
abbrev pub type_range : Ty → Range
type_range ty.Bool = record { lo = pos 0; hi = pos 1 }
type_range (ty.Int lo hi) = record { lo = lo; hi = hi }
type_range (ty.Enum size) = record { lo = pos 0; hi = pos size -ℤ pos 1 }

-- ---- values

-- the value for a place, and past the last one that for the last place
abbrev pub at_or_last : List NetExpr → ℕ → (NetExpr → ℤ) → ℤ
at_or_last [] k f = pos 0
at_or_last (e ∷ []) k f = f e
at_or_last (e ∷ g ∷ es) zero f = f e
at_or_last (e ∷ g ∷ es) (suc k) f = at_or_last (g ∷ es) k f

abbrev pub alg_value : (NetExpr → ℤ) → State → NetAlg → ℤ
alg_value f s a = elim a.value [ one_value e ↦ f e | by_loc k es ↦ at_or_last es (slice_index_or s.locs k 0) f ]

-- the values of all algebraic variables, with m unfoldings of them in one another and 0 for one more
abbrev pub alg_values : Net → State → ℤ → ℕ → List ℤ
alg_values n s r m = unfolded (pos 0) (λ alg a. alg_value (net_value alg s r) s a) n.algs m

-- they nest at most as deep as there are algebraic variables
abbrev pub value_in : Net → State → ℤ → NetExpr → ℤ
value_in n s r e = net_value (at_or (pos 0) (alg_values n s r (length n.algs))) s r e

-- with one unfolding less, as in a definition of a variable that is itself unfolded
abbrev pub defined_value : Net → State → NetAlg → ℤ
defined_value n s a = alg_value (net_value (at_or (pos 0) (alg_values n s (pos 0) (pred (length n.algs)))) s (pos 0)) s a

abbrev pub true_in : Net → State → NetExpr → Bool
true_in n s e = is_true (value_in n s (pos 0) e)

-- the pairs of variable and value that updates assign in a state
abbrev mutual
  pub net_assigned_all : Net → State → ℤ → NetUpdates → List (ℕ × ℤ)
  net_assigned_all n s r no_net_updates = []
  net_assigned_all n s r (net_updates u us) = net_assigned_by n s r u ++ net_assigned_all n s r us

  pub net_assigned_by : Net → State → ℤ → NetUpdate → List (ℕ × ℤ)
  net_assigned_by n s r (net_set v e) = (v, value_in n s r e) ∷ []
  net_assigned_by n s r (net_choose bs us) = net_assigned_in n s r (net_assigned_all n s r us) bs

  pub net_assigned_in : Net → State → ℤ → List (ℕ × ℤ) → NetUpdateBranches → List (ℕ × ℤ)
  net_assigned_in n s r other no_net_update_branches = other
  net_assigned_in n s r other (net_update_branches c us bs) = if is_true (value_in n s r c) then net_assigned_all n s r us else net_assigned_in n s r other bs

-- ---- the system

abbrev pub edge_meant : Net → NetEdge → Edge
edge_meant n x = record {
  event = Some x.event;
  role = x.role;
  from = x.from;
  to = x.to;
  guard = λ s. true_in n s x.guard;
  sent = λ s. option_map (value_in n s (pos 0)) x.sent;
  assigned = λ s r. net_assigned_all n s r x.updates;
}

abbrev pub automaton_in : Net → NetAuto → Automaton
automaton_in n a = record {
  synchronises = λ e. list_any (nat_eq e) a.alphabet;
  monitors = λ e. list_any (nat_eq e) a.alphabet && list_any (nat_eq e) a.monitors;
  edges = map (edge_meant n) a.edges;
  places = length a.locs;
  first = a.first;
}

abbrev pub channel_in : NetChan → Channel
channel_in no_net_chan = no_channel
channel_in void_net_chan = void_channel
channel_in (net_chan_of t) = value_channel (type_range t)

abbrev pub event_in : NetEvent → Event
event_in e = record { class = e.class; channel = channel_in e.chan }

abbrev pub stored_in : NetStored → Stored
stored_in v = record { range = type_range v.type_of; first = v.first }

abbrev pub exclusion_in : Net → NetExclusion → Exclusion
exclusion_in n x = record { event = x.event; permits = λ s. if x.allows then true_in n s x.pred else not (true_in n s x.pred) }

abbrev pub invariant_in : Net → NetInvariant → State → Bool
invariant_in n i s = true_in n s i.pred

abbrev pub system_of_net : Net → System
system_of_net n = record {
  automata = map (automaton_in n) n.autos;
  events = map event_in n.events;
  variables = map stored_in n.vars;
  inputs = map stored_in n.inputs;
  algs = map (λ a s. defined_value n s a) n.algs;
  exclusions = map (exclusion_in n) n.exclusions;
  invariants = map (invariant_in n) n.invariants;
}
