-- Worked examples, each by computing: the nodes of a net, and what is counted.
use Rattle.std.proofs.Common.{◌≡◌, ℕ, ◌+◌, ◌*◌, true, List, [], ◌∷◌, ◌++◌, drop, replicate, refl}
use Rattle.cif_system.specs.System.{plain}
use Rattle.cif_system.specs.Choices.{all_choices}
use Rattle.cif_net_expr.specs.Tree.{NetExpr, n_alg, lt, no_net_updates}
use Rattle.cif_net_model.specs.Net.{no_net_chan, NetEdge, NetAuto, NetExclusion, NetInvariant, Net}
use Rattle.cif_net_model.specs.Meaning.{system_of_net}
use Rattle.cif_net_model.specs.Counts.{nodes, depth}
use Rattle.cif_net_model.specs.Rules.{is_plain}
use Rattle.cif_net_model.proofs.Examples.{here, sure, num, var, compare, event, edge, auto, net_with, counter, channel}
use Rattle.cif_alg_measure.specs.declared.measures.Measure.{Measure}
use Rattle.cif_alg_measure.specs.Meanings.{table_measure}
use Rattle.cif_alg.specs.Tallies.{edge_nodes, exclusion_nodes, invariants_nodes, counted}
use Rattle.cif_alg.specs.Outlines.{AreAsLarge}

-- so many edges for event 0
abbrev with_edges : ℕ → NetAuto
with_edges k = auto (0 ∷ []) (replicate k (edge sure no_net_updates []))

abbrev monitoring : ℕ → NetAuto
monitoring k = record (with_edges k) { monitors = 0 ∷ 0 ∷ [] }

abbrev net : List NetAuto → Net
net autos = net_with (event plain no_net_chan) autos

abbrev nodes_counted : Net → ℕ
nodes_counted n = counted (table_measure []) n.autos n.exclusions n.invariants n.events

-- three edges and four: twelve choices, each itself, two parties and two guards
abbrev two : Net
two = net (with_edges 3 ∷ with_edges 4 ∷ [])

two_is_plain : is_plain two ≡ true
two_is_plain = refl

two_choices : all_choices (system_of_net two) ≡ 12
two_choices = refl

two_nodes : nodes two ≡ 12 * (1 + 2 + 2)
two_nodes = refl

two_counted : nodes_counted two ≡ 60
unfolding edge_nodes exclusion_nodes invariants_nodes
two_counted = refl

two_depth : depth two ≡ 0
two_depth = refl

-- one of them may also stay, as a party without a guard
abbrev watched : Net
watched = net (monitoring 3 ∷ with_edges 4 ∷ [])

watched_nodes : nodes watched ≡ 12 * (1 + 2 + 2) + 4 * (1 + 2 + 1)
watched_nodes = refl

watched_counted : nodes_counted watched ≡ 76
unfolding edge_nodes exclusion_nodes invariants_nodes
watched_counted = refl

-- an automaton that always stays
abbrev idle : Net
idle = net (monitoring 0 ∷ [])

idle_nodes : nodes idle ≡ 1 + 1
idle_nodes = refl

idle_counted : nodes_counted idle ≡ 2
unfolding edge_nodes exclusion_nodes invariants_nodes
idle_counted = refl

-- one that has the event and no edge for it blocks it
abbrev blocked : Net
blocked = net (with_edges 0 ∷ with_edges 4 ∷ [])

blocked_nodes : nodes blocked ≡ 0
blocked_nodes = refl

blocked_counted : nodes_counted blocked ≡ 0
unfolding edge_nodes exclusion_nodes invariants_nodes
blocked_counted = refl

-- an event that nobody has
abbrev lonely : Net
lonely = net (auto [] [] ∷ [])

lonely_nodes : nodes lonely ≡ 0
lonely_nodes = refl

lonely_counted : nodes_counted lonely ≡ 0
unfolding edge_nodes exclusion_nodes invariants_nodes
lonely_counted = refl

-- one that stands twice in an alphabet
abbrev repeated : Net
repeated = net (record (with_edges 3) { alphabet = 0 ∷ 0 ∷ [] } ∷ [])

repeated_nodes : nodes repeated ≡ 3 * (1 + 1 + 1)
repeated_nodes = refl

repeated_counted : nodes_counted repeated ≡ 9
unfolding edge_nodes exclusion_nodes invariants_nodes
repeated_counted = refl

-- 1,000,000 nodes, and three more of another event
abbrev second : NetEdge
second = record (edge sure no_net_updates []) { event = 1 }

abbrev largest : Net
largest = net (with_edges 400 ∷ with_edges 500 ∷ [])

largest_counted : nodes_counted largest ≡ 1000000
unfolding edge_nodes exclusion_nodes invariants_nodes
largest_counted = refl

abbrev larger : Net
larger = record largest { autos = with_edges 400 ∷ with_edges 500 ∷ auto (1 ∷ []) (second ∷ []) ∷ []; events = event plain no_net_chan ∷ event plain no_net_chan ∷ [] }

larger_counted : nodes_counted larger ≡ 1000001
unfolding edge_nodes exclusion_nodes invariants_nodes
larger_counted = refl

-- a guard of three forms, and an update of three
abbrev small : NetExpr
small = compare (var 0) lt (num 10)

counting_nodes : nodes (counter small) ≡ 1 + 1 + 3 + 3
counting_nodes = refl

counting_counted : nodes_counted (counter small) ≡ 8
unfolding edge_nodes exclusion_nodes invariants_nodes
counting_counted = refl

-- the same of an outline, which has a measure in the place of the guard and the update
abbrev measures : ℕ → List Measure
measures size = record { size = 1; depth = 0 } ∷ record { size = size; depth = 1 } ∷ []

abbrev outline : List NetAuto
outline = auto (0 ∷ []) (edge (here (n_alg 1)) no_net_updates [] ∷ []) ∷ []

outline_is_as_large : AreAsLarge (measures 6) outline [] [] (counter small)
outline_is_as_large = record { autos_as = refl; exclusions_as = refl; invariants_as = refl }

outline_counted : counted (table_measure (measures 6)) outline [] [] (counter small).events ≡ 8
unfolding edge_nodes exclusion_nodes invariants_nodes
outline_counted = refl

large_outline_counted : counted (table_measure (measures 2000000)) outline [] [] (counter small).events ≡ 1000001
unfolding edge_nodes exclusion_nodes invariants_nodes
large_outline_counted = refl

counting_depth : depth (counter small) ≡ 1
counting_depth = refl

counting_is_plain : is_plain (counter small) ≡ true
counting_is_plain = refl

-- each choice has the nodes of the exclusions of its event, and of no other
abbrev exclusion : (event : ℕ) → NetExpr → NetExclusion
exclusion e p = record { event = e; allows = true; pred = p }

abbrev excluded : Net
excluded = record two { exclusions = exclusion 0 small ∷ exclusion 0 sure ∷ exclusion 1 small ∷ []; events = event plain no_net_chan ∷ event plain no_net_chan ∷ [] }

excluded_nodes : nodes excluded ≡ 12 * (1 + 2 + 2 + 3 + 1)
excluded_nodes = refl

excluded_counted : nodes_counted excluded ≡ 108
unfolding edge_nodes exclusion_nodes invariants_nodes
excluded_counted = refl

-- exclusions of an event that nobody has
abbrev unheeded : Net
unheeded = record lonely { exclusions = exclusion 0 small ∷ [] }

unheeded_nodes : nodes unheeded ≡ 0
unheeded_nodes = refl

unheeded_counted : nodes_counted unheeded ≡ 0
unfolding edge_nodes exclusion_nodes invariants_nodes
unheeded_counted = refl

-- and the nodes of all state invariants
abbrev invariant : NetExpr → NetInvariant
invariant p = record { pred = p; at = 0 }

abbrev guarded : Net
guarded = record excluded { invariants = invariant small ∷ invariant sure ∷ [] }

guarded_nodes : nodes guarded ≡ 12 * (1 + 2 + 2 + 3 + 1 + 3 + 1)
guarded_nodes = refl

guarded_counted : nodes_counted guarded ≡ 156
unfolding edge_nodes exclusion_nodes invariants_nodes
guarded_counted = refl

-- an outline of it, without its exclusions
abbrev guarded_outline : List NetInvariant
guarded_outline = invariant (here (n_alg 1)) ∷ invariant (here (n_alg 0)) ∷ []

guarded_is_as_large : AreAsLarge (measures 3) two.autos [] guarded_outline (record guarded { exclusions = [] })
guarded_is_as_large = record { autos_as = refl; exclusions_as = refl; invariants_as = refl }

guarded_outline_counted : counted (table_measure (measures 3)) two.autos [] guarded_outline guarded.events ≡ 108
unfolding edge_nodes exclusion_nodes invariants_nodes
guarded_outline_counted = refl

-- where no choice is left they count for nothing
abbrev guarded_idly : Net
guarded_idly = record lonely { invariants = invariant small ∷ [] }

guarded_idly_nodes : nodes guarded_idly ≡ 0
guarded_idly_nodes = refl

guarded_idly_counted : nodes_counted guarded_idly ≡ 0
unfolding edge_nodes exclusion_nodes invariants_nodes
guarded_idly_counted = refl

-- two automata send and one receives: each choice has a guard and a value of the one, and a guard and an update of the other
channel_nodes : nodes channel ≡ 2 * (1 + 2 + 2 + 2)
channel_nodes = refl

channel_counted : nodes_counted channel ≡ 14
unfolding edge_nodes exclusion_nodes invariants_nodes
channel_counted = refl

-- and one more synchronises
abbrev watched_channel : Net
watched_channel = record channel { autos = channel.autos ++ with_edges 3 ∷ [] }

watched_channel_nodes : nodes watched_channel ≡ 6 * (1 + 3 + 2 + 2 + 1)
watched_channel_nodes = refl

watched_channel_counted : nodes_counted watched_channel ≡ 54
unfolding edge_nodes exclusion_nodes invariants_nodes
watched_channel_counted = refl

-- nobody sends
abbrev silent_channel : Net
silent_channel = record channel { autos = drop 2 channel.autos }

silent_channel_nodes : nodes silent_channel ≡ 0
silent_channel_nodes = refl

silent_channel_counted : nodes_counted silent_channel ≡ 0
unfolding edge_nodes exclusion_nodes invariants_nodes
silent_channel_counted = refl
