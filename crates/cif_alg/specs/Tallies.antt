-- What is counted for each event, automaton by automaton.
use Rattle.std.specs.Prelude.{ℕ, ◌+◌, Bool, true, false, List, [], ◌∷◌, length, map, Some, None, option_map, replicate, slice_get, slice_set, if◌then◌else◌}
use Rattle.cif_system.specs.System.{Role, syncing, sending, receiving}
use Rattle.cif_net_expr.specs.Tree.{NetExpr}
use Rattle.cif_net_model.specs.Net.{no_net_chan, NetEdge, NetAuto, NetEvent, NetExclusion, NetInvariant}
use Rattle.cif_net_model.specs.Counts.{Measure}
use Rattle.cif_net_model.specs.Exprs.{edge_exprs}
use Rattle.cif_alg_measure.specs.Sizes.{sizes_by}
use Rattle.cif_alg.specs.declared.weighed.Weighed.{Weighed}
use Rattle.cif_alg.specs.declared.tally.Options.{Options}
use Rattle.cif_alg.specs.declared.tally.Tally.{Tally}
use Rattle.cif_alg.specs.Weighed.{cut, nothing, with_one, paired, all_nodes}

-- ---- one event

-- no automaton was met, and each choice has so many nodes besides
abbrev pub met_with : (besides : ℕ) → Tally
met_with b = record { choices = record { count = 1; nodes = 0 }; has_party = false; options = None; sends = nothing; receives = nothing; besides = b }

-- an automaton that has the event begins
abbrev pub opened : Tally → Tally
opened t = record t { options = Some (record { edges = nothing; stays = false }) }

abbrev pub one_edge : (nodes : ℕ) → Options → Options
one_edge nodes o = record o { edges = with_one nodes o.edges }

-- it has an edge for the event in that role, with so many nodes
abbrev pub with_edge : Role → (nodes : ℕ) → Tally → Tally
with_edge syncing nodes t = record t { options = option_map (one_edge nodes) t.options }
with_edge sending nodes t = record t { sends = with_one nodes t.sends }
with_edge receiving nodes t = record t { receives = with_one nodes t.receives }

abbrev pub one_stay : Options → Options
one_stay o = record o { stays = true }

-- it monitors the event
abbrev pub with_stay : Tally → Tally
with_stay t = record t { options = option_map one_stay t.options }

-- to stay has one node
abbrev pub all_options : Options → Weighed
all_options o = if o.stays then with_one 1 o.edges else o.edges

-- the automaton ends: each choice goes on with each of its options
abbrev pub closed : Tally → Tally
closed t = elim t.options [
  | None ↦ t
  | Some o ↦ record t { choices = paired t.choices (all_options o); has_party = true; options = None }
]

-- the event has an exclusion, with so many nodes
abbrev pub with_besides : (nodes : ℕ) → Tally → Tally
with_besides nodes t = record t { besides = cut (t.besides + nodes) }

-- the nodes of all choices, each with one of its own: for a channel one edge sends and one receives beside what the others do,
-- and for another event there is no choice without a party
abbrev pub tally_nodes : (is_channel : Bool) → Tally → ℕ
tally_nodes true t = all_nodes (cut (1 + t.besides)) (paired t.sends (paired t.receives t.choices))
tally_nodes false t = if t.has_party then all_nodes (cut (1 + t.besides)) t.choices else 0

-- ---- sizes, where alg tells what an algebraic variable weighs

abbrev pub cut_size : (alg : ℕ → Measure) → List NetExpr → ℕ
cut_size alg es = cut (sizes_by alg es)

-- an edge as an option: the party, and its expressions
unfoldable pub edge_nodes : (alg : ℕ → Measure) → NetEdge → ℕ
edge_nodes alg x = cut (1 + cut_size alg (edge_exprs x))

unfoldable pub exclusion_nodes : (alg : ℕ → Measure) → NetExclusion → ℕ
exclusion_nodes alg x = cut_size alg (x.pred ∷ [])

-- all state invariants together
unfoldable pub invariants_nodes : (alg : ℕ → Measure) → List NetInvariant → ℕ
invariants_nodes alg xs = cut_size alg (map (λ (i : NetInvariant). i.pred) xs)

-- ---- all events

-- what stands at k is changed, where there is something
abbrev pub changed : {A : Type 0} → (A → A) → ℕ → List A → List A
changed g k xs = elim (slice_get xs k) [ None ↦ xs | Some x ↦ slice_set xs k (g x) ]

-- for each of the elements, at its key
abbrev pub each_changed : {X A : Type 0} → (X → ℕ) → (X → A → A) → List X → List A → List A
each_changed key g [] ts = ts
each_changed key g (x ∷ xs) ts = each_changed key g xs (changed (g x) (key x) ts)

abbrev pub opened_for : (events : List ℕ) → List Tally → List Tally
opened_for es ts = each_changed (λ e. e) (λ e. opened) es ts

abbrev pub edges_noted : (alg : ℕ → Measure) → List NetEdge → List Tally → List Tally
edges_noted alg xs ts = each_changed (λ (x : NetEdge). x.event) (λ x. with_edge x.role (edge_nodes alg x)) xs ts

abbrev pub stays_noted : (events : List ℕ) → List Tally → List Tally
stays_noted es ts = each_changed (λ e. e) (λ e. with_stay) es ts

abbrev pub closed_for : (events : List ℕ) → List Tally → List Tally
closed_for es ts = each_changed (λ e. e) (λ e. closed) es ts

abbrev pub exclusions_noted : (alg : ℕ → Measure) → List NetExclusion → List Tally → List Tally
exclusions_noted alg xs ts = each_changed (λ (x : NetExclusion). x.event) (λ x. with_besides (exclusion_nodes alg x)) xs ts

-- an automaton is counted for the events of its alphabet
abbrev pub tallied : (alg : ℕ → Measure) → NetAuto → List Tally → List Tally
tallied alg a ts = closed_for a.alphabet (stays_noted a.monitors (edges_noted alg a.edges (opened_for a.alphabet ts)))

abbrev pub all_tallied : (alg : ℕ → Measure) → List NetAuto → List Tally → List Tally
all_tallied alg [] ts = ts
all_tallied alg (a ∷ autos) ts = all_tallied alg autos (tallied alg a ts)

abbrev pub is_channel_event : NetEvent → Bool
is_channel_event e = elim e.chan [ no_net_chan ↦ false | _ ↦ true ]

-- those of all events, by their tallies
abbrev pub tallies_nodes : ℕ → List NetEvent → List Tally → ℕ
tallies_nodes n [] ts = n
tallies_nodes n (e ∷ es) [] = n
tallies_nodes n (e ∷ es) (t ∷ ts) = tallies_nodes (cut (n + tally_nodes (is_channel_event e) t)) es ts

-- each choice has the nodes of all state invariants, and of the exclusions of its event
abbrev pub counted : (alg : ℕ → Measure) → List NetAuto → List NetExclusion → List NetInvariant → List NetEvent → ℕ
counted alg autos exclusions invariants events =
    tallies_nodes 0 events (exclusions_noted alg exclusions (all_tallied alg autos (replicate (length events) (met_with (invariants_nodes alg invariants)))))
