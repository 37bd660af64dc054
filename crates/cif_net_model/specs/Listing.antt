-- The choices of a net as a table: who has an event in which role, and for each choice its moves, the test of the old
-- state, what is sent and what is assigned.
use Rattle.std.specs.Prelude.{ℕ, Bool, ◌&&◌, nat_eq, List, [], ◌∷◌, ◌++◌, map, length, filter, find, flat_map, filter_map, zip, Option, Some, None, option_and_then, slice_get, if◌then◌else◌}
use Rattle.std.specs.List.{list_any, enumerate_from, range_with_len}
use Rattle.cif_system.specs.System.{Role, syncing, sending, receiving, System}
use Rattle.cif_system.specs.Step.{Choice, same_role}
use Rattle.cif_system.specs.Choices.{choices, event_numbers}
use Rattle.cif_net_expr.specs.Tree.{NetExpr, net_expr, n_loc, n_not, n_and, NetExprs, no_net_exprs, net_exprs, NetUpdates, no_net_updates, net_updates}
use Rattle.cif_net_model.specs.Net.{NetEdge, NetAuto, NetExclusion, Net}
use Rattle.cif_net_model.specs.Meaning.{system_of_net}

-- ---- roles

-- the numbers of automata that synchronise on an event, those of them that monitor it, and those that send or receive
pub record NetRoles : Type 0 where
  pub syncs : List ℕ
  pub monitors : List ℕ
  pub sends : List ℕ
  pub receives : List ℕ

abbrev pub syncs_on : ℕ → NetAuto → Bool
syncs_on e a = list_any (nat_eq e) a.alphabet

abbrev pub monitors_event : ℕ → NetAuto → Bool
monitors_event e a = list_any (nat_eq e) a.alphabet && list_any (nat_eq e) a.monitors

abbrev pub is_edge_for : Role → ℕ → NetEdge → Bool
is_edge_for p e x = same_role p x.role && nat_eq x.event e

abbrev pub uses_event : Role → ℕ → NetAuto → Bool
uses_event p e a = list_any (is_edge_for p e) a.edges

-- the numbers of the elements that pass, ascending
abbrev pub numbers_of : {A : Type 0} → (A → Bool) → List A → List ℕ
numbers_of p xs = map (λ x. x.0) (filter (λ x. p x.1) (enumerate_from 0 xs))

abbrev pub event_roles : Net → ℕ → NetRoles
event_roles n e = record {
  syncs = numbers_of (syncs_on e) n.autos;
  monitors = numbers_of (monitors_event e) n.autos;
  sends = numbers_of (uses_event sending e) n.autos;
  receives = numbers_of (uses_event receiving e) n.autos;
}

-- for each event
abbrev pub roles_of : Net → List NetRoles
roles_of n = map (event_roles n) (range_with_len 0 (length n.events))

-- ---- choices

-- an automaton takes an edge, or it stays
pub record NetMove : Type 0 where
  pub auto : ℕ
  pub edge : Option ℕ

pub record NetChoice : Type 0 where
  pub event : ℕ
  pub moves : List NetMove
  pub test : NetExpr
  pub sent : Option NetExpr
  pub writes : NetUpdates
  pub invariants : List ℕ

-- a party synchronises or takes an edge
abbrev pub move_if : ℕ → (ℕ × NetAuto) × Option ℕ → Option NetMove
move_if e ((k, a), Some x) = Some (record { auto = k; edge = Some x })
move_if e ((k, a), None) = if syncs_on e a then Some (record { auto = k; edge = None }) else None

-- the moves of the parties, in ascending number
abbrev pub moves_of : Net → ℕ → Choice → List NetMove
moves_of n e ch = filter_map (move_if e) (zip (enumerate_from 0 n.autos) ch)

-- what an automaton does where these are the moves: the edge that it takes, or it stays
abbrev pub edge_in : List NetMove → ℕ → Option ℕ
edge_in ms k = option_and_then (λ (m : NetMove). m.edge) (find (λ (m : NetMove). nat_eq m.auto k) ms)

-- for each automaton, whether it is a party or not
abbrev pub full_choice : Net → NetChoice → ℕ × Choice
full_choice n c = (c.event, map (edge_in c.moves) (range_with_len 0 (length n.autos)))

abbrev pub full_choices : Net → List NetChoice → List (ℕ × Choice)
full_choices n cs = map (full_choice n) cs

-- the choices of all events in their order
abbrev pub listed : System → List (ℕ × Choice)
listed m = flat_map (λ e. map (λ ch. (e, ch)) (choices m e)) (event_numbers m)

-- ---- the edges of a choice

abbrev pub edge_at : NetAuto × Option ℕ → Option NetEdge
edge_at (a, m) = option_and_then (slice_get a.edges) m

abbrev pub edges_taken : Net → Choice → List NetEdge
edges_taken n ch = filter_map edge_at (zip n.autos ch)

-- the first value that is sent
abbrev pub sent_by : List NetEdge → Option NetExpr
sent_by [] = None
sent_by (x ∷ xs) = elim x.sent [ Some e ↦ Some e | None ↦ sent_by xs ]

abbrev pub both : NetUpdates → NetUpdates → NetUpdates
both no_net_updates vs = vs
both (net_updates u us) vs = net_updates u (both us vs)

-- the updates of the edges in their order
abbrev pub writes_of : List NetEdge → NetUpdates
writes_of [] = no_net_updates
writes_of (x ∷ xs) = both x.updates (writes_of xs)

-- ---- tests

abbrev pub exprs_of : List NetExpr → NetExprs
exprs_of [] = no_net_exprs
exprs_of (e ∷ es) = net_exprs e (exprs_of es)

abbrev pub all_hold : List NetExpr → NetExpr
all_hold es = net_expr (n_and (exprs_of es)) 0

abbrev pub fails : NetExpr → NetExpr
fails e = net_expr (n_not e) 0

-- the automaton is where the edge begins, and its guard holds
abbrev pub opens : ℕ → NetEdge → List NetExpr
opens k x = net_expr (n_loc k x.from) 0 ∷ x.guard ∷ []

-- that the edge is enabled, or that none of its edges for the event is
abbrev pub move_test : ℕ → (ℕ × NetAuto) × Option ℕ → List NetExpr
move_test e ((k, a), Some x) = elim (slice_get a.edges x) [ None ↦ [] | Some y ↦ opens k y ]
move_test e ((k, a), None) = if syncs_on e a then map (λ x. fails (all_hold (opens k x))) (filter (is_edge_for syncing e) a.edges) else []

abbrev pub choice_test : Net → ℕ → Choice → List NetExpr
choice_test n e ch = flat_map (move_test e) (zip (enumerate_from 0 n.autos) ch)

-- what the event needs, and what does not disable it
abbrev pub exclusion_test : NetExclusion → NetExpr
exclusion_test x = if x.allows then x.pred else fails x.pred

abbrev pub event_test : Net → ℕ → List NetExpr
event_test n e = map exclusion_test (filter (λ (x : NetExclusion). nat_eq x.event e) n.exclusions)

abbrev pub choice_with : Net → ℕ → Choice → (tests : List NetExpr) → (invariants : List ℕ) → NetChoice
choice_with n e ch tests invariants = record {
  event = e;
  moves = moves_of n e ch;
  test = all_hold tests;
  sent = sent_by (edges_taken n ch);
  writes = writes_of (edges_taken n ch);
  invariants = invariants;
}

-- a choice alone, and one with the exclusions and all state invariants
abbrev pub linear_choice : Net → ℕ × Choice → NetChoice
linear_choice n (e, ch) = choice_with n e ch (choice_test n e ch) []

abbrev pub guarded_choice : Net → ℕ × Choice → NetChoice
guarded_choice n (e, ch) = choice_with n e ch (choice_test n e ch ++ event_test n e) (range_with_len 0 (length n.invariants))

abbrev pub linear_of : Net → List NetChoice
linear_of n = map (linear_choice n) (listed (system_of_net n))

abbrev pub guarded_of : Net → List NetChoice
guarded_of n = map (guarded_choice n) (listed (system_of_net n))
