-- Who can take part in an event of a net, and which exclusions forbid it, by the values of expressions.
use Rattle.std.specs.Prelude.{ℕ, ◌+◌, Bool, false, not, ◌&&◌, ◌||◌, nat_eq, List, [], ◌∷◌, slice_index_or, if◌then◌else◌}
use Rattle.std.specs.List.{AllByRecursion, list_any}
use Rattle.cif_system.specs.System.{Role, receiving, sending, syncing}
use Rattle.cif_net_expr.specs.Tree.{NetExpr}
use Rattle.cif_net_model.specs.Net.{NetAuto, NetEdge, NetExclusion}
use Rattle.cif_net_model.specs.Listing.{is_edge_for, monitors_event, syncs_on, uses_event}
use Rattle.cif_net_model.specs.Value.{is_true}
use Rattle.cif_net_model.specs.Safe.{IsSafe, Setting, value_at}

abbrev pub true_at : Setting → NetExpr → Bool
true_at x e = is_true (value_at x e)

-- ---- what is evaluated

abbrev pub AreSafeGuards : Setting → List NetEdge → Type 0
AreSafeGuards x ys = AllByRecursion (λ (y : NetEdge). IsSafe x y.guard) ys

abbrev pub AreSafeAutos : Setting → List NetAuto → Type 0
AreSafeAutos x autos = AllByRecursion (λ (a : NetAuto). AreSafeGuards x a.edges) autos

abbrev pub AreSafeExclusions : Setting → List NetExclusion → Type 0
AreSafeExclusions x es = AllByRecursion (λ (e : NetExclusion). IsSafe x e.pred) es

-- ---- parties

abbrev pub takes_part : ℕ → NetAuto → Bool
takes_part e a = syncs_on e a || uses_event sending e a || uses_event receiving e a

-- the edge is one for e in the role, begins in the place, and its guard holds
abbrev pub is_open : Setting → Role → (e place : ℕ) → NetEdge → Bool
is_open x p e place y = is_edge_for p e y && nat_eq y.from place && true_at x y.guard

abbrev pub some_open : Setting → Role → (e place : ℕ) → List NetEdge → Bool
some_open x p e place ys = list_any (is_open x p e place) ys

-- automaton k has such an edge
abbrev pub can_take : Setting → Role → ℕ → (k : ℕ) → NetAuto → Bool
can_take x p e k a = some_open x p e (slice_index_or x.state.locs k 0) a.edges

-- some automaton has, where the first has the number i
abbrev pub some_can : Setting → Role → ℕ → (i : ℕ) → List NetAuto → Bool
some_can x p e i [] = false
some_can x p e i (a ∷ autos) = can_take x p e i a || some_can x p e (i + 1) autos

abbrev pub is_blocked : Setting → ℕ → (k : ℕ) → NetAuto → Bool
is_blocked x e k a = syncs_on e a && not (monitors_event e a) && not (can_take x syncing e k a)

-- ---- exclusions

abbrev pub is_forbidden : Setting → ℕ → NetExclusion → Bool
is_forbidden x e y = nat_eq y.event e && not (if y.allows then true_at x y.pred else not (true_at x y.pred))
