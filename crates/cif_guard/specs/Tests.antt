-- Helper of the code: the tests of an event, by the places of its exclusions, and tests behind those of a choice.
use Rattle.std.specs.Prelude.{ℕ, List, [], ◌∷◌, ◌++◌, map, flat_map, length, slice_get, slice_index_or, Some, None}
use Rattle.std.specs.List.{range_with_len}
use Rattle.cif_net_expr.specs.Tree.{NetExpr, net_expr, NetForm, n_and, NetExprs, no_net_exprs, net_exprs}
use Rattle.cif_net_model.specs.Net as n
use Rattle.cif_net_model.specs.Listing.{NetChoice, all_hold, exclusion_test}
use Rattle.cif_sync.specs.Columns.{places_in}

-- the test of the exclusion at a place, if there is one
abbrev pub test_at : List n.NetExclusion → ℕ → List NetExpr
test_at xs k = elim (slice_get xs k) [ None ↦ [] | Some x ↦ exclusion_test x ∷ [] ]

-- the tests of the exclusions at these places
abbrev pub tests_at : List n.NetExclusion → List ℕ → List NetExpr
tests_at xs ks = flat_map (test_at xs) ks

abbrev pub list_of : NetExprs → List NetExpr
list_of no_net_exprs = []
list_of (net_exprs e es) = e ∷ list_of es

-- the members of a conjunction
abbrev pub form_members : NetForm → (at : ℕ) → List NetExpr
form_members (n_and es) at = list_of es
form_members f at = net_expr f at ∷ []

abbrev pub members : NetExpr → List NetExpr
members (net_expr f at) = form_members f at

-- a choice with more tests, and with the numbers of these many state invariants
abbrev pub with_tests : NetChoice → List NetExpr → (invariants : ℕ) → NetChoice
with_tests c more invariants = record {
  event = c.event;
  moves = c.moves;
  test = all_hold (members c.test ++ more);
  sent = c.sent;
  writes = c.writes;
  invariants = range_with_len 0 invariants;
}

-- for each event the places of its exclusions
abbrev pub exclusion_events : List n.NetExclusion → List ℕ
exclusion_events xs = map (λ (x : n.NetExclusion). x.event) xs

abbrev pub exclusion_places : (events : ℕ) → List n.NetExclusion → List (List ℕ)
exclusion_places events xs = places_in events (exclusion_events xs)

abbrev pub guarded_from : n.Net → (events : List (List ℕ)) → NetChoice → NetChoice
guarded_from x places c = with_tests c (tests_at x.exclusions (slice_index_or places c.event [])) (length x.invariants)

abbrev pub all_guarded : n.Net → List NetChoice → List NetChoice
all_guarded x cs = map (guarded_from x (exclusion_places (length x.events) x.exclusions)) cs
