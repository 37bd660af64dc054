-- Worked examples of ranges under a guard, of shown values and of separable events.
use Rattle.std.proofs.Common.{◌≡◌, ℕ, pos, true, false, List, [], ◌∷◌, map, Some, refl}
use Rattle.cif_base.specs.declared.types.Ty.TheVariants as ty
use Rattle.cif_system.specs.System.{Range, con, unc}
use Rattle.cif_net_expr.specs.Tree.{CmpOp, eq, ne, lt, le, gt, ge, NetExpr, n_truth, n_loc, n_input, n_plus, n_not, n_and, n_or, no_net_exprs, net_exprs, net_choose, NetUpdates, no_net_updates, net_updates, no_net_update_branches, net_update_branches}
use Rattle.cif_net_model.specs.Net.{no_net_chan, void_net_chan, Net}
use Rattle.cif_net_model.specs.Interval.{between}
use Rattle.cif_net_model.proofs.TableRows.{two_events}
use Rattle.cif_net_model.specs.Reads.{a_var, an_input}
use Rattle.cif_net_model.specs.Shown.{narrowed, is_shown}
use Rattle.cif_net_model.specs.Separable.{is_separable}
use Rattle.cif_net_model.proofs.Examples.{here, sure, num, var, plus, compare, range_to, stored, event, set, edge, auto, counter, channel, invariant_by_place}

-- ---- narrowing

-- variable 0 from 0 to 10, and input 0 from 0 to 20
abbrev narrowed_var : NetExpr → Range
narrowed_var guard = narrowed guard (a_var 0) (Some (stored (range_to 10) 0))

abbrev narrowed_input : NetExpr → Range
narrowed_input guard = narrowed guard (an_input 0) (Some (stored (range_to 20) 0))

abbrev operators : List CmpOp
operators = eq ∷ ne ∷ lt ∷ le ∷ gt ∷ ge ∷ []

before_the_number : map (λ op. narrowed_var (compare (var 0) op (num 4))) operators ≡ between (pos 4) (pos 4) ∷ between (pos 0) (pos 10) ∷ between (pos 0) (pos 3) ∷ between (pos 0) (pos 4) ∷ between (pos 5) (pos 10) ∷ between (pos 4) (pos 10) ∷ []
before_the_number = refl

after_the_number : map (λ op. narrowed_var (compare (num 4) op (var 0))) operators ≡ between (pos 4) (pos 4) ∷ between (pos 0) (pos 10) ∷ between (pos 5) (pos 10) ∷ between (pos 4) (pos 10) ∷ between (pos 0) (pos 3) ∷ between (pos 0) (pos 4) ∷ []
after_the_number = refl

input_after_the_number : narrowed_input (compare (num 4) lt (here (n_input 0))) ≡ between (pos 5) (pos 20)
input_after_the_number = refl

another_is_not_narrowed : narrowed_input (compare (var 0) lt (num 4)) ≡ between (pos 0) (pos 20)
another_is_not_narrowed = refl

-- outside the range nothing is cut, or all is
past_the_range : map (λ op. narrowed_var (compare (var 0) op (num 12))) (lt ∷ gt ∷ eq ∷ []) ≡ between (pos 0) (pos 10) ∷ between (pos 13) (pos 10) ∷ between (pos 12) (pos 10) ∷ []
past_the_range = refl

abbrev both_hold : NetExpr → NetExpr → NetExpr
both_hold a b = here (n_and (net_exprs a (net_exprs b no_net_exprs)))

-- by each conjunct, however they are nested
by_each : narrowed_var (both_hold (compare (var 0) gt (num 2)) (both_hold (compare (var 0) lt (num 9)) (compare (num 4) le (var 0)))) ≡ between (pos 4) (pos 8)
by_each = refl

not_by_or : narrowed_var (here (n_or (net_exprs (compare (var 0) lt (num 4)) (net_exprs (compare (var 0) lt (num 3)) no_net_exprs)))) ≡ between (pos 0) (pos 10)
not_by_or = refl

not_by_not : narrowed_var (here (n_not (compare (var 0) ge (num 4)))) ≡ between (pos 0) (pos 10)
not_by_not = refl

-- by the value of an expression that reads nothing
by_a_value : narrowed_var (compare (var 0) lt (plus (num 2) (num 3))) ≡ between (pos 0) (pos 4)
by_a_value = refl

not_by_another : narrowed_var (compare (var 0) lt (plus (num 2) (var 1))) ≡ between (pos 0) (pos 10)
not_by_another = refl

not_with_a_sign : narrowed_var (compare (here (n_plus (var 0))) lt (num 4)) ≡ between (pos 0) (pos 10)
not_with_a_sign = refl

boolean_is_not_narrowed : narrowed (compare (var 0) eq (here (n_truth true))) (a_var 0) (Some (stored ty.Bool 0)) ≡ between (pos 0) (pos 1)
boolean_is_not_narrowed = refl

-- ---- shown values

-- boolean variable 1, integer variable 2 and input 0, which is from 0 to 20
abbrev with_input : NetExpr → NetUpdates → List ℕ → Net
with_input guard us places = record (counter sure) {
  inputs = stored (range_to 20) 0 ∷ [];
  vars = stored (range_to 10) 0 ∷ stored ty.Bool 0 ∷ stored (range_to 9) 0 ∷ [];
  autos = auto (0 ∷ []) (edge guard us places ∷ []) ∷ [];
}

input_is_shown : is_shown (with_input (compare (here (n_input 0)) le (num 10)) (set 0 (here (n_input 0)) no_net_updates) (0 ∷ [])) 0 0 0 ≡ true
input_is_shown = refl

input_is_not_shown : is_shown (with_input (compare (here (n_input 0)) le (num 11)) (set 0 (here (n_input 0)) no_net_updates) (0 ∷ [])) 0 0 0 ≡ false
input_is_not_shown = refl

boolean_is_shown : is_shown (with_input sure (set 1 (compare (var 0) lt (num 4)) no_net_updates) (0 ∷ [])) 0 0 0 ≡ true
boolean_is_shown = refl

-- an empty range of a variable or an input that the value does not read
empty_elsewhere : is_shown (with_input (compare (var 2) gt (num 9)) (set 0 (here (n_input 0)) no_net_updates) (0 ∷ [])) 0 0 0 ≡ true
empty_elsewhere = refl

empty_input : is_shown (with_input (compare (here (n_input 0)) lt (num 0)) (set 0 (plus (var 0) (num 1)) no_net_updates) (0 ∷ [])) 0 0 0 ≡ true
empty_input = refl

-- places go by the text, also in branches: the second value is not shown
by_place_in_text : map (is_shown (with_input sure (net_updates (net_choose (net_update_branches (compare (var 0) lt (num 4)) (set 0 (num 1) no_net_updates) no_net_update_branches) (set 0 (num 11) no_net_updates)) (set 2 (num 9) no_net_updates)) (0 ∷ 0 ∷ 0 ∷ [])) 0 0) (0 ∷ 1 ∷ 2 ∷ 3 ∷ []) ≡ true ∷ false ∷ true ∷ false ∷ []
by_place_in_text = refl

-- the sent values 5 and 4 are in 0 to 9, and what is received is not in 0 to 4
channel_shown : map (λ k. is_shown channel k 0 0) (0 ∷ 1 ∷ 2 ∷ []) ≡ true ∷ true ∷ false ∷ []
channel_shown = refl

-- ---- separable events

channel_is_not_separable : is_separable channel 0 ≡ false
channel_is_not_separable = refl

void_is_not_separable : is_separable (record (counter sure) { events = event unc void_net_chan ∷ [] }) 0 ≡ false
void_is_not_separable = refl

-- event 0 and event 1 assign n, which the invariant reads; one that assigns nothing is separable
separable_by_event : map (is_separable (record two_events { events = event unc no_net_chan ∷ event con no_net_chan ∷ event con no_net_chan ∷ [] })) (0 ∷ 1 ∷ 2 ∷ []) ≡ false ∷ false ∷ true ∷ []
separable_by_event = refl

assigned_in_a_branch : is_separable (record (with_input sure (net_updates (net_choose (net_update_branches sure no_net_updates no_net_update_branches) (set 2 (num 1) no_net_updates)) no_net_updates) (0 ∷ [])) { invariants = record { pred = compare (var 2) le (num 9); at = 0 } ∷ [] }) 0 ≡ false
assigned_in_a_branch = refl

-- a location of another automaton, and an edge that comes back to its own
another_location : is_separable (record (invariant_by_place sure) { invariants = record { pred = here (n_loc 1 0); at = 0 } ∷ [] }) 0 ≡ true
another_location = refl

comes_back : is_separable (record (counter sure) { invariants = record { pred = here (n_loc 0 0); at = 0 } ∷ [] }) 0 ≡ true
comes_back = refl
