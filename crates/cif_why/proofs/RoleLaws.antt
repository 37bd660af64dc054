-- Who takes part in an event of a net.
use Rattle.std.proofs.Common.{◌≡◌, ℕ, suc, ◌+◌, not, List, [], ◌∷◌, map, Some, refl, sym, ap, ◌∙◌}
use Rattle.std.specs.Prelude.{slice_get, ◌||◌, ◌&&◌, nat_eq, slice_index_or, if◌then◌else◌}
use Rattle.std.specs.List.{list_any, enumerate_from}
use Rattle.cif_system.specs.System.{Exclusion, Role, State, receiving, sending, syncing}
use Rattle.cif_system.specs.Step.{has_edge, is_enabled, is_for, is_party, numbered}
use Rattle.cif_net_model.specs.Net.{Net, NetAuto, NetEdge, NetExclusion}
use Rattle.cif_net_model.specs.Listing.{is_edge_for, monitors_event, syncs_on, uses_event}
use Rattle.cif_net_model.specs.Meaning.{automaton_in, edge_meant, exclusion_in, system_of_net, true_in}
use Rattle.cif_net_model.proofs.ValueLaws.{ap-two}
use Rattle.cif_net_model.specs.Safe.{Setting}
use Rattle.cif_why_model.specs.Reasons.{blocks, can, each_of, excluded, forbids, has_role, is_blocking}
use Rattle.cif_why.specs.Lists.{each_from}
use Rattle.cif_why.specs.Parties.{can_take, is_blocked, is_forbidden, is_open, some_can, takes_part, true_at}
use Rattle.cif_why.proofs.ListLaws.{any-map, any-same, each-same}

module _ (n : Net) (e : ℕ) where
  edge-used : (p : Role) (a : NetAuto) → uses_event p e a ≡ has_edge p e (automaton_in n a)
  edge-used p a = sym (any-map (edge_meant n) (is_for p e) a.edges)

  party-same : (a : NetAuto) → takes_part e a ≡ is_party e (automaton_in n a)
  party-same a = ap (λ b. syncs_on e a || b || uses_event receiving e a) (edge-used sending a) ∙ ap (λ b. syncs_on e a || has_edge sending e (automaton_in n a) || b) (edge-used receiving a)

  -- some automaton has the event in a role
  pub role-same : list_any (takes_part e) n.autos ≡ has_role (system_of_net n) e
  role-same = any-same (takes_part e) (λ a. is_party e (automaton_in n a)) n.autos (λ k a g. party-same a) ∙ sym (any-map (automaton_in n) (is_party e) n.autos)

-- the guards of the edges have the values that the net gives them
abbrev pub GuardsMean : Net → State → Setting → NetAuto → Type 0
GuardsMean n s x a = (j : ℕ) (y : NetEdge) → slice_get a.edges j ≡ Some y → true_at x y.guard ≡ true_in n s y.guard

abbrev pub AutosMean : Net → State → Setting → Type 0
AutosMean n s x = (k : ℕ) (a : NetAuto) → slice_get n.autos k ≡ Some a → GuardsMean n s x a

module _ (n : Net) (s : State) (x : Setting) (e : ℕ) (same : x.state ≡ s) where
  pub can-same : (p : Role) (k : ℕ) (a : NetAuto) → GuardsMean n s x a → can_take x p e k a ≡ can p e s (k, automaton_in n a)
  can-same p k a means =
      any-same (is_open x p e (slice_index_or x.state.locs k 0)) (λ y. is_enabled p e s (k, automaton_in n a) (edge_meant n y)) a.edges
      (λ j y g. ap (λ (t : State). is_edge_for p e y && nat_eq y.from (slice_index_or t.locs k 0) && true_at x y.guard) same ∙ ap (λ b. is_edge_for p e y && nat_eq y.from (slice_index_or s.locs k 0) && b) (means j y g))
      ∙ sym (any-map (edge_meant n) (is_enabled p e s (k, automaton_in n a)) a.edges)

  some-from : (p : Role) (i : ℕ) (autos : List NetAuto) → ((k : ℕ) (a : NetAuto) → slice_get autos k ≡ Some a → GuardsMean n s x a) → some_can x p e i autos ≡ list_any (can p e s) (enumerate_from i (map (automaton_in n) autos))
  some-from p i [] means = refl
  some-from p i (a ∷ autos) means = ap-two (λ b c. b || c) (can-same p i a (means 0 a refl)) (some-from p (i + 1) autos (λ k b g. means (suc k) b g))

  -- some automaton can take an edge for the event in the role
  pub some-same : (p : Role) → AutosMean n s x → some_can x p e 0 n.autos ≡ list_any (can p e s) (numbered (system_of_net n))
  some-same p means = some-from p 0 n.autos means

  pub blocks-same : AutosMean n s x → each_from blocks (is_blocked x e) 0 n.autos ≡ each_of blocks (is_blocking e s) (map (automaton_in n) n.autos)
  blocks-same means =
      each-same blocks (is_blocked x e) (is_blocking e s) (automaton_in n) 0 n.autos
      (λ k a g. ap (λ b. syncs_on e a && not (monitors_event e a) && not b) (can-same syncing (0 + k) a (means k a g)))

  pub excluded-same : ((k : ℕ) (y : NetExclusion) → slice_get n.exclusions k ≡ Some y → true_at x y.pred ≡ true_in n s y.pred)
      → each_from excluded (λ k. is_forbidden x e) 0 n.exclusions ≡ each_of excluded (λ (z : ℕ × Exclusion). forbids e s z.1) (map (exclusion_in n) n.exclusions)
  excluded-same means =
      each-same excluded (λ k. is_forbidden x e) (λ (z : ℕ × Exclusion). forbids e s z.1) (exclusion_in n) 0 n.exclusions
      (λ k y g. ap (λ b. nat_eq y.event e && not (if y.allows then b else not b)) (means k y g))
