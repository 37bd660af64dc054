-- What evaluating updates and state invariants asks.
use Rattle.std.specs.Prelude.{ℕ, ◌+◌, Bool, true, false, ◌&&◌, ◌||◌, List, [], ◌∷◌, Option, None, Some, slice_get}
use Rattle.cif_net_expr.specs.Tree.{NetUpdate, net_set, net_choose, NetUpdates, no_net_updates, net_updates, NetUpdateBranches, no_net_update_branches, net_update_branches}
use Rattle.cif_net_model.specs.Net.{NetInvariant}
use Rattle.cif_net_model.specs.Value.{is_true}
use Rattle.cif_net_model.specs.Safe.{IsSafe, Setting, value_at}

-- each condition and each right side is safe
abbrev mutual
  pub AreSafeUpdates : Setting → NetUpdates → Type 0
  AreSafeUpdates x no_net_updates = Unit {0}
  AreSafeUpdates x (net_updates u us) = IsSafeUpdate x u × AreSafeUpdates x us

  pub IsSafeUpdate : Setting → NetUpdate → Type 0
  IsSafeUpdate x (net_set v e) = IsSafe x e
  IsSafeUpdate x (net_choose bs us) = AreSafeChoices x bs × AreSafeUpdates x us

  pub AreSafeChoices : Setting → NetUpdateBranches → Type 0
  AreSafeChoices x no_net_update_branches = Unit {0}
  AreSafeChoices x (net_update_branches c us bs) = IsSafe x c × AreSafeUpdates x us × AreSafeChoices x bs

-- the condition of one holds
abbrev pub is_taken : Setting → NetUpdateBranches → Bool
is_taken x no_net_update_branches = false
is_taken x (net_update_branches c us bs) = is_true (value_at x c) || is_taken x bs

-- how many right sides there are, which is at least as many as are assigned
abbrev mutual
  pub most_pairs : NetUpdates → ℕ
  most_pairs no_net_updates = 0
  most_pairs (net_updates u us) = most_by u + most_pairs us

  pub most_by : NetUpdate → ℕ
  most_by (net_set v e) = 1
  most_by (net_choose bs us) = most_in bs + most_pairs us

  pub most_in : NetUpdateBranches → ℕ
  most_in no_net_update_branches = 0
  most_in (net_update_branches c us bs) = most_pairs us + most_in bs

-- ---- state invariants

abbrev pub IsSafeInvariant : Setting → Option NetInvariant → Type 0
IsSafeInvariant x None = Unit {0}
IsSafeInvariant x (Some i) = IsSafe x i.pred

abbrev pub AreSafeInvariants : Setting → List NetInvariant → List ℕ → Type 0
AreSafeInvariants x all [] = Unit {0}
AreSafeInvariants x all (k ∷ ks) = IsSafeInvariant x (slice_get all k) × AreSafeInvariants x all ks

abbrev pub invariant_holds : Setting → Option NetInvariant → Bool
invariant_holds x None = true
invariant_holds x (Some i) = is_true (value_at x i.pred)

-- those with these numbers hold
abbrev pub invariants_hold : Setting → List NetInvariant → List ℕ → Bool
invariants_hold x all [] = true
invariants_hold x all (k ∷ ks) = invariant_holds x (slice_get all k) && invariants_hold x all ks
