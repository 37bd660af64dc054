-- The search for a right side of updates by its number.
use Rattle.std.specs.Prelude.{ℕ, zero, suc}
use Rattle.cif_net_expr.specs.Tree.{NetUpdate, net_set, net_choose, NetUpdates, no_net_updates, net_updates, NetUpdateBranches, no_net_update_branches, net_update_branches}
use Rattle.cif_why_lines.specs.declared.targets.Search.{Search}
use Rattle.cif_why_lines.specs.declared.targets.Search.TheVariants.{Found, Left}

-- where nothing is found, the search goes on
abbrev pub or_on : Search → (ℕ → Search) → Search
or_on (Found v) on = Found v
or_on (Left k) on = on k

abbrev pub searched_at : (variable : ℕ) → ℕ → Search
searched_at v zero = Found v
searched_at v (suc k) = Left k

abbrev mutual
  pub searched_all : NetUpdates → ℕ → Search
  searched_all no_net_updates k = Left k
  searched_all (net_updates u us) k = or_on (searched_by u k) (searched_all us)

  pub searched_by : NetUpdate → ℕ → Search
  searched_by (net_set v e) k = searched_at v k
  searched_by (net_choose bs us) k = or_on (searched_in bs k) (searched_all us)

  pub searched_in : NetUpdateBranches → ℕ → Search
  searched_in no_net_update_branches k = Left k
  searched_in (net_update_branches c us bs) k = or_on (searched_all us k) (searched_in bs)
