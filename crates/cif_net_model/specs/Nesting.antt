-- How deep the conditional updates of a net nest, since the statements that are written for them nest as deep.
use Rattle.std.specs.Prelude.{ℕ, suc, max, Bool, nat_le}
use Rattle.std.specs.List.{list_all}
use Rattle.cif_net_expr.specs.Tree.{NetUpdate, net_set, net_choose, NetUpdates, no_net_updates, net_updates, NetUpdateBranches, no_net_update_branches, net_update_branches}
use Rattle.cif_net_model.specs.Net.{NetEdge, Net}
use Rattle.cif_net_model.specs.Exprs.{all_edges}

abbrev mutual
  -- how many conditional updates are open at most at one place
  pub updates_depth : NetUpdates → ℕ
  updates_depth no_net_updates = 0
  updates_depth (net_updates u us) = max (update_depth u) (updates_depth us)

  pub update_depth : NetUpdate → ℕ
  update_depth (net_set v e) = 0
  update_depth (net_choose bs us) = suc (max (branches_depth bs) (updates_depth us))

  pub branches_depth : NetUpdateBranches → ℕ
  branches_depth no_net_update_branches = 0
  branches_depth (net_update_branches c us bs) = max (updates_depth us) (branches_depth bs)

-- The statements of updates stand in the loop of a class and in at most three conditions of the event, and an `if` in a value is
-- one IF more inside them: with these five they have the 400 levels that Structured Text may have.
abbrev pub most_nesting : ℕ
most_nesting = 395

-- no edge has updates that nest deeper
abbrev pub is_shallow : Net → Bool
is_shallow n = list_all (λ (x : NetEdge). nat_le (updates_depth x.updates) most_nesting) (all_edges n)
