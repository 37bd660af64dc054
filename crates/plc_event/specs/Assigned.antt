-- Helper of the code: the variables that updates assign, put together from the parts of the updates.
use Rattle.std.specs.Prelude.{ℕ, List, [], ◌∷◌, ◌++◌}
use Rattle.cif_net_expr.specs.Tree.{NetUpdate, net_set, net_choose, NetUpdates, no_net_updates, net_updates, NetUpdateBranches, no_net_update_branches, net_update_branches}

abbrev mutual
  pub vars_of_all : NetUpdates → List ℕ
  vars_of_all no_net_updates = []
  vars_of_all (net_updates u us) = vars_of u ++ vars_of_all us

  pub vars_of : NetUpdate → List ℕ
  vars_of (net_set v e) = v ∷ []
  vars_of (net_choose bs us) = vars_in bs ++ vars_of_all us

  pub vars_in : NetUpdateBranches → List ℕ
  vars_in no_net_update_branches = []
  vars_in (net_update_branches c us bs) = vars_of_all us ++ vars_in bs
