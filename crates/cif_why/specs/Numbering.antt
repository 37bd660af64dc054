-- What updates assign, numbered among their right sides.
use Rattle.std.specs.Prelude.{ℕ, ◌+◌, List, [], ◌∷◌, ◌++◌, if◌then◌else◌}
use Rattle.cif_net_expr.specs.Tree.{NetUpdate, net_set, net_choose, NetUpdates, no_net_updates, net_updates, NetUpdateBranches, no_net_update_branches, net_update_branches}
use Rattle.cif_net_model.specs.Value.{is_true}
use Rattle.cif_net_model.specs.Safe.{Setting, value_at}
use Rattle.cif_eval.specs.Updates.{is_taken, most_pairs, most_by, most_in}
use Rattle.cif_why_model.specs.Told.{Assigned}
use Rattle.cif_why.specs.declared.numbering.Numbered.{Numbered}

abbrev pub numbered_tree : Numbered → Assigned
numbered_tree w = record { number = w.number; variable = w.variable; value = w.value }

-- where the first right side has the number k
abbrev mutual
  pub numbered_all : Setting → (k : ℕ) → NetUpdates → List Assigned
  numbered_all x k no_net_updates = []
  numbered_all x k (net_updates u us) = numbered_by x k u ++ numbered_all x (k + most_by u) us

  pub numbered_by : Setting → (k : ℕ) → NetUpdate → List Assigned
  numbered_by x k (net_set v e) = record { number = k; variable = v; value = value_at x e } ∷ []
  numbered_by x k (net_choose bs us) = if is_taken x bs then numbered_in x k bs else numbered_all x (k + most_in bs) us

  -- what the first branch assigns whose condition holds
  pub numbered_in : Setting → (k : ℕ) → NetUpdateBranches → List Assigned
  numbered_in x k no_net_update_branches = []
  numbered_in x k (net_update_branches c us bs) = if is_true (value_at x c) then numbered_all x k us else numbered_in x (k + most_pairs us) bs
