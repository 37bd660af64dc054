-- The variables that updates assign are their targets.
use Rattle.std.proofs.Common.{◌≡◌, ℕ, ◌++◌, map, refl, sym, ap₂, ◌∙◌}
use Rattle.std.proofs.lemmas.List.{map-append}
use Rattle.cif_net_expr.specs.Tree.{NetUpdate, net_set, net_choose, NetUpdates, no_net_updates, net_updates, NetUpdateBranches, no_net_update_branches, net_update_branches}
use Rattle.cif_net_model.specs.Exprs.{Written, targets, writes_all, writes_by, writes_in}
use Rattle.plc_event.specs.Assigned.{vars_in, vars_of, vars_of_all}

abbrev var_in : Written → ℕ
var_in w = w.var

mutual
  pub assigned_are : (us : NetUpdates) → vars_of_all us ≡ targets us
  assigned_are no_net_updates = refl
  assigned_are (net_updates u us) = ap₂ (λ xs ys. xs ++ ys) (by-are u) (assigned_are us) ∙ sym (map-append var_in (writes_by u) (writes_all us))

  by-are : (u : NetUpdate) → vars_of u ≡ map var_in (writes_by u)
  by-are (net_set v e) = refl
  by-are (net_choose bs us) = ap₂ (λ xs ys. xs ++ ys) (in-are bs) (assigned_are us) ∙ sym (map-append var_in (writes_in bs) (writes_all us))

  in-are : (bs : NetUpdateBranches) → vars_in bs ≡ map var_in (writes_in bs)
  in-are no_net_update_branches = refl
  in-are (net_update_branches c us bs) = ap₂ (λ xs ys. xs ++ ys) (assigned_are us) (in-are bs) ∙ sym (map-append var_in (writes_all us) (writes_in bs))
