-- Updates and their branches, as lists.
use Rattle.std.proofs.Common.{◌≡◌, ℕ, ◌+◌, ◌<◌, ◌≤◌, List, [], ◌∷◌, ◌++◌, length, drop, get_or, map, refl, ap, ◌∙◌}
use Rattle.cif_net_expr.specs.Tree.{NetExpr, NetUpdate, NetUpdates, no_net_updates, net_updates, NetUpdateBranches, no_net_update_branches, net_update_branches}
use Rattle.cif_net_expr.specs.View.{view, view_updates, view_update_branch, view_update_branches, updates_of, update_branches_of}
use Rattle.cif_net_expr.specs.declared.updates.NetUpdate as declared
use Rattle.cif_net_expr.specs.declared.updates.NetUpdate.TheFolds as folds
use Rattle.cif_net_expr.specs.declared.updates.NetUpdateBranch.{NetUpdateBranch, out-NetUpdateBranch}
use Rattle.cif_net_model.specs.Inline.{replaced, update_replaced, updates_replaced, update_branches_replaced}
use Rattle.cif_alg_unfold.proofs.ListLaws.{ended, stepped}

abbrev pub made_updates : (ℕ → NetExpr) → NetUpdates → List NetUpdate
made_updates f no_net_updates = []
made_updates f (net_updates u us) = update_replaced f u ∷ made_updates f us

abbrev pub made_branches : (ℕ → NetExpr) → NetUpdateBranches → List (NetExpr × NetUpdates)
made_branches f no_net_update_branches = []
made_branches f (net_update_branches c us bs) = (replaced f c, updates_replaced f us) ∷ made_branches f bs

updates_made : (f : ℕ → NetExpr) (us : NetUpdates) → updates_of (made_updates f us) ≡ updates_replaced f us
updates_made f no_net_updates = refl
updates_made f (net_updates u us) = ap (net_updates (update_replaced f u)) (updates_made f us)

branches_made : (f : ℕ → NetExpr) (bs : NetUpdateBranches) → update_branches_of (made_branches f bs) ≡ update_branches_replaced f bs
branches_made f no_net_update_branches = refl
branches_made f (net_update_branches c us bs) = ap (net_update_branches (replaced f c) (updates_replaced f us)) (branches_made f bs)

pub updates_ended : (f : ℕ → NetExpr) (made : List NetUpdate) (all : List declared.NetUpdate) (i : ℕ) → length all ≤ i
    → made ++ made_updates f (view_updates (drop i all)) ≡ made_updates f (view_updates all) → updates_of made ≡ updates_replaced f (view_updates all)
updates_ended f made all i h e = ap updates_of (ended made (λ xs. made_updates f (view_updates xs)) all i h refl e) ∙ updates_made f (view_updates all)

pub branches_ended : (f : ℕ → NetExpr) (made : List (NetExpr × NetUpdates)) (all : List NetUpdateBranch) (i : ℕ) → length all ≤ i
    → made ++ made_branches f (view_update_branches (drop i all)) ≡ made_branches f (view_update_branches all) → update_branches_of made ≡ update_branches_replaced f (view_update_branches all)
branches_ended f made all i h e = ap update_branches_of (ended made (λ xs. made_branches f (view_update_branches xs)) all i h refl e) ∙ branches_made f (view_update_branches all)

branch-of : (x : NetUpdateBranch) → view_update_branch x ≡ (view (out-NetUpdateBranch x).cond, view_updates (out-NetUpdateBranch x).updates)
branch-of x = search (folds.the_lemmas)

pub branches_stepped : (f : ℕ → NetExpr) (made made_now : List NetUpdateBranch) (all : List NetUpdateBranch) (i : ℕ) (item one : NetUpdateBranch) → i < length all → item ≡ get_or all i item
    → view_update_branch one ≡ (replaced f (view (out-NetUpdateBranch item).cond), updates_replaced f (view_updates (out-NetUpdateBranch item).updates)) → made_now ≡ made ++ one ∷ []
    → map view_update_branch made ++ made_branches f (view_update_branches (drop i all)) ≡ made_branches f (view_update_branches all)
    → map view_update_branch made_now ++ made_branches f (view_update_branches (drop (i + 1) all)) ≡ made_branches f (view_update_branches all)
branches_stepped f made made_now all i item one less at is now e =
    stepped view_update_branch (λ xs. made_branches f (view_update_branches xs)) (λ x. (replaced f (view (out-NetUpdateBranch x).cond), updates_replaced f (view_updates (out-NetUpdateBranch x).updates))) made made_now all i item one (made_branches f (view_update_branches all))
    (λ x xs. ap (λ y. (replaced f y.0, updates_replaced f y.1) ∷ made_branches f (view_update_branches xs)) (branch-of x)) less at is now e
