-- A search by number finds the variable of the right side with this number.
use Rattle.std.proofs.Common.{◌≡◌, ℕ, zero, suc, List, [], ◌∷◌, ◌++◌, map, Option, None, Some, refl, ap, ◌∙◌}
use Rattle.std.specs.Prelude.{slice_get}
use Rattle.cif_net_expr.specs.Tree.{NetExpr, NetUpdate, net_set, net_choose, NetUpdates, no_net_updates, net_updates, NetUpdateBranches, no_net_update_branches, net_update_branches}
use Rattle.cif_net_model.specs.Exprs.{Written, writes_all, writes_by, writes_in}
use Rattle.cif_why_lines.specs.Searches.{or_on, searched_all, searched_at, searched_by, searched_in}
use Rattle.cif_why_lines.specs.Targets.{assigned_targets}
use Rattle.cif_why_lines.specs.declared.targets.Search.{Search}
use Rattle.cif_why_lines.specs.declared.targets.Search.TheVariants.{Found, Left}
use Rattle.cif_why_lines.specs.declared.targets.Target.{Target}
use Rattle.cif_why_lines.specs.declared.targets.Target.TheVariants.{Variable}

-- the search in a list of right sides
abbrev searched : List Written → ℕ → Search
searched [] k = Left k
searched (w ∷ ws) zero = Found w.var
searched (w ∷ ws) (suc k) = searched ws k

-- first in some, and then in others
module _ (xs ys : List Written) (on : ℕ → Search) (others : (j : ℕ) → on j ≡ searched ys j) where
  past : (ws : List Written) (k : ℕ) → or_on (searched ws k) on ≡ searched (ws ++ ys) k
  past [] k = others k
  past (w ∷ ws) zero = refl
  past (w ∷ ws) (suc k) = past ws k

  in_both : (k : ℕ) (s : Search) → s ≡ searched xs k → or_on s on ≡ searched (xs ++ ys) k
  in_both k s is = ap (λ t. or_on t on) is ∙ past xs k

set-searched : (v : ℕ) (e : NetExpr) (k : ℕ) → searched_at v k ≡ searched (writes_by (net_set v e)) k
set-searched v e zero = refl
set-searched v e (suc k) = refl

mutual
  all-searched : (us : NetUpdates) (k : ℕ) → searched_all us k ≡ searched (writes_all us) k
  all-searched no_net_updates k = refl
  all-searched (net_updates u us) k = in_both (writes_by u) (writes_all us) (searched_all us) (all-searched us) k (searched_by u k) (one-searched u k)

  one-searched : (u : NetUpdate) (k : ℕ) → searched_by u k ≡ searched (writes_by u) k
  one-searched (net_set v e) k = set-searched v e k
  one-searched (net_choose bs us) k = in_both (writes_in bs) (writes_all us) (searched_all us) (all-searched us) k (searched_in bs k) (branches-searched bs k)

  branches-searched : (bs : NetUpdateBranches) (k : ℕ) → searched_in bs k ≡ searched (writes_in bs) k
  branches-searched no_net_update_branches k = refl
  branches-searched (net_update_branches c us bs) k = in_both (writes_all us) (writes_in bs) (searched_in bs) (branches-searched bs) k (searched_all us k) (all-searched us k)

-- what is found
abbrev pub found : Search → Option Target
found (Found v) = Some (Variable v)
found (Left k) = None

found-searched : (ws : List Written) (k : ℕ) → found (searched ws k) ≡ slice_get (map (λ v. Variable v) (map (λ (w : Written). w.var) ws)) k
found-searched [] zero = refl
found-searched [] (suc k) = refl
found-searched (w ∷ ws) zero = refl
found-searched (w ∷ ws) (suc k) = found-searched ws k

pub search_finds : (us : NetUpdates) (k : ℕ) (s : Search) → s ≡ searched_all us k → found s ≡ slice_get (assigned_targets us) k
search_finds us k s is = ap found (is ∙ all-searched us k) ∙ found-searched (writes_all us) k
