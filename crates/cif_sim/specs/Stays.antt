-- What a choice leaves as it was.
use Rattle.std.specs.Prelude.{◌≡◌, ℕ, List, [], ◌∷◌, ◌++◌, map, slice_get}
use Rattle.std.specs.List.{Contains}
use Rattle.cif_system.specs.System.{State}
use Rattle.cif_net_expr.specs.Tree.{NetUpdate, net_set, net_choose, NetUpdates, no_net_updates, net_updates, NetUpdateBranches, no_net_update_branches, net_update_branches}
use Rattle.cif_net_model.specs.Listing.{NetChoice, NetMove}

-- the variables that updates may assign
abbrev mutual
  pub targets_all : NetUpdates → List ℕ
  targets_all no_net_updates = []
  targets_all (net_updates u us) = targets_by u ++ targets_all us

  pub targets_by : NetUpdate → List ℕ
  targets_by (net_set v e) = v ∷ []
  targets_by (net_choose bs us) = targets_in bs ++ targets_all us

  pub targets_in : NetUpdateBranches → List ℕ
  targets_in no_net_update_branches = []
  targets_in (net_update_branches c us bs) = targets_all us ++ targets_in bs

-- the automata that moves name
abbrev pub movers : List NetMove → List ℕ
movers ms = map (λ (m : NetMove). m.auto) ms

-- two lists have the same items but at these places
abbrev pub SameBut : {A : Type 0} → List ℕ → List A → List A → Type 0
SameBut ks xs ys = (k : ℕ) → (Contains ks k → ⊥) → slice_get xs k ≡ slice_get ys k

-- two states have the same places and values but where the choice moves and assigns
pub record StaysBut (c : NetChoice) (s t : State) : Type 0 where
  pub places : SameBut (movers c.moves) s.locs t.locs
  pub values : SameBut (targets_all c.writes) s.vals t.vals
