-- What a net keeps in which algebraic variables are replaced by their definitions: what it shows, and how deep its updates nest.
use Rattle.std.proofs.Common.{◌≡◌, ℕ, suc, max, Bool, ◌&&◌, List, [], ◌∷◌, ◌++◌, map, refl, ◌∙◌, ap}
use Rattle.std.specs.Prelude.{flat_map, nat_le}
use Rattle.std.specs.List.{list_all}
use Rattle.cif_net_expr.specs.Tree.{NetExpr, NetUpdate, net_set, net_choose, NetUpdates, no_net_updates, net_updates, NetUpdateBranches, no_net_update_branches, net_update_branches}
use Rattle.cif_net_model.specs.Net.{NetEdge, NetAuto, Net}
use Rattle.cif_net_model.specs.Inline.{replaced, updates_replaced, update_replaced, update_branches_replaced, edge_replaced, auto_replaced, alg_replaced, net_replaced, Unfolds}
use Rattle.cif_net_model.specs.Nesting.{updates_depth, update_depth, branches_depth, most_nesting, is_shallow}
use Rattle.plc_frame.specs.Faces.{auto_face, alg_face_of, face_of_net}

module _ (by : ℕ → NetExpr) where
  -- ---- what it shows

  same-faces : {A B : Type 0} (f : A → A) (g : A → B) (xs : List A) → ((x : A) → g (f x) ≡ g x) → map g (map f xs) ≡ map g xs
  same-faces f g [] h = refl
  same-faces f g (x ∷ xs) h = λ i. h x i ∷ same-faces f g xs h i

  face-replaced : (n : Net) → face_of_net (net_replaced by n) ≡ face_of_net n
  face-replaced n = λ i. record (face_of_net n) {
    automata = same-faces (auto_replaced by) auto_face n.autos (λ a. refl) i;
    algs = same-faces (alg_replaced by) alg_face_of n.algs (λ a. refl) i;
  }

  -- ---- how deep its updates nest

  mutual
    updates-same : (us : NetUpdates) → updates_depth (updates_replaced by us) ≡ updates_depth us
    updates-same no_net_updates = refl
    updates-same (net_updates u us) = λ i. max (update-same u i) (updates-same us i)

    update-same : (u : NetUpdate) → update_depth (update_replaced by u) ≡ update_depth u
    update-same (net_set v e) = refl
    update-same (net_choose bs us) = λ i. suc (max (branches-same bs i) (updates-same us i))

    branches-same : (bs : NetUpdateBranches) → branches_depth (update_branches_replaced by bs) ≡ branches_depth bs
    branches-same no_net_update_branches = refl
    branches-same (net_update_branches c us bs) = λ i. max (updates-same us i) (branches-same bs i)

  abbrev is_low : NetEdge → Bool
  is_low x = nat_le (updates_depth x.updates) most_nesting

  edges-same : (xs ys zs : List NetEdge) → list_all is_low ys ≡ list_all is_low zs → list_all is_low (map (edge_replaced by) xs ++ ys) ≡ list_all is_low (xs ++ zs)
  edges-same [] ys zs h = h
  edges-same (x ∷ xs) ys zs h = λ i. nat_le (updates-same x.updates i) most_nesting && edges-same xs ys zs h i

  autos-same : (as' : List NetAuto) → list_all is_low (flat_map (λ (a : NetAuto). a.edges) (map (auto_replaced by) as')) ≡ list_all is_low (flat_map (λ (a : NetAuto). a.edges) as')
  autos-same [] = refl
  autos-same (a ∷ as') = edges-same a.edges (flat_map (λ (b : NetAuto). b.edges) (map (auto_replaced by) as')) (flat_map (λ (b : NetAuto). b.edges) as') (autos-same as')

  shallow-replaced : (n : Net) → is_shallow (net_replaced by n) ≡ is_shallow n
  shallow-replaced n = autos-same n.autos

module _ (n p : Net) (u : Unfolds n p) where
  pub face-unfolded : face_of_net p ≡ face_of_net n
  face-unfolded = ap face_of_net u.whole ∙ face-replaced u.by n

  pub shallow-unfolded : is_shallow p ≡ is_shallow n
  shallow-unfolded = ap is_shallow u.whole ∙ shallow-replaced u.by n
