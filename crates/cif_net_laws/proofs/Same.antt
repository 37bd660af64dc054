-- What replaces algebraic variables that aren't named does not matter.
use Rattle.std.proofs.Common.{◌≡◌, ℕ, Bool, true, List, [], ◌∷◌, ◌++◌, map, Option, Some, None, option_map, refl, ◌∙◌, ap}
use Rattle.std.specs.Prelude.{option_to_list}
use Rattle.cif_system.specs.Words.{Member}
use Rattle.cif_net_expr.specs.Tree.{NetExpr, net_expr, NetForm, n_truth, n_number, n_loc, n_var, n_input, n_alg, n_received, n_minus, n_plus, n_not, n_abs, n_min, n_max, n_sum, n_product, n_compare, n_and, n_or, n_implies, n_iff, n_if, NetExprs, no_net_exprs, net_exprs, NetTerms, no_net_terms, net_terms, NetFactors, no_net_factors, net_factors, NetBranches, no_net_branches, net_branches, NetUpdate, net_set, net_choose, NetUpdates, no_net_updates, net_updates, NetUpdateBranches, no_net_update_branches, net_update_branches}
use Rattle.cif_net_model.specs.Net.{NetEdge, NetAuto, AlgValue, one_value, by_loc, NetAlg, NetExclusion, NetInvariant, Net}
use Rattle.cif_net_model.specs.Exprs.{placed, updates_exprs, update_exprs, branches_exprs, edge_exprs, alg_exprs}
use Rattle.cif_net_model.specs.Facts.{auto_stands, edge_stands, alg_stands, exclusion_stands, invariant_stands, is_net}
use Rattle.cif_net_model.specs.Inline.{replaced, form_replaced, terms_replaced, factors_replaced, list_replaced, branches_replaced, updates_replaced, update_replaced, update_branches_replaced, edge_replaced, auto_replaced, alg_replaced, net_replaced}
use Rattle.cif_net_model.specs.Reads.{alg_passes, names_in, form_names, term_names, factor_names, list_names, branch_names}
use Rattle.cif_net_model.proofs.Passing.{and-left, and-right, both-pass, all-member}
use Rattle.cif_net_model.proofs.ValueLaws.{ap-two}
use Rattle.cif_net_laws.proofs.Lists.{map-same}
use Rattle.cif_net_laws.proofs.Naming as naming
use Rattle.cif_net_laws.proofs.Naming.{Names, NamesIn, all_name, is_there}

module _ (f g : ℕ → NetExpr) (p : ℕ → Bool) (alike : (k : ℕ) → p k ≡ true → f k ≡ g k) where
  mutual
    pub same : (e : NetExpr) → NamesIn p e → replaced f e ≡ replaced g e
    same (net_expr x at) n = form-same at x n

    form-same : (at : ℕ) (x : NetForm) → Names p (form_names x) → form_replaced f at x ≡ form_replaced g at x
    form-same at (n_truth b) n = refl
    form-same at (n_number z) n = refl
    form-same at (n_loc a k) n = refl
    form-same at (n_var k) n = refl
    form-same at (n_input k) n = refl
    form-same at (n_alg k) n = ap (placed at) (alike k (and-left _ _ n))
    form-same at n_received n = refl
    form-same at (n_minus e) n = ap (λ x. net_expr (n_minus x) at) (same e n)
    form-same at (n_plus e) n = ap (λ x. net_expr (n_plus x) at) (same e n)
    form-same at (n_not e) n = ap (λ x. net_expr (n_not x) at) (same e n)
    form-same at (n_abs e) n = ap (λ x. net_expr (n_abs x) at) (same e n)
    form-same at (n_min a b) n = let ns = both-pass (alg_passes p) (names_in a) (names_in b) n in ap-two (λ x y. net_expr (n_min x y) at) (same a ns.0) (same b ns.1)
    form-same at (n_max a b) n = let ns = both-pass (alg_passes p) (names_in a) (names_in b) n in ap-two (λ x y. net_expr (n_max x y) at) (same a ns.0) (same b ns.1)
    form-same at (n_sum e es) n = let ns = both-pass (alg_passes p) (names_in e) (term_names es) n in ap-two (λ x y. net_expr (n_sum x y) at) (same e ns.0) (terms-same es ns.1)
    form-same at (n_product e es) n = let ns = both-pass (alg_passes p) (names_in e) (factor_names es) n in ap-two (λ x y. net_expr (n_product x y) at) (same e ns.0) (factors-same es ns.1)
    form-same at (n_compare a op b) n = let ns = both-pass (alg_passes p) (names_in a) (names_in b) n in ap-two (λ x y. net_expr (n_compare x op y) at) (same a ns.0) (same b ns.1)
    form-same at (n_and es) n = ap (λ x. net_expr (n_and x) at) (list-same es n)
    form-same at (n_or es) n = ap (λ x. net_expr (n_or x) at) (list-same es n)
    form-same at (n_implies a b) n = let ns = both-pass (alg_passes p) (names_in a) (names_in b) n in ap-two (λ x y. net_expr (n_implies x y) at) (same a ns.0) (same b ns.1)
    form-same at (n_iff a b) n = let ns = both-pass (alg_passes p) (names_in a) (names_in b) n in ap-two (λ x y. net_expr (n_iff x y) at) (same a ns.0) (same b ns.1)
    form-same at (n_if bs e) n = let ns = both-pass (alg_passes p) (branch_names bs) (names_in e) n in ap-two (λ x y. net_expr (n_if x y) at) (branches-same bs ns.0) (same e ns.1)

    terms-same : (es : NetTerms) → Names p (term_names es) → terms_replaced f es ≡ terms_replaced g es
    terms-same no_net_terms n = refl
    terms-same (net_terms m e es) n = let ns = both-pass (alg_passes p) (names_in e) (term_names es) n in ap-two (net_terms m) (same e ns.0) (terms-same es ns.1)

    factors-same : (es : NetFactors) → Names p (factor_names es) → factors_replaced f es ≡ factors_replaced g es
    factors-same no_net_factors n = refl
    factors-same (net_factors op e es) n = let ns = both-pass (alg_passes p) (names_in e) (factor_names es) n in ap-two (net_factors op) (same e ns.0) (factors-same es ns.1)

    list-same : (es : NetExprs) → Names p (list_names es) → list_replaced f es ≡ list_replaced g es
    list-same no_net_exprs n = refl
    list-same (net_exprs e es) n = let ns = both-pass (alg_passes p) (names_in e) (list_names es) n in ap-two net_exprs (same e ns.0) (list-same es ns.1)

    branches-same : (bs : NetBranches) → Names p (branch_names bs) → branches_replaced f bs ≡ branches_replaced g bs
    branches-same no_net_branches n = refl
    branches-same (net_branches c e bs) n =
        let ns = both-pass (alg_passes p) (names_in c) (names_in e ++ branch_names bs) n in
        let ms = both-pass (alg_passes p) (names_in e) (branch_names bs) ns.1 in
        ap (λ x. net_branches x (replaced f e) (branches_replaced f bs)) (same c ns.0) ∙ ap-two (net_branches (replaced g c)) (same e ms.0) (branches-same bs ms.1)

  -- ---- updates

  mutual
    updates-same : (us : NetUpdates) → all_name p (updates_exprs us) ≡ true → updates_replaced f us ≡ updates_replaced g us
    updates-same no_net_updates n = refl
    updates-same (net_updates u us) n = let ns = both-pass _ (update_exprs u) (updates_exprs us) n in ap-two net_updates (update-same u ns.0) (updates-same us ns.1)

    update-same : (u : NetUpdate) → all_name p (update_exprs u) ≡ true → update_replaced f u ≡ update_replaced g u
    update-same (net_set v e) n = ap (net_set v) (same e (and-left _ _ n))
    update-same (net_choose bs us) n = let ns = both-pass _ (branches_exprs bs) (updates_exprs us) n in ap-two net_choose (update-branches-same bs ns.0) (updates-same us ns.1)

    update-branches-same : (bs : NetUpdateBranches) → all_name p (branches_exprs bs) ≡ true → update_branches_replaced f bs ≡ update_branches_replaced g bs
    update-branches-same no_net_update_branches n = refl
    update-branches-same (net_update_branches c us bs) n =
        let ns = both-pass _ (updates_exprs us) (branches_exprs bs) (and-right _ _ n) in
        ap (λ x. net_update_branches x (updates_replaced f us) (update_branches_replaced f bs)) (same c (and-left _ _ n))
        ∙ ap-two (net_update_branches (replaced g c)) (updates-same us ns.0) (update-branches-same bs ns.1)

  -- ---- edges and definitions

  sent-same : (o : Option NetExpr) → all_name p (option_to_list o) ≡ true → option_map (replaced f) o ≡ option_map (replaced g) o
  sent-same None n = refl
  sent-same (Some e) n = ap Some (same e (and-left _ _ n))

  pub edge-same : (x : NetEdge) → all_name p (edge_exprs x) ≡ true → edge_replaced f x ≡ edge_replaced g x
  edge-same x n =
      let ns = both-pass _ (option_to_list x.sent) (updates_exprs x.updates) (and-right _ _ n) in
      ap (λ c. record x { guard = c; sent = option_map (replaced f) x.sent; updates = updates_replaced f x.updates }) (same x.guard (and-left _ _ n))
      ∙ ap-two (λ s u. record x { guard = replaced g x.guard; sent = s; updates = u }) (sent-same x.sent ns.0) (updates-same x.updates ns.1)

  each-same : (es : List NetExpr) → all_name p es ≡ true → map (replaced f) es ≡ map (replaced g) es
  each-same [] n = refl
  each-same (e ∷ es) n = ap-two (λ x xs. x ∷ xs) (same e (and-left _ _ n)) (each-same es (and-right _ _ n))

  value-same : (v : AlgValue) → all_name p (elim v [ one_value e ↦ e ∷ [] | by_loc a es ↦ es ]) ≡ true
      → elim v as (λ _. AlgValue) [ one_value e ↦ one_value (replaced f e) | by_loc k es ↦ by_loc k (map (replaced f) es) ]
      ≡ elim v as (λ _. AlgValue) [ one_value e ↦ one_value (replaced g e) | by_loc k es ↦ by_loc k (map (replaced g) es) ]
  value-same (one_value e) n = ap one_value (same e (and-left _ _ n))
  value-same (by_loc k es) n = ap (by_loc k) (each-same es n)

  pub alg-same : (a : NetAlg) → all_name p (alg_exprs a) ≡ true → alg_replaced f a ≡ alg_replaced g a
  alg-same a n = ap (λ v. record a { value = v }) (value-same a.value n)

-- in a net what is there matters alone
module _ (n : Net) (net : is_net n ≡ true) (f g : ℕ → NetExpr) (alike : (k : ℕ) → is_there n k ≡ true → f k ≡ g k) where
  auto-same : (a : NetAuto) → Member a n.autos → auto_replaced f a ≡ auto_replaced g a
  auto-same a m =
      let stands : auto_stands n a ≡ true = all-member (auto_stands n) n.autos a (naming.autos-stand n net) m in
      ap (λ xs. record a { edges = xs }) (map-same (edge_replaced f) (edge_replaced g) a.edges (λ x i.
      edge-same f g (is_there n) alike x (naming.edge-names n a x (all-member (edge_stands n a) a.edges x (and-right _ _ stands) i))))

  pub alg-alike : (a : NetAlg) → Member a n.algs → alg_replaced f a ≡ alg_replaced g a
  alg-alike a m = alg-same f g (is_there n) alike a (naming.alg-names n a (all-member (alg_stands n) n.algs a (naming.algs-stand n net) m))

  exclusion-same : (x : NetExclusion) → Member x n.exclusions → record x { pred = replaced f x.pred } ≡ record x { pred = replaced g x.pred }
  exclusion-same x m = ap (λ e. record x { pred = e }) (same f g (is_there n) alike x.pred (naming.exclusion-names n net x (all-member (exclusion_stands n) n.exclusions x (naming.exclusions-stand n net) m)))

  invariant-same : (i : NetInvariant) → Member i n.invariants → record i { pred = replaced f i.pred } ≡ record i { pred = replaced g i.pred }
  invariant-same i m = ap (λ e. record i { pred = e }) (same f g (is_there n) alike i.pred (naming.invariant-names n net i (all-member (invariant_stands n) n.invariants i (naming.invariants-stand n net) m)))

  pub net-same : net_replaced f n ≡ net_replaced g n
  net-same =
      ap (λ xs. record n { autos = xs; algs = map (alg_replaced f) n.algs; exclusions = map (λ (x : NetExclusion). record x { pred = replaced f x.pred }) n.exclusions; invariants = map (λ (i : NetInvariant). record i { pred = replaced f i.pred }) n.invariants }) (map-same (auto_replaced f) (auto_replaced g) n.autos auto-same)
      ∙ ap (λ xs. record n { autos = map (auto_replaced g) n.autos; algs = xs; exclusions = map (λ (x : NetExclusion). record x { pred = replaced f x.pred }) n.exclusions; invariants = map (λ (i : NetInvariant). record i { pred = replaced f i.pred }) n.invariants }) (map-same (alg_replaced f) (alg_replaced g) n.algs alg-alike)
      ∙ ap (λ xs. record n { autos = map (auto_replaced g) n.autos; algs = map (alg_replaced g) n.algs; exclusions = xs; invariants = map (λ (i : NetInvariant). record i { pred = replaced f i.pred }) n.invariants }) (map-same (λ (x : NetExclusion). record x { pred = replaced f x.pred }) (λ (x : NetExclusion). record x { pred = replaced g x.pred }) n.exclusions exclusion-same)
      ∙ ap (λ xs. record n { autos = map (auto_replaced g) n.autos; algs = map (alg_replaced g) n.algs; exclusions = map (λ (x : NetExclusion). record x { pred = replaced g x.pred }) n.exclusions; invariants = xs }) (map-same (λ (i : NetInvariant). record i { pred = replaced f i.pred }) (λ (i : NetInvariant). record i { pred = replaced g i.pred }) n.invariants invariant-same)
