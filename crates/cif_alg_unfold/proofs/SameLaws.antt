-- An expression in which algebraic variables are replaced hangs on what replaces those that it names alone.
use Rattle.std.proofs.Common.{◌≡◌, ℕ, inl, List, [], ◌∷◌, ◌++◌, map, flat_map, refl, ap}
use Rattle.cif_system.specs.Words.{Member}
use Rattle.cif_system.proofs.Picks.{append-left, append-right}
use Rattle.cif_net_expr.specs.Tree.{NetExpr, net_expr, NetForm, n_truth, n_number, n_loc, n_var, n_input, n_alg, n_received, n_minus, n_plus, n_not, n_abs, n_min, n_max, n_sum, n_product, n_compare, n_and, n_or, n_implies, n_iff, n_if, NetExprs, no_net_exprs, net_exprs, NetTerms, no_net_terms, net_terms, NetFactors, no_net_factors, net_factors, NetBranches, no_net_branches, net_branches}
use Rattle.cif_net_model.specs.Net.{one_value, by_loc, NetAlg}
use Rattle.cif_net_model.specs.Exprs.{placed, alg_exprs}
use Rattle.cif_net_model.specs.Reads.{Read, an_alg, names_in, form_names, term_names, factor_names, list_names, branch_names}
use Rattle.cif_net_model.specs.Inline.{replaced, form_replaced, terms_replaced, factors_replaced, list_replaced, branches_replaced, alg_replaced}

module _ (f g : ℕ → NetExpr) where
  -- the same replaces what these names are
  abbrev Same : List Read → Type 0
  Same xs = (k : ℕ) → Member (an_alg k) xs → f k ≡ g k

  left : (xs ys : List Read) → Same (xs ++ ys) → Same xs
  left xs ys h k m = h k (append-left (an_alg k) xs ys m)

  right : (xs ys : List Read) → Same (xs ++ ys) → Same ys
  right xs ys h k m = h k (append-right (an_alg k) xs ys m)

  two : {A B C : Type 0} (h : A → B → C) {x y : A} {z w : B} → x ≡ y → z ≡ w → h x z ≡ h y w
  two h p q = λ i. h (p i) (q i)

  mutual
    pub replaced-same : (e : NetExpr) → Same (names_in e) → replaced f e ≡ replaced g e
    replaced-same (net_expr form at) h = form-same at form h

    form-same : (at : ℕ) (form : NetForm) → Same (form_names form) → form_replaced f at form ≡ form_replaced g at form
    form-same at (n_truth b) h = refl
    form-same at (n_number z) h = refl
    form-same at (n_loc a k) h = refl
    form-same at (n_var k) h = refl
    form-same at (n_input k) h = refl
    form-same at (n_alg k) h = ap (placed at) (h k (inl refl))
    form-same at n_received h = refl
    form-same at (n_minus e) h = ap (λ x. net_expr (n_minus x) at) (replaced-same e h)
    form-same at (n_plus e) h = ap (λ x. net_expr (n_plus x) at) (replaced-same e h)
    form-same at (n_not e) h = ap (λ x. net_expr (n_not x) at) (replaced-same e h)
    form-same at (n_abs e) h = ap (λ x. net_expr (n_abs x) at) (replaced-same e h)
    form-same at (n_min a b) h = two (λ x y. net_expr (n_min x y) at) (replaced-same a (left (names_in a) (names_in b) h)) (replaced-same b (right (names_in a) (names_in b) h))
    form-same at (n_max a b) h = two (λ x y. net_expr (n_max x y) at) (replaced-same a (left (names_in a) (names_in b) h)) (replaced-same b (right (names_in a) (names_in b) h))
    form-same at (n_sum e es) h = two (λ x y. net_expr (n_sum x y) at) (replaced-same e (left (names_in e) (term_names es) h)) (terms-same es (right (names_in e) (term_names es) h))
    form-same at (n_product e es) h = two (λ x y. net_expr (n_product x y) at) (replaced-same e (left (names_in e) (factor_names es) h)) (factors-same es (right (names_in e) (factor_names es) h))
    form-same at (n_compare a op b) h = two (λ x y. net_expr (n_compare x op y) at) (replaced-same a (left (names_in a) (names_in b) h)) (replaced-same b (right (names_in a) (names_in b) h))
    form-same at (n_and es) h = ap (λ x. net_expr (n_and x) at) (list-same es h)
    form-same at (n_or es) h = ap (λ x. net_expr (n_or x) at) (list-same es h)
    form-same at (n_implies a b) h = two (λ x y. net_expr (n_implies x y) at) (replaced-same a (left (names_in a) (names_in b) h)) (replaced-same b (right (names_in a) (names_in b) h))
    form-same at (n_iff a b) h = two (λ x y. net_expr (n_iff x y) at) (replaced-same a (left (names_in a) (names_in b) h)) (replaced-same b (right (names_in a) (names_in b) h))
    form-same at (n_if bs e) h = two (λ x y. net_expr (n_if x y) at) (branches-same bs (left (branch_names bs) (names_in e) h)) (replaced-same e (right (branch_names bs) (names_in e) h))

    terms-same : (es : NetTerms) → Same (term_names es) → terms_replaced f es ≡ terms_replaced g es
    terms-same no_net_terms h = refl
    terms-same (net_terms m e es) h = two (net_terms m) (replaced-same e (left (names_in e) (term_names es) h)) (terms-same es (right (names_in e) (term_names es) h))

    factors-same : (es : NetFactors) → Same (factor_names es) → factors_replaced f es ≡ factors_replaced g es
    factors-same no_net_factors h = refl
    factors-same (net_factors op e es) h = two (net_factors op) (replaced-same e (left (names_in e) (factor_names es) h)) (factors-same es (right (names_in e) (factor_names es) h))

    list-same : (es : NetExprs) → Same (list_names es) → list_replaced f es ≡ list_replaced g es
    list-same no_net_exprs h = refl
    list-same (net_exprs e es) h = two net_exprs (replaced-same e (left (names_in e) (list_names es) h)) (list-same es (right (names_in e) (list_names es) h))

    branches-same : (bs : NetBranches) → Same (branch_names bs) → branches_replaced f bs ≡ branches_replaced g bs
    branches-same no_net_branches h = refl
    branches-same (net_branches c e bs) h =
        let more : Same (names_in e ++ branch_names bs) = right (names_in c) (names_in e ++ branch_names bs) h in
        λ i. net_branches (replaced-same c (left (names_in c) (names_in e ++ branch_names bs) h) i) (replaced-same e (left (names_in e) (branch_names bs) more) i) (branches-same bs (right (names_in e) (branch_names bs) more) i)

  all-same : (es : List NetExpr) → Same (flat_map names_in es) → map (replaced f) es ≡ map (replaced g) es
  all-same [] h = refl
  all-same (e ∷ es) h = two (λ x xs. x ∷ xs) (replaced-same e (left (names_in e) (flat_map names_in es) h)) (all-same es (right (names_in e) (flat_map names_in es) h))

  -- a definition
  pub alg-same : (a : NetAlg) → Same (flat_map names_in (alg_exprs a)) → alg_replaced f a ≡ alg_replaced g a
  alg-same a h =
      (elim a.value as (λ v. Same (flat_map names_in (elim v [ one_value e ↦ e ∷ [] | by_loc k es ↦ es ]))
      → (record a { value = elim v [ one_value e ↦ one_value (replaced f e) | by_loc k es ↦ by_loc k (map (replaced f) es) ] })
      ≡ (record a { value = elim v [ one_value e ↦ one_value (replaced g e) | by_loc k es ↦ by_loc k (map (replaced g) es) ] })) [
        | one_value e ↦ λ t. ap (λ x. record a { value = one_value x }) (replaced-same e (left (names_in e) [] t))
        | by_loc k es ↦ λ t. ap (λ xs. record a { value = by_loc k xs }) (all-same es t)
      ]) h
