-- The parts of an expression in which algebraic variables are replaced are its parts, replaced, and those of what replaces
-- them: so a test that all of these pass is passed by each.
use Rattle.std.proofs.Common.{◌≡◌, ℕ, Bool, true, false, List, [], ◌∷◌, ◌++◌, refl, ◌∙◌, ap, subst}
use Rattle.std.specs.List.{list_all}
use Rattle.cif_net_expr.specs.Tree.{MulOp, NetExpr, net_expr, NetForm, n_truth, n_number, n_loc, n_var, n_input, n_alg, n_received, n_minus, n_plus, n_not, n_abs, n_min, n_max, n_sum, n_product, n_compare, n_and, n_or, n_implies, n_iff, n_if, NetExprs, no_net_exprs, net_exprs, NetTerms, no_net_terms, net_terms, NetFactors, no_net_factors, net_factors, NetBranches, no_net_branches, net_branches}
use Rattle.cif_net_model.specs.Exprs.{placed}
use Rattle.cif_net_model.specs.Inline.{replaced, form_replaced, terms_replaced, factors_replaced, list_replaced, branches_replaced}
use Rattle.cif_net_model.specs.Parts.{add_term, add_factor, parts, form_parts, sum_parts, product_parts, list_parts, branch_parts}
use Rattle.cif_net_model.specs.Reads.{Read, names_in, form_names, term_names, factor_names, list_names, branch_names}
use Rattle.cif_net_model.proofs.Passing.{and-left, and-right, both-pass}
use Rattle.cif_net_laws.proofs.Lists.{and-both, pass-both}

abbrev pub is_alg : NetForm → Bool
is_alg (n_alg k) = true
is_alg f = false

-- ---- one term or factor more

terms-added : (c : ℕ → NetExpr) (es : NetTerms) (m : Bool) (e : NetExpr) → terms_replaced c (add_term es m e) ≡ add_term (terms_replaced c es) m (replaced c e)
terms-added c no_net_terms m e = refl
terms-added c (net_terms o x xs) m e = ap (net_terms o (replaced c x)) (terms-added c xs m e)

factors-added : (c : ℕ → NetExpr) (es : NetFactors) (op : MulOp) (e : NetExpr) → factors_replaced c (add_factor es op e) ≡ add_factor (factors_replaced c es) op (replaced c e)
factors-added c no_net_factors op e = refl
factors-added c (net_factors o x xs) op e = ap (net_factors o (replaced c x)) (factors-added c xs op e)

module _ (p : Read → Bool) where
  terms-named : (es : NetTerms) (m : Bool) (e : NetExpr) → list_all p (term_names es) ≡ true → list_all p (names_in e) ≡ true → list_all p (term_names (add_term es m e)) ≡ true
  terms-named no_net_terms m e h k = pass-both p (names_in e) [] k refl
  terms-named (net_terms o x xs) m e h k = let hs = both-pass p (names_in x) (term_names xs) h in pass-both p (names_in x) (term_names (add_term xs m e)) hs.0 (terms-named xs m e hs.1 k)

  factors-named : (es : NetFactors) (op : MulOp) (e : NetExpr) → list_all p (factor_names es) ≡ true → list_all p (names_in e) ≡ true → list_all p (factor_names (add_factor es op e)) ≡ true
  factors-named no_net_factors op e h k = pass-both p (names_in e) [] k refl
  factors-named (net_factors o x xs) op e h k = let hs = both-pass p (names_in x) (factor_names xs) h in pass-both p (names_in x) (factor_names (add_factor xs op e)) hs.0 (factors-named xs op e hs.1 k)

-- ---- a test that does not hang on the place

module _ (test : NetExpr → Bool) (unplaced : (f : NetForm) (i j : ℕ) → test (net_expr f i) ≡ test (net_expr f j)) where
  sums-placed : (i j : ℕ) (first : NetExpr) (before es : NetTerms) → list_all test (sum_parts i first before es) ≡ true → list_all test (sum_parts j first before es) ≡ true
  sums-placed i j first before no_net_terms h = refl
  sums-placed i j first before (net_terms m e es) h =
      let hs = both-pass test (parts e) (sum_parts i first (add_term before m e) es) (and-right _ _ h) in
      and-both _ _ (unplaced (n_sum first (add_term before m e)) j i ∙ and-left _ _ h) (pass-both test (parts e) (sum_parts j first (add_term before m e) es) hs.0 (sums-placed i j first (add_term before m e) es hs.1))

  products-placed : (i j : ℕ) (first : NetExpr) (before es : NetFactors) → list_all test (product_parts i first before es) ≡ true → list_all test (product_parts j first before es) ≡ true
  products-placed i j first before no_net_factors h = refl
  products-placed i j first before (net_factors op e es) h =
      let hs = both-pass test (parts e) (product_parts i first (add_factor before op e) es) (and-right _ _ h) in
      and-both _ _ (unplaced (n_product first (add_factor before op e)) j i ∙ and-left _ _ h) (pass-both test (parts e) (product_parts j first (add_factor before op e) es) hs.0 (products-placed i j first (add_factor before op e) es hs.1))

  moved : (f : NetForm) (i j : ℕ) (ps : List NetExpr) → list_all test (net_expr f i ∷ ps) ≡ true → list_all test (net_expr f j ∷ ps) ≡ true
  moved f i j ps h = and-both _ _ (unplaced f j i ∙ and-left _ _ h) (and-right _ _ h)

  form-placed : (i j : ℕ) (f : NetForm) → list_all test (form_parts i f) ≡ true → list_all test (form_parts j f) ≡ true
  form-placed i j (n_truth b) h = moved (n_truth b) i j [] h
  form-placed i j (n_number z) h = moved (n_number z) i j [] h
  form-placed i j (n_loc a k) h = moved (n_loc a k) i j [] h
  form-placed i j (n_var k) h = moved (n_var k) i j [] h
  form-placed i j (n_input k) h = moved (n_input k) i j [] h
  form-placed i j (n_alg k) h = moved (n_alg k) i j [] h
  form-placed i j n_received h = moved n_received i j [] h
  form-placed i j (n_minus e) h = moved (n_minus e) i j (parts e) h
  form-placed i j (n_plus e) h = moved (n_plus e) i j (parts e) h
  form-placed i j (n_not e) h = h
  form-placed i j (n_abs e) h = moved (n_abs e) i j (parts e) h
  form-placed i j (n_min a b) h = moved (n_min a b) i j (parts a ++ parts b) h
  form-placed i j (n_max a b) h = moved (n_max a b) i j (parts a ++ parts b) h
  form-placed i j (n_sum e es) h = let hs = both-pass test (parts e) (sum_parts i e no_net_terms es) h in pass-both test (parts e) (sum_parts j e no_net_terms es) hs.0 (sums-placed i j e no_net_terms es hs.1)
  form-placed i j (n_product e es) h = let hs = both-pass test (parts e) (product_parts i e no_net_factors es) h in pass-both test (parts e) (product_parts j e no_net_factors es) hs.0 (products-placed i j e no_net_factors es hs.1)
  form-placed i j (n_compare a op b) h = h
  form-placed i j (n_and es) h = h
  form-placed i j (n_or es) h = h
  form-placed i j (n_implies a b) h = h
  form-placed i j (n_iff a b) h = h
  form-placed i j (n_if bs e) h = moved (n_if bs e) i j (branch_parts bs ++ parts e) h

  placed-tested : (j : ℕ) (e : NetExpr) → list_all test (parts e) ≡ true → list_all test (parts (placed j e)) ≡ true
  placed-tested j (net_expr f i) h = form-placed i j f h

  -- ---- each part

  module _ (c : ℕ → NetExpr) (p : Read → Bool) (test' : NetExpr → Bool)
      (algs : (k : ℕ) → list_all test (parts (c k)) ≡ true)
      (same : (f : NetForm) (at : ℕ) → is_alg f ≡ false → list_all p (form_names f) ≡ true → test' (net_expr f at) ≡ true → test (form_replaced c at f) ≡ true) where
    abbrev Read' : List Read → Type 0
    Read' xs = list_all p xs ≡ true

    abbrev Old : List NetExpr → Type 0
    Old ps = list_all test' ps ≡ true

    abbrev New : List NetExpr → Type 0
    New ps = list_all test ps ≡ true

    one : (f : NetForm) (at : ℕ) → is_alg f ≡ false → Read' (form_names f) → Old (net_expr f at ∷ []) → New (form_replaced c at f ∷ [])
    one f at i n h = and-both _ _ (same f at i n (and-left _ _ h)) refl

    pair : (a b : NetExpr) → (Read' (names_in a) → Old (parts a) → New (parts (replaced c a))) → (Read' (names_in b) → Old (parts b) → New (parts (replaced c b)))
        → Read' (names_in a ++ names_in b) → Old (parts a ++ parts b) → New (parts (replaced c a) ++ parts (replaced c b))
    pair a b f g n h =
        let ns = both-pass p (names_in a) (names_in b) n in
        let hs = both-pass test' (parts a) (parts b) h in
        pass-both test (parts (replaced c a)) (parts (replaced c b)) (f ns.0 hs.0) (g ns.1 hs.1)

    mutual
      pub tested : (e : NetExpr) → Read' (names_in e) → Old (parts e) → New (parts (replaced c e))
      tested (net_expr f at) n h = form-tested at f n h

      form-tested : (at : ℕ) (f : NetForm) → Read' (form_names f) → Old (form_parts at f) → New (parts (form_replaced c at f))
      form-tested at (n_truth b) n h = one (n_truth b) at refl n h
      form-tested at (n_number z) n h = one (n_number z) at refl n h
      form-tested at (n_loc a k) n h = one (n_loc a k) at refl n h
      form-tested at (n_var k) n h = one (n_var k) at refl n h
      form-tested at (n_input k) n h = one (n_input k) at refl n h
      form-tested at (n_alg k) n h = placed-tested at (c k) (algs k)
      form-tested at n_received n h = one n_received at refl n h
      form-tested at (n_minus e) n h = and-both _ _ (same (n_minus e) at refl n (and-left _ _ h)) (tested e n (and-right _ _ h))
      form-tested at (n_plus e) n h = and-both _ _ (same (n_plus e) at refl n (and-left _ _ h)) (tested e n (and-right _ _ h))
      form-tested at (n_not e) n h = tested e n h
      form-tested at (n_abs e) n h = and-both _ _ (same (n_abs e) at refl n (and-left _ _ h)) (tested e n (and-right _ _ h))
      form-tested at (n_min a b) n h = and-both _ _ (same (n_min a b) at refl n (and-left _ _ h)) (pair a b (tested a) (tested b) n (and-right _ _ h))
      form-tested at (n_max a b) n h = and-both _ _ (same (n_max a b) at refl n (and-left _ _ h)) (pair a b (tested a) (tested b) n (and-right _ _ h))
      form-tested at (n_sum e es) n h =
          let ns = both-pass p (names_in e) (term_names es) n in
          let hs = both-pass test' (parts e) (sum_parts at e no_net_terms es) h in
          pass-both test (parts (replaced c e)) (sum_parts at (replaced c e) no_net_terms (terms_replaced c es)) (tested e ns.0 hs.0) (sum-tested at e no_net_terms es ns.0 refl ns.1 hs.1)
      form-tested at (n_product e es) n h =
          let ns = both-pass p (names_in e) (factor_names es) n in
          let hs = both-pass test' (parts e) (product_parts at e no_net_factors es) h in
          pass-both test (parts (replaced c e)) (product_parts at (replaced c e) no_net_factors (factors_replaced c es)) (tested e ns.0 hs.0) (product-tested at e no_net_factors es ns.0 refl ns.1 hs.1)
      form-tested at (n_compare a op b) n h = pair a b (tested a) (tested b) n h
      form-tested at (n_and es) n h = list-tested es n h
      form-tested at (n_or es) n h = list-tested es n h
      form-tested at (n_implies a b) n h = pair a b (tested a) (tested b) n h
      form-tested at (n_iff a b) n h = pair a b (tested a) (tested b) n h
      form-tested at (n_if bs e) n h =
          let ns = both-pass p (branch_names bs) (names_in e) n in
          let hs = both-pass test' (branch_parts bs) (parts e) (and-right _ _ h) in
          and-both _ _ (same (n_if bs e) at refl n (and-left _ _ h))
          (pass-both test (branch_parts (branches_replaced c bs)) (parts (replaced c e)) (branches-tested bs ns.0 hs.0) (tested e ns.1 hs.1))

      list-tested : (es : NetExprs) → Read' (list_names es) → Old (list_parts es) → New (list_parts (list_replaced c es))
      list-tested no_net_exprs n h = refl
      list-tested (net_exprs e es) n h =
          let ns = both-pass p (names_in e) (list_names es) n in
          let hs = both-pass test' (parts e) (list_parts es) h in
          pass-both test (parts (replaced c e)) (list_parts (list_replaced c es)) (tested e ns.0 hs.0) (list-tested es ns.1 hs.1)

      branches-tested : (bs : NetBranches) → Read' (branch_names bs) → Old (branch_parts bs) → New (branch_parts (branches_replaced c bs))
      branches-tested no_net_branches n h = refl
      branches-tested (net_branches e f bs) n h =
          let ns = both-pass p (names_in e) (names_in f ++ branch_names bs) n in
          let hs = both-pass test' (parts e) (parts f ++ branch_parts bs) h in
          let ms = both-pass p (names_in f) (branch_names bs) ns.1 in
          let ks = both-pass test' (parts f) (branch_parts bs) hs.1 in
          pass-both test (parts (replaced c e)) (parts (replaced c f) ++ branch_parts (branches_replaced c bs)) (tested e ns.0 hs.0)
          (pass-both test (parts (replaced c f)) (branch_parts (branches_replaced c bs)) (tested f ms.0 ks.0) (branches-tested bs ms.1 ks.1))

      sum-tested : (at : ℕ) (first : NetExpr) (before es : NetTerms) → Read' (names_in first) → Read' (term_names before) → Read' (term_names es) → Old (sum_parts at first before es)
          → New (sum_parts at (replaced c first) (terms_replaced c before) (terms_replaced c es))
      sum-tested at first before no_net_terms f b n h = refl
      sum-tested at first before (net_terms m e es) f b n h =
          let ns = both-pass p (names_in e) (term_names es) n in
          let hs = both-pass test' (parts e) (sum_parts at first (add_term before m e) es) (and-right _ _ h) in
          let more : Read' (term_names (add_term before m e)) = terms-named p before m e b ns.0 in
          let all : Read' (names_in first ++ term_names (add_term before m e)) = pass-both p (names_in first) (term_names (add_term before m e)) f more in
          and-both _ _
          (subst (λ xs. test (net_expr (n_sum (replaced c first) xs) at) ≡ true) (terms-added c before m e) (same (n_sum first (add_term before m e)) at refl all (and-left _ _ h)))
          (pass-both test (parts (replaced c e)) (sum_parts at (replaced c first) (add_term (terms_replaced c before) m (replaced c e)) (terms_replaced c es)) (tested e ns.0 hs.0)
          (subst (λ xs. New (sum_parts at (replaced c first) xs (terms_replaced c es))) (terms-added c before m e) (sum-tested at first (add_term before m e) es f more ns.1 hs.1)))

      product-tested : (at : ℕ) (first : NetExpr) (before es : NetFactors) → Read' (names_in first) → Read' (factor_names before) → Read' (factor_names es) → Old (product_parts at first before es)
          → New (product_parts at (replaced c first) (factors_replaced c before) (factors_replaced c es))
      product-tested at first before no_net_factors f b n h = refl
      product-tested at first before (net_factors op e es) f b n h =
          let ns = both-pass p (names_in e) (factor_names es) n in
          let hs = both-pass test' (parts e) (product_parts at first (add_factor before op e) es) (and-right _ _ h) in
          let more : Read' (factor_names (add_factor before op e)) = factors-named p before op e b ns.0 in
          let all : Read' (names_in first ++ factor_names (add_factor before op e)) = pass-both p (names_in first) (factor_names (add_factor before op e)) f more in
          and-both _ _
          (subst (λ xs. test (net_expr (n_product (replaced c first) xs) at) ≡ true) (factors-added c before op e) (same (n_product first (add_factor before op e)) at refl all (and-left _ _ h)))
          (pass-both test (parts (replaced c e)) (product_parts at (replaced c first) (add_factor (factors_replaced c before) op (replaced c e)) (factors_replaced c es)) (tested e ns.0 hs.0)
          (subst (λ xs. New (product_parts at (replaced c first) xs (factors_replaced c es))) (factors-added c before op e) (product-tested at first (add_factor before op e) es f more ns.1 hs.1)))
