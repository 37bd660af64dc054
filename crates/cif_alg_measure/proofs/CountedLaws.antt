-- Counts that stop on the way are those that stop at the end.
use Rattle.std.proofs.Common.{◌≡◌, ℕ, ◌+◌, max, refl, sym, ◌∙◌, ap, arith}
use Rattle.cif_net_expr.specs.Tree.{NetExpr, net_expr, NetForm, n_truth, n_number, n_loc, n_var, n_input, n_alg, n_received, n_minus, n_plus, n_not, n_abs, n_min, n_max, n_sum, n_product, n_compare, n_and, n_or, n_implies, n_iff, n_if, NetExprs, no_net_exprs, net_exprs, NetTerms, no_net_terms, net_terms, NetFactors, no_net_factors, net_factors, NetBranches, no_net_branches, net_branches}
use Rattle.cif_net_model.specs.Counts.{no_form, beside, above, measure_by, form_measure, terms_measure, factors_measure, list_measure, branches_measure, stopped, most_nodes, most_depth}
use Rattle.cif_net_model.specs.Counts as counts
use Rattle.cif_net_model.proofs.ValueLaws.{ap-two}
use Rattle.cif_alg_measure.specs.declared.measures.Measure.{Measure}
use Rattle.cif_alg_measure.specs.Meanings.{stopped_measure}
use Rattle.cif_alg_measure.specs.Counted.{beside_stopped, above_stopped, counted, form_counted, terms_counted, factors_counted, list_counted, branches_counted}

-- ---- measures side by side

pub same-measure : {a b c d : ℕ} → a ≡ b → c ≡ d → let x : Measure = record { size = a; depth = c } in x ≡ record { size = b; depth = d }
same-measure p q = ap-two (λ s d. record { size = s; depth = d }) p q

same-count : {a b c d : ℕ} → a ≡ b → c ≡ d → let x : counts.Measure = record { size = a; depth = c } in x ≡ record { size = b; depth = d }
same-count p q = ap-two (λ s d. record { size = s; depth = d }) p q

stop-sum : (a b : ℕ) → stopped most_nodes (stopped most_nodes a + stopped most_nodes b) ≡ stopped most_nodes (a + b)
stop-sum a b = omega arith

stop-max : (a b : ℕ) → stopped most_depth (max (stopped most_depth a) (stopped most_depth b)) ≡ stopped most_depth (max a b)
stop-max a b = omega arith

pub beside-stopped : (a b : counts.Measure) → beside_stopped (stopped_measure a) (stopped_measure b) ≡ stopped_measure (beside a b)
beside-stopped a b = same-measure (stop-sum a.size b.size) (stop-max a.depth b.depth)

stop-one_size : (a : ℕ) → stopped most_nodes (stopped most_nodes a + 1) ≡ stopped most_nodes (a + 1)
stop-one_size a = omega arith

stop-one_depth : (a : ℕ) → stopped most_depth (stopped most_depth a + 1) ≡ stopped most_depth (a + 1)
stop-one_depth a = omega arith

above-stopped : (a : counts.Measure) → above_stopped (stopped_measure a) ≡ stopped_measure (above a)
above-stopped a = same-measure (stop-one_size a.size) (stop-one_depth a.depth)

pub beside-none : (a : counts.Measure) → beside a no_form ≡ a
beside-none a = same-count (omega arith) (omega arith)

pub none-beside : (a : counts.Measure) → beside no_form a ≡ a
none-beside a = same-count (omega arith) (omega arith)

pub beside-assoc : (a b c : counts.Measure) → beside (beside a b) c ≡ beside a (beside b c)
beside-assoc a b c = same-count (omega arith) (omega arith)

beside-swap : (a b : counts.Measure) → beside a b ≡ beside b a
beside-swap a b = same-count (omega arith) (omega arith)

-- ---- all forms

module _ (f : ℕ → counts.Measure) where
  abbrev alg : ℕ → Measure
  alg k = stopped_measure (f k)

  one-is : (e : NetExpr) → counted alg e ≡ stopped_measure (measure_by f e) → above_stopped (counted alg e) ≡ stopped_measure (above (measure_by f e))
  one-is e h = ap above_stopped h ∙ above-stopped (measure_by f e)

  two-is : (a b : NetExpr) → counted alg a ≡ stopped_measure (measure_by f a) → counted alg b ≡ stopped_measure (measure_by f b) → above_stopped (beside_stopped (counted alg a) (counted alg b)) ≡ stopped_measure (above (beside (measure_by f a) (measure_by f b)))
  two-is a b h k = ap above_stopped (ap-two beside_stopped h k ∙ beside-stopped (measure_by f a) (measure_by f b)) ∙ above-stopped (beside (measure_by f a) (measure_by f b))

  -- one more after what was counted
  more-is : (a : counts.Measure) (e : NetExpr) → counted alg e ≡ stopped_measure (measure_by f e) → beside_stopped (stopped_measure a) (counted alg e) ≡ stopped_measure (beside a (measure_by f e))
  more-is a e h = ap (beside_stopped (stopped_measure a)) h ∙ beside-stopped a (measure_by f e)

  mutual
    pub counted-is : (e : NetExpr) → counted alg e ≡ stopped_measure (measure_by f e)
    counted-is (net_expr x at) = form-is x

    form-is : (x : NetForm) → form_counted alg x ≡ stopped_measure (form_measure f x)
    form-is (n_truth b) = refl
    form-is (n_number z) = refl
    form-is (n_loc a p) = refl
    form-is (n_var k) = refl
    form-is (n_input k) = refl
    form-is (n_alg k) = refl
    form-is n_received = refl
    form-is (n_minus e) = one-is e (counted-is e)
    form-is (n_plus e) = one-is e (counted-is e)
    form-is (n_not e) = one-is e (counted-is e)
    form-is (n_abs e) = one-is e (counted-is e)
    form-is (n_min a b) = two-is a b (counted-is a) (counted-is b)
    form-is (n_max a b) = two-is a b (counted-is a) (counted-is b)
    form-is (n_sum e es) = ap (λ a. above_stopped (terms_counted alg a es)) (counted-is e) ∙ ap above_stopped (terms-is es (measure_by f e)) ∙ above-stopped (beside (measure_by f e) (terms_measure f es))
    form-is (n_product e es) = ap (λ a. above_stopped (factors_counted alg a es)) (counted-is e) ∙ ap above_stopped (factors-is es (measure_by f e)) ∙ above-stopped (beside (measure_by f e) (factors_measure f es))
    form-is (n_compare a op b) = two-is a b (counted-is a) (counted-is b)
    form-is (n_and es) = ap above_stopped (list-is es no_form ∙ ap stopped_measure (none-beside (list_measure f es))) ∙ above-stopped (list_measure f es)
    form-is (n_or es) = ap above_stopped (list-is es no_form ∙ ap stopped_measure (none-beside (list_measure f es))) ∙ above-stopped (list_measure f es)
    form-is (n_implies a b) = two-is a b (counted-is a) (counted-is b)
    form-is (n_iff a b) = two-is a b (counted-is a) (counted-is b)
    form-is (n_if bs e) =
        ap (λ a. above_stopped (branches_counted alg a bs)) (counted-is e)
        ∙ ap above_stopped (branches-is bs (measure_by f e) ∙ ap stopped_measure (beside-swap (measure_by f e) (branches_measure f bs)))
        ∙ above-stopped (beside (branches_measure f bs) (measure_by f e))

    list-is : (es : NetExprs) (a : counts.Measure) → list_counted alg (stopped_measure a) es ≡ stopped_measure (beside a (list_measure f es))
    list-is no_net_exprs a = ap stopped_measure (sym (beside-none a))
    list-is (net_exprs e es) a = ap (λ x. list_counted alg x es) (more-is a e (counted-is e)) ∙ list-is es (beside a (measure_by f e)) ∙ ap stopped_measure (beside-assoc a (measure_by f e) (list_measure f es))

    terms-is : (es : NetTerms) (a : counts.Measure) → terms_counted alg (stopped_measure a) es ≡ stopped_measure (beside a (terms_measure f es))
    terms-is no_net_terms a = ap stopped_measure (sym (beside-none a))
    terms-is (net_terms m e es) a = ap (λ x. terms_counted alg x es) (more-is a e (counted-is e)) ∙ terms-is es (beside a (measure_by f e)) ∙ ap stopped_measure (beside-assoc a (measure_by f e) (terms_measure f es))

    factors-is : (es : NetFactors) (a : counts.Measure) → factors_counted alg (stopped_measure a) es ≡ stopped_measure (beside a (factors_measure f es))
    factors-is no_net_factors a = ap stopped_measure (sym (beside-none a))
    factors-is (net_factors op e es) a = ap (λ x. factors_counted alg x es) (more-is a e (counted-is e)) ∙ factors-is es (beside a (measure_by f e)) ∙ ap stopped_measure (beside-assoc a (measure_by f e) (factors_measure f es))

    branches-is : (bs : NetBranches) (a : counts.Measure) → branches_counted alg (stopped_measure a) bs ≡ stopped_measure (beside a (branches_measure f bs))
    branches-is no_net_branches a = ap stopped_measure (sym (beside-none a))
    branches-is (net_branches c e bs) a =
        let m : counts.Measure = beside (beside a (measure_by f c)) (measure_by f e) in
        ap (λ x. branches_counted alg (beside_stopped x (counted alg e)) bs) (more-is a c (counted-is c))
        ∙ ap (λ x. branches_counted alg x bs) (more-is (beside a (measure_by f c)) e (counted-is e))
        ∙ branches-is bs m
        ∙ ap stopped_measure (beside-assoc (beside a (measure_by f c)) (measure_by f e) (branches_measure f bs) ∙ beside-assoc a (measure_by f c) (beside (measure_by f e) (branches_measure f bs)))

-- measures that stop alike make measures that stop alike
pub stopped-alike : (f g : ℕ → counts.Measure) (e : NetExpr) → ((k : ℕ) → stopped_measure (f k) ≡ stopped_measure (g k)) → stopped_measure (measure_by f e) ≡ stopped_measure (measure_by g e)
stopped-alike f g e h =
    let same : (λ k. stopped_measure (f k)) ≡ (λ k. stopped_measure (g k)) = λ i k. h k i in
    sym (counted-is f e) ∙ ap (λ alg. counted alg e) same ∙ counted-is g e
