-- The measure of an algebraic variable hangs on those that its definitions name, and a table that is filled along an order has
-- the measures of the net.
use Rattle.std.proofs.Common.{◌≡◌, ℕ, zero, suc, ◌+◌, ◌≤◌, List, [], ◌∷◌, ◌++◌, map, length, inl, refl, sym, ◌∙◌, ap, Result, Ok, Err, IfOk, arith}
use Rattle.std.specs.Prelude.{flat_map}
use Rattle.cif_system.specs.Words.{Member}
use Rattle.cif_system.proofs.Picks.{append-left, append-right}
use Rattle.cif_net_expr.specs.Tree.{NetExpr, net_expr, NetForm, n_truth, n_number, n_loc, n_var, n_input, n_alg, n_received, n_minus, n_plus, n_not, n_abs, n_min, n_max, n_sum, n_product, n_compare, n_and, n_or, n_implies, n_iff, n_if, NetExprs, no_net_exprs, net_exprs, NetTerms, no_net_terms, net_terms, NetFactors, no_net_factors, net_factors, NetBranches, no_net_branches, net_branches}
use Rattle.cif_net_model.specs.Net.{AlgValue, one_value, by_loc, NetAlg, Net}
use Rattle.cif_net_model.specs.Exprs.{alg_exprs}
use Rattle.cif_net_model.specs.Reads.{Read, an_alg, names_in, form_names, term_names, factor_names, list_names, branch_names}
use Rattle.cif_net_model.specs.Unfolding.{unfolded}
use Rattle.cif_net_model.specs.Counts.{no_form, beside, above, measure_by, form_measure, terms_measure, factors_measure, list_measure, branches_measure, all_beside, by_location, alg_measure, alg_measures, stopped, most_nodes, most_depth}
use Rattle.cif_net_model.specs.Counts as counts
use Rattle.cif_net_model.proofs.ValueLaws.{ap-two}
use Rattle.cif_base.specs.declared.memory.Memory.{Memory}
use Rattle.cif_alg_measure.specs.declared.measures.Measure.{Measure}
use Rattle.cif_alg_measure.specs.Meanings.{as_measure, stopped_measure}
use Rattle.cif_alg_measure.specs.Counted.{beside_stopped}
use Rattle.cif_alg_measure.specs.Sizes.{AreMeasured}
use Rattle.cif_alg_measure.proofs.CountedLaws.{same-measure, beside-stopped, beside-none, none-beside, beside-assoc, stopped-alike}
use Rattle.cif_alg_order.specs.Measured.{unmeasured, alg_measured, exprs_measured}
use Rattle.cif_alg_order.specs.Orders.{IsOrderOf, IsRankOf}
use Rattle.cif_alg_order.specs.Filled.{filled}
use Rattle.cif_alg_order.proofs.GraphLaws.{order-gives}
use Rattle.cif_alg_order.proofs.FillLaws.{filled-whole, unfolded-seen}

-- ---- what a measure hangs on

abbrev pub value_measure : (ℕ → counts.Measure) → AlgValue → counts.Measure
value_measure f (one_value e) = measure_by f e
value_measure f (by_loc k es) = by_location (length es) (all_beside (map (measure_by f) es))

module _ (g h : ℕ → counts.Measure) where
  abbrev Same : List Read → Type 0
  Same rs = (k : ℕ) → Member (an_alg k) rs → g k ≡ h k

  left : (rs qs : List Read) → Same (rs ++ qs) → Same rs
  left rs qs s k m = s k (append-left (an_alg k) rs qs m)

  right : (rs qs : List Read) → Same (rs ++ qs) → Same qs
  right rs qs s k m = s k (append-right (an_alg k) rs qs m)

  mutual
    pub measure-same : (e : NetExpr) → Same (names_in e) → measure_by g e ≡ measure_by h e
    measure-same (net_expr f at) s = form-same f s

    form-same : (f : NetForm) → Same (form_names f) → form_measure g f ≡ form_measure h f
    form-same (n_truth b) s = refl
    form-same (n_number z) s = refl
    form-same (n_loc a k) s = refl
    form-same (n_var k) s = refl
    form-same (n_input k) s = refl
    form-same (n_alg k) s = s k (inl refl)
    form-same n_received s = refl
    form-same (n_minus e) s = ap above (measure-same e s)
    form-same (n_plus e) s = ap above (measure-same e s)
    form-same (n_not e) s = ap above (measure-same e s)
    form-same (n_abs e) s = ap above (measure-same e s)
    form-same (n_min a b) s = ap above (ap-two beside (measure-same a (left (names_in a) (names_in b) s)) (measure-same b (right (names_in a) (names_in b) s)))
    form-same (n_max a b) s = ap above (ap-two beside (measure-same a (left (names_in a) (names_in b) s)) (measure-same b (right (names_in a) (names_in b) s)))
    form-same (n_sum e es) s = ap above (ap-two beside (measure-same e (left (names_in e) (term_names es) s)) (terms-same es (right (names_in e) (term_names es) s)))
    form-same (n_product e es) s = ap above (ap-two beside (measure-same e (left (names_in e) (factor_names es) s)) (factors-same es (right (names_in e) (factor_names es) s)))
    form-same (n_compare a op b) s = ap above (ap-two beside (measure-same a (left (names_in a) (names_in b) s)) (measure-same b (right (names_in a) (names_in b) s)))
    form-same (n_and es) s = ap above (list-same es s)
    form-same (n_or es) s = ap above (list-same es s)
    form-same (n_implies a b) s = ap above (ap-two beside (measure-same a (left (names_in a) (names_in b) s)) (measure-same b (right (names_in a) (names_in b) s)))
    form-same (n_iff a b) s = ap above (ap-two beside (measure-same a (left (names_in a) (names_in b) s)) (measure-same b (right (names_in a) (names_in b) s)))
    form-same (n_if bs e) s = ap above (ap-two beside (branches-same bs (left (branch_names bs) (names_in e) s)) (measure-same e (right (branch_names bs) (names_in e) s)))

    terms-same : (es : NetTerms) → Same (term_names es) → terms_measure g es ≡ terms_measure h es
    terms-same no_net_terms s = refl
    terms-same (net_terms m e es) s = ap-two beside (measure-same e (left (names_in e) (term_names es) s)) (terms-same es (right (names_in e) (term_names es) s))

    factors-same : (es : NetFactors) → Same (factor_names es) → factors_measure g es ≡ factors_measure h es
    factors-same no_net_factors s = refl
    factors-same (net_factors op e es) s = ap-two beside (measure-same e (left (names_in e) (factor_names es) s)) (factors-same es (right (names_in e) (factor_names es) s))

    list-same : (es : NetExprs) → Same (list_names es) → list_measure g es ≡ list_measure h es
    list-same no_net_exprs s = refl
    list-same (net_exprs e es) s = ap-two beside (measure-same e (left (names_in e) (list_names es) s)) (list-same es (right (names_in e) (list_names es) s))

    branches-same : (bs : NetBranches) → Same (branch_names bs) → branches_measure g bs ≡ branches_measure h bs
    branches-same no_net_branches s = refl
    branches-same (net_branches c e bs) s =
        let t : Same (names_in e ++ branch_names bs) = right (names_in c) (names_in e ++ branch_names bs) s in
        ap-two beside (measure-same c (left (names_in c) (names_in e ++ branch_names bs) s))
        (ap-two beside (measure-same e (left (names_in e) (branch_names bs) t)) (branches-same bs (right (names_in e) (branch_names bs) t)))

  exprs-same : (es : List NetExpr) → Same (flat_map names_in es) → map (measure_by g) es ≡ map (measure_by h) es
  exprs-same [] s = refl
  exprs-same (e ∷ es) s =
      let p : measure_by g e ≡ measure_by h e = measure-same e (left (names_in e) (flat_map names_in es) s) in
      let q : map (measure_by g) es ≡ map (measure_by h) es = exprs-same es (right (names_in e) (flat_map names_in es) s) in
      λ i. p i ∷ q i

  value-same : (v : AlgValue) → Same (flat_map names_in (elim v [ one_value e ↦ e ∷ [] | by_loc k es ↦ es ])) → value_measure g v ≡ value_measure h v
  value-same (one_value e) s = measure-same e (left (names_in e) [] s)
  value-same (by_loc k es) s = ap (λ ms. by_location (length es) (all_beside ms)) (exprs-same es s)

  alg-same : (a : NetAlg) → Same (flat_map names_in (alg_exprs a)) → alg_measure g a ≡ alg_measure h a
  alg-same a s = value-same a.value s

-- ---- counts that stop

twice-nodes : (a : ℕ) → stopped most_nodes (stopped most_nodes a) ≡ stopped most_nodes a
twice-nodes a = omega arith

twice-depth : (a : ℕ) → stopped most_depth (stopped most_depth a) ≡ stopped most_depth a
twice-depth a = omega arith

pub twice : (a : counts.Measure) → stopped_measure (as_measure (stopped_measure a)) ≡ stopped_measure a
twice a = same-measure (twice-nodes a.size) (twice-depth a.depth)

-- one expression after the other
pub exprs-stop : (f : ℕ → counts.Measure) (es : List NetExpr) (a : counts.Measure) → exprs_measured f (stopped_measure a) es ≡ stopped_measure (beside a (all_beside (map (measure_by f) es)))
exprs-stop f [] a = ap stopped_measure (sym (beside-none a))
exprs-stop f (e ∷ es) a =
    ap (λ b. exprs_measured f b es) (beside-stopped a (measure_by f e))
    ∙ exprs-stop f es (beside a (measure_by f e))
    ∙ ap stopped_measure (beside-assoc a (measure_by f e) (all_beside (map (measure_by f) es)))

pub all-stop : (f : ℕ → counts.Measure) (es : List NetExpr) → exprs_measured f (stopped_measure no_form) es ≡ stopped_measure (all_beside (map (measure_by f) es))
all-stop f es = exprs-stop f es no_form ∙ ap stopped_measure (none-beside (all_beside (map (measure_by f) es)))

more-nodes : (a b n : ℕ) → stopped most_nodes a ≡ stopped most_nodes b → stopped most_nodes (a + n) ≡ stopped most_nodes (b + n)
more-nodes a b n h = omega arith

more-depth : (a b : ℕ) → stopped most_depth a ≡ stopped most_depth b → stopped most_depth (a + 1) ≡ stopped most_depth (b + 1)
more-depth a b h = omega arith

pub location-alike : (n : ℕ) (a b : counts.Measure) → stopped_measure a ≡ stopped_measure b → stopped_measure (by_location n a) ≡ stopped_measure (by_location n b)
location-alike zero a b h = h
location-alike (suc zero) a b h = h
location-alike (suc (suc n)) a b h = same-measure (more-nodes a.size b.size (suc (suc n)) (ap (λ (m : Measure). m.size) h)) (more-depth a.depth b.depth (ap (λ (m : Measure). m.depth) h))

-- what is told of definitions by location: n of them, and m side by side
pub by_location-told : (f : ℕ → counts.Measure) (es : List NetExpr) (n : ℕ) (m r : Measure) → n ≡ length es → m ≡ exprs_measured f (stopped_measure no_form) es → r ≡ stopped_measure (by_location n (as_measure m))
    → r ≡ stopped_measure (by_location (length es) (all_beside (map (measure_by f) es)))
by_location-told f es n m r p q h =
    let all : counts.Measure = all_beside (map (measure_by f) es) in
    h
    ∙ ap (λ k. stopped_measure (by_location k (as_measure m))) p
    ∙ ap (λ x. stopped_measure (by_location (length es) (as_measure x))) (q ∙ all-stop f es)
    ∙ location-alike (length es) (as_measure (stopped_measure all)) all (twice all)

module _ (f g : ℕ → counts.Measure) (alike : (k : ℕ) → stopped_measure (f k) ≡ stopped_measure (g k)) where
  all-alike : (es : List NetExpr) → stopped_measure (all_beside (map (measure_by f) es)) ≡ stopped_measure (all_beside (map (measure_by g) es))
  all-alike [] = refl
  all-alike (e ∷ es) =
      sym (beside-stopped (measure_by f e) (all_beside (map (measure_by f) es)))
      ∙ ap-two beside_stopped (stopped-alike f g e alike) (all-alike es)
      ∙ beside-stopped (measure_by g e) (all_beside (map (measure_by g) es))

  value-alike : (v : AlgValue) → stopped_measure (value_measure f v) ≡ stopped_measure (value_measure g v)
  value-alike (one_value e) = stopped-alike f g e alike
  value-alike (by_loc k es) = location-alike (length es) (all_beside (map (measure_by f) es)) (all_beside (map (measure_by g) es)) (all-alike es)

  alg-alike : (a : NetAlg) → stopped_measure (alg_measure f a) ≡ stopped_measure (alg_measure g a)
  alg-alike a = value-alike a.value

-- of one definition in two or more
pub location-more : (n : ℕ) (a : counts.Measure) → 2 ≤ n → let m : counts.Measure = record { size = a.size + n; depth = a.depth + 1 } in by_location n a ≡ m
location-more zero a h = absurd (omega arith)
location-more (suc zero) a h = absurd (omega arith)
location-more (suc (suc n)) a h = refl

pub location-none : (n : ℕ) (a : counts.Measure) → n ≤ 1 → by_location n a ≡ a
location-none zero a h = refl
location-none (suc zero) a h = refl
location-none (suc (suc n)) a h = absurd (omega arith)

-- ---- the table

-- a definition names an algebraic variable
abbrev Names : NetAlg → ℕ → Type 0
Names a k = Member (an_alg k) (flat_map names_in (alg_exprs a))

stop-all : (ms : List counts.Measure) → map stopped_measure (map as_measure (map stopped_measure ms)) ≡ map stopped_measure ms
stop-all [] = refl
stop-all (m ∷ ms) = let p = twice m in let q = stop-all ms in λ i. p i ∷ q i

pub filled-measures : (n : Net) (o : List ℕ) → IsOrderOf n o → (all : List Measure) → all ≡ filled unmeasured alg_measured n.algs o → AreMeasured all n
filled-measures n o h all e =
    ap (λ ms. map stopped_measure (map as_measure ms)) (e ∙ whole ∙ sym seen) ∙ stop-all (alg_measures n)
  where
    r : (rank : ℕ → ℕ) × IsRankOf n rank
    r = order-gives n o h

    whole : filled unmeasured alg_measured n.algs o ≡ unfolded unmeasured alg_measured n.algs (length n.algs)
    whole =
        filled-whole unmeasured alg_measured n.algs Names
        (λ f g x s. ap stopped_measure (alg-same (λ k. as_measure (f k)) (λ k. as_measure (g k)) x (λ k m. ap as_measure (s k m))))
        r.0 r.1.within (λ j k x p q. r.1.falls j k (x, p, q)) o h.only h.once (λ j k x p q. h.after j k (x, p, q)) h.each

    seen : map stopped_measure (alg_measures n) ≡ unfolded unmeasured alg_measured n.algs (length n.algs)
    seen =
        unfolded-seen stopped_measure no_form alg_measure alg_measured n.algs
        (λ t x m. sym (alg-alike (λ k. as_measure (stopped_measure (t k))) t (λ k. twice (t k)) x)) (length n.algs)

pub measures-told : (n : Net) (o : List ℕ) → IsOrderOf n o → (ds : List NetAlg) → ds ≡ n.algs → (r : Result (List Measure) Memory) → IfOk r (λ all. all ≡ filled unmeasured alg_measured ds o) → IfOk r (λ all. AreMeasured all n)
measures-told n o h ds e (Ok all) p = filled-measures n o h all (p ∙ ap (λ xs. filled unmeasured alg_measured xs o) e)
measures-told n o h ds e (Err x) p = tt
