-- The value of each part of an expression lies in its interval, what is reached in sums and products included.
use Rattle.std.proofs.Common.{◌≡◌, ℕ, ℤ, pos, Bool, true, List, [], ◌∷◌, ◌++◌, refl, subst, slice_index_or}
use Rattle.std.specs.List.{list_all, AllByRecursion}
use Rattle.cif_system.specs.System.{Range, State}
use Rattle.cif_net_expr.specs.Tree.{MulOp, NetExpr, net_expr, NetForm, n_truth, n_number, n_loc, n_var, n_input, n_alg, n_received, n_minus, n_plus, n_not, n_abs, n_min, n_max, n_sum, n_product, n_compare, n_and, n_or, n_implies, n_iff, n_if, NetExprs, no_net_exprs, net_exprs, NetTerms, no_net_terms, net_terms, NetFactors, no_net_factors, net_factors, NetBranches, no_net_branches, net_branches}
use Rattle.cif_net_model.specs.Value.{net_value, net_sum, net_product, added, multiplied}
use Rattle.cif_net_model.specs.Interval.{add_ranges, mul_ranges, Ranges, range_of, sum_range, product_range}
use Rattle.cif_net_model.specs.Reads.{alg_passes, names_in, form_names, term_names, factor_names, list_names, branch_names}
use Rattle.cif_net_model.specs.Parts.{add_term, add_factor, parts, form_parts, sum_parts, product_parts, list_parts, branch_parts, part_divides}
use Rattle.cif_net_model.proofs.Orders.{Lies, add-holds}
use Rattle.cif_net_model.proofs.Corners.{multiply-holds}
use Rattle.cif_net_model.proofs.Passing.{both-pass, and-left, and-right, last-divides}
use Rattle.cif_net_model.proofs.IntervalLaws.{holds}

pub all-append : {A : Type 0} (P : A → Type 0) (xs ys : List A) → AllByRecursion P xs → AllByRecursion P ys → AllByRecursion P (xs ++ ys)
all-append P [] ys h k = k
all-append P (x ∷ xs) ys h k = (h.0, all-append P xs ys h.1 k)

-- one term or factor more

sum_range-more : (g : Ranges) (a : Range) (es : NetTerms) (m : Bool) (e : NetExpr) → add_ranges m (sum_range g a es) (range_of g e) ≡ sum_range g a (add_term es m e)
sum_range-more g a no_net_terms m e = refl
sum_range-more g a (net_terms o x xs) m e = sum_range-more g (add_ranges o a (range_of g x)) xs m e

net_sum-more : (alg : ℕ → ℤ) (s : State) (r z : ℤ) (es : NetTerms) (m : Bool) (e : NetExpr) → added m (net_sum alg s r z es) (net_value alg s r e) ≡ net_sum alg s r z (add_term es m e)
net_sum-more alg s r z no_net_terms m e = refl
net_sum-more alg s r z (net_terms o x xs) m e = net_sum-more alg s r (added o z (net_value alg s r x)) xs m e

product_range-more : (g : Ranges) (a : Range) (es : NetFactors) (op : MulOp) (e : NetExpr) → mul_ranges op (product_range g a es) (range_of g e) ≡ product_range g a (add_factor es op e)
product_range-more g a no_net_factors op e = refl
product_range-more g a (net_factors o x xs) op e = product_range-more g (mul_ranges o a (range_of g x)) xs op e

net_product-more : (alg : ℕ → ℤ) (s : State) (r z : ℤ) (es : NetFactors) (op : MulOp) (e : NetExpr) → multiplied op (net_product alg s r z es) (net_value alg s r e) ≡ net_product alg s r z (add_factor es op e)
net_product-more alg s r z no_net_factors op e = refl
net_product-more alg s r z (net_factors o x xs) op e = net_product-more alg s r (multiplied o z (net_value alg s r x)) xs op e

module _ (g : Ranges) (alg : ℕ → ℤ) (s : State) (r : ℤ) (p : ℕ → Bool)
    (vars : (k : ℕ) → Lies (g.vars k) (slice_index_or s.vals k (pos 0)))
    (inputs : (k : ℕ) → Lies (g.inputs k) (slice_index_or s.ins k (pos 0)))
    (algs : (k : ℕ) → p k ≡ true → Lies (g.algs k) (alg k))
    (received : Lies g.received r) where
  abbrev pub PartLies : NetExpr → Type 0
  PartLies e = Lies (range_of g e) (net_value alg s r e)

  whole : (e : NetExpr) → list_all (alg_passes p) (names_in e) ≡ true → list_all (part_divides g) (parts e) ≡ true → PartLies e
  whole = holds g alg s r p vars inputs algs received

  pair_holds : (a b : NetExpr) → (list_all (alg_passes p) (names_in a) ≡ true → list_all (part_divides g) (parts a) ≡ true → AllByRecursion PartLies (parts a))
      → (list_all (alg_passes p) (names_in b) ≡ true → list_all (part_divides g) (parts b) ≡ true → AllByRecursion PartLies (parts b))
      → list_all (alg_passes p) (names_in a ++ names_in b) ≡ true → list_all (part_divides g) (parts a ++ parts b) ≡ true → AllByRecursion PartLies (parts a ++ parts b)
  pair_holds a b h k n d =
      let ns = both-pass (alg_passes p) (names_in a) (names_in b) n in
      let ds = both-pass (part_divides g) (parts a) (parts b) d in
      all-append PartLies (parts a) _ (h ns.0 ds.0) (k ns.1 ds.1)

  mutual
    pub parts_hold : (e : NetExpr) → list_all (alg_passes p) (names_in e) ≡ true → list_all (part_divides g) (parts e) ≡ true → AllByRecursion PartLies (parts e)
    parts_hold (net_expr f at) n d = form_parts_hold at f n d

    form_parts_hold : (at : ℕ) (f : NetForm) → list_all (alg_passes p) (form_names f) ≡ true → list_all (part_divides g) (form_parts at f) ≡ true → AllByRecursion PartLies (form_parts at f)
    form_parts_hold at (n_truth b) n d = (whole (net_expr (n_truth b) at) n d, tt)
    form_parts_hold at (n_number z) n d = (whole (net_expr (n_number z) at) n d, tt)
    form_parts_hold at (n_loc a k) n d = (whole (net_expr (n_loc a k) at) n d, tt)
    form_parts_hold at (n_var k) n d = (whole (net_expr (n_var k) at) n d, tt)
    form_parts_hold at (n_input k) n d = (whole (net_expr (n_input k) at) n d, tt)
    form_parts_hold at (n_alg k) n d = (whole (net_expr (n_alg k) at) n d, tt)
    form_parts_hold at n_received n d = (whole (net_expr n_received at) n d, tt)
    form_parts_hold at (n_minus e) n d = (whole (net_expr (n_minus e) at) n d, parts_hold e n d)
    form_parts_hold at (n_plus e) n d = (whole (net_expr (n_plus e) at) n d, parts_hold e n d)
    form_parts_hold at (n_not e) n d = parts_hold e n d
    form_parts_hold at (n_abs e) n d = (whole (net_expr (n_abs e) at) n d, parts_hold e n d)
    form_parts_hold at (n_min a b) n d = (whole (net_expr (n_min a b) at) n d, pair_holds a b (parts_hold a) (parts_hold b) n d)
    form_parts_hold at (n_max a b) n d = (whole (net_expr (n_max a b) at) n d, pair_holds a b (parts_hold a) (parts_hold b) n d)
    form_parts_hold at (n_sum e es) n d =
        let ns = both-pass (alg_passes p) (names_in e) (term_names es) n in
        let ds = both-pass (part_divides g) (parts e) (sum_parts at e no_net_terms es) d in
        all-append PartLies (parts e) _ (parts_hold e ns.0 ds.0) (sum_parts_hold at e no_net_terms es ns.1 ds.1 (whole e ns.0 ds.0))
    form_parts_hold at (n_product e es) n d =
        let ns = both-pass (alg_passes p) (names_in e) (factor_names es) n in
        let ds = both-pass (part_divides g) (parts e) (product_parts at e no_net_factors es) d in
        all-append PartLies (parts e) _ (parts_hold e ns.0 ds.0) (product_parts_hold at e no_net_factors es ns.1 ds.1 (whole e ns.0 ds.0))
    form_parts_hold at (n_compare a op b) n d = pair_holds a b (parts_hold a) (parts_hold b) n d
    form_parts_hold at (n_and es) n d = list_parts_hold es n d
    form_parts_hold at (n_or es) n d = list_parts_hold es n d
    form_parts_hold at (n_implies a b) n d = pair_holds a b (parts_hold a) (parts_hold b) n d
    form_parts_hold at (n_iff a b) n d = pair_holds a b (parts_hold a) (parts_hold b) n d
    form_parts_hold at (n_if bs e) n d =
        let ns = both-pass (alg_passes p) (branch_names bs) (names_in e) n in
        let ds = both-pass (part_divides g) (branch_parts bs) (parts e) d in
        (whole (net_expr (n_if bs e) at) n d, all-append PartLies (branch_parts bs) _ (branch_parts_hold bs ns.0 ds.0) (parts_hold e ns.1 ds.1))

    list_parts_hold : (es : NetExprs) → list_all (alg_passes p) (list_names es) ≡ true → list_all (part_divides g) (list_parts es) ≡ true → AllByRecursion PartLies (list_parts es)
    list_parts_hold no_net_exprs n d = tt
    list_parts_hold (net_exprs e es) n d =
        let ns = both-pass (alg_passes p) (names_in e) (list_names es) n in
        let ds = both-pass (part_divides g) (parts e) (list_parts es) d in
        all-append PartLies (parts e) _ (parts_hold e ns.0 ds.0) (list_parts_hold es ns.1 ds.1)

    branch_parts_hold : (bs : NetBranches) → list_all (alg_passes p) (branch_names bs) ≡ true → list_all (part_divides g) (branch_parts bs) ≡ true → AllByRecursion PartLies (branch_parts bs)
    branch_parts_hold no_net_branches n d = tt
    branch_parts_hold (net_branches c e bs) n d =
        let ns = both-pass (alg_passes p) (names_in c) (names_in e ++ branch_names bs) n in
        let ds = both-pass (part_divides g) (parts c) (parts e ++ branch_parts bs) d in
        let ns' = both-pass (alg_passes p) (names_in e) (branch_names bs) ns.1 in
        let ds' = both-pass (part_divides g) (parts e) (branch_parts bs) ds.1 in
        all-append PartLies (parts c) _ (parts_hold c ns.0 ds.0) (all-append PartLies (parts e) _ (parts_hold e ns'.0 ds'.0) (branch_parts_hold bs ns'.1 ds'.1))

    sum_parts_hold : (at : ℕ) (first : NetExpr) (before es : NetTerms) → list_all (alg_passes p) (term_names es) ≡ true → list_all (part_divides g) (sum_parts at first before es) ≡ true
        → Lies (sum_range g (range_of g first) before) (net_sum alg s r (net_value alg s r first) before) → AllByRecursion PartLies (sum_parts at first before es)
    sum_parts_hold at first before no_net_terms n d h = tt
    sum_parts_hold at first before (net_terms m e es) n d h =
        let ns = both-pass (alg_passes p) (names_in e) (term_names es) n in
        let ds = both-pass (part_divides g) (parts e) (sum_parts at first (add_term before m e) es) d in
        let more : Lies (sum_range g (range_of g first) (add_term before m e)) (net_sum alg s r (net_value alg s r first) (add_term before m e)) =
        subst (λ a. Lies a (net_sum alg s r (net_value alg s r first) (add_term before m e))) (sum_range-more g (range_of g first) before m e)
        (subst (λ z. Lies (add_ranges m (sum_range g (range_of g first) before) (range_of g e)) z) (net_sum-more alg s r (net_value alg s r first) before m e)
        (add-holds m (sum_range g (range_of g first) before) (range_of g e) (net_sum alg s r (net_value alg s r first) before) (net_value alg s r e) h (whole e ns.0 ds.0))) in
        (more, all-append PartLies (parts e) _ (parts_hold e ns.0 ds.0) (sum_parts_hold at first (add_term before m e) es ns.1 ds.1 more))

    product_parts_hold : (at : ℕ) (first : NetExpr) (before es : NetFactors) → list_all (alg_passes p) (factor_names es) ≡ true → list_all (part_divides g) (product_parts at first before es) ≡ true
        → Lies (product_range g (range_of g first) before) (net_product alg s r (net_value alg s r first) before) → AllByRecursion PartLies (product_parts at first before es)
    product_parts_hold at first before no_net_factors n d h = tt
    product_parts_hold at first before (net_factors op e es) n d h =
        let ns = both-pass (alg_passes p) (names_in e) (factor_names es) n in
        let ds = both-pass (part_divides g) (parts e) (product_parts at first (add_factor before op e) es) (and-right _ _ d) in
        let more : Lies (product_range g (range_of g first) (add_factor before op e)) (net_product alg s r (net_value alg s r first) (add_factor before op e)) =
        subst (λ a. Lies a (net_product alg s r (net_value alg s r first) (add_factor before op e))) (product_range-more g (range_of g first) before op e)
        (subst (λ z. Lies (mul_ranges op (product_range g (range_of g first) before) (range_of g e)) z) (net_product-more alg s r (net_value alg s r first) before op e)
        (multiply-holds op (product_range g (range_of g first) before) (range_of g e) (net_product alg s r (net_value alg s r first) before) (net_value alg s r e) (last-divides g before op e (and-left _ _ d)) h (whole e ns.0 ds.0))) in
        (more, all-append PartLies (parts e) _ (parts_hold e ns.0 ds.0) (product_parts_hold at first (add_factor before op e) es ns.1 ds.1 more))
