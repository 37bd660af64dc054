-- The value of an expression lies in its interval, and that interval inside the one over wider ranges, where what it names
-- lies in the smaller ranges and no divisor's interval over the wider ones has 0.
use Rattle.std.proofs.Common.{◌≡◌, ℕ, ℤ, pos, Bool, true, ◌++◌, slice_index_or}
use Rattle.std.specs.List.{list_all}
use Rattle.cif_system.specs.System.{Range, State}
use Rattle.cif_net_expr.specs.Tree.{NetExpr, net_expr, NetForm, n_truth, n_number, n_loc, n_var, n_input, n_alg, n_received, n_minus, n_plus, n_not, n_abs, n_min, n_max, n_sum, n_product, n_compare, n_and, n_or, n_implies, n_iff, n_if, NetTerms, no_net_terms, net_terms, NetFactors, no_net_factors, net_factors, NetBranches, no_net_branches, net_branches}
use Rattle.cif_net_model.specs.Value.{of_bool, net_value, net_form_value, net_sum, net_product, net_cases}
use Rattle.cif_net_model.specs.Interval.{truths, Ranges, range_of, form_range, sum_range, product_range, cases_range}
use Rattle.cif_net_model.specs.Reads.{alg_passes, names_in, form_names, term_names, factor_names, branch_names}
use Rattle.cif_net_model.specs.Parts.{add_term, add_factor, parts, form_parts, sum_parts, product_parts, branch_parts, part_divides}
use Rattle.cif_net_model.proofs.Orders.{Lies, point-holds, neg-holds, add-holds, joined-left, joined-right, min-holds, max-holds}
use Rattle.cif_net_model.proofs.Corners.{abs-holds, multiply-holds}
use Rattle.cif_net_model.proofs.Inside.{Inside, inside-self, neg-inside, add-inside, joined-inside, min-inside, max-inside, abs-inside, mul-inside, can-inside}
use Rattle.cif_net_model.proofs.Passing.{and-left, and-right, both-pass, bool-holds, chosen, last-divides}

-- z lies in a, and a inside b
abbrev pub Fit : Range → Range → ℤ → Type 0
Fit a b z = Lies a z × Inside a b

bool-fits : (b : Bool) → Fit truths truths (of_bool b)
bool-fits b = (bool-holds b, inside-self truths)

-- the environment fits the ranges g and h; p passes the algebraic variables that do
module _ (g h : Ranges) (alg : ℕ → ℤ) (s : State) (r : ℤ) (p : ℕ → Bool)
    (vars : (k : ℕ) → Fit (g.vars k) (h.vars k) (slice_index_or s.vals k (pos 0)))
    (inputs : (k : ℕ) → Fit (g.inputs k) (h.inputs k) (slice_index_or s.ins k (pos 0)))
    (algs : (k : ℕ) → p k ≡ true → Fit (g.algs k) (h.algs k) (alg k))
    (received : Fit g.received h.received r) where
  mutual
    pub fits : (e : NetExpr) → list_all (alg_passes p) (names_in e) ≡ true → list_all (part_divides h) (parts e) ≡ true → Fit (range_of g e) (range_of h e) (net_value alg s r e)
    fits (net_expr f at) n d = form_fits at f n d

    form_fits : (at : ℕ) (f : NetForm) → list_all (alg_passes p) (form_names f) ≡ true → list_all (part_divides h) (form_parts at f) ≡ true → Fit (form_range g f) (form_range h f) (net_form_value alg s r f)
    form_fits at (n_truth b) n d = bool-fits b
    form_fits at (n_number z) n d = (point-holds z, inside-self _)
    form_fits at (n_loc a k) n d = bool-fits _
    form_fits at (n_var k) n d = vars k
    form_fits at (n_input k) n d = inputs k
    form_fits at (n_alg k) n d = algs k (and-left _ _ n)
    form_fits at n_received n d = received
    form_fits at (n_minus e) n d = (let q = fits e n d in (neg-holds _ _ q.0, neg-inside _ _ q.1))
    form_fits at (n_plus e) n d = fits e n d
    form_fits at (n_not e) n d = bool-fits _
    form_fits at (n_abs e) n d = (let q = fits e n d in (abs-holds _ _ q.0, abs-inside _ _ _ q.0 q.1))
    form_fits at (n_min a b) n d =
        let ns = both-pass (alg_passes p) (names_in a) (names_in b) n in
        let ds = both-pass (part_divides h) (parts a) (parts b) d in
        let q = fits a ns.0 ds.0 in let t = fits b ns.1 ds.1 in (min-holds _ _ _ _ q.0 t.0, min-inside _ _ _ _ q.1 t.1)
    form_fits at (n_max a b) n d =
        let ns = both-pass (alg_passes p) (names_in a) (names_in b) n in
        let ds = both-pass (part_divides h) (parts a) (parts b) d in
        let q = fits a ns.0 ds.0 in let t = fits b ns.1 ds.1 in (max-holds _ _ _ _ q.0 t.0, max-inside _ _ _ _ q.1 t.1)
    form_fits at (n_sum e es) n d =
        let ns = both-pass (alg_passes p) (names_in e) (term_names es) n in
        let ds = both-pass (part_divides h) (parts e) (sum_parts at e no_net_terms es) d in
        sum_fits at e no_net_terms es ns.1 ds.1 _ _ _ (fits e ns.0 ds.0)
    form_fits at (n_product e es) n d =
        let ns = both-pass (alg_passes p) (names_in e) (factor_names es) n in
        let ds = both-pass (part_divides h) (parts e) (product_parts at e no_net_factors es) d in
        product_fits at e no_net_factors es ns.1 ds.1 _ _ _ (fits e ns.0 ds.0)
    form_fits at (n_compare a op b) n d = bool-fits _
    form_fits at (n_and es) n d = bool-fits _
    form_fits at (n_or es) n d = bool-fits _
    form_fits at (n_implies a b) n d = bool-fits _
    form_fits at (n_iff a b) n d = bool-fits _
    form_fits at (n_if bs e) n d =
        let ns = both-pass (alg_passes p) (branch_names bs) (names_in e) n in
        let ds = both-pass (part_divides h) (branch_parts bs) (parts e) d in
        cases_fits bs ns.0 ds.0 _ _ _ (fits e ns.1 ds.1)

    sum_fits : (at : ℕ) (first : NetExpr) (before es : NetTerms) → list_all (alg_passes p) (term_names es) ≡ true → list_all (part_divides h) (sum_parts at first before es) ≡ true
        → (a b : Range) (z : ℤ) → Fit a b z → Fit (sum_range g a es) (sum_range h b es) (net_sum alg s r z es)
    sum_fits at first before no_net_terms n d a b z i = i
    sum_fits at first before (net_terms m e es) n d a b z i =
        let ns = both-pass (alg_passes p) (names_in e) (term_names es) n in
        let ds = both-pass (part_divides h) (parts e) (sum_parts at first (add_term before m e) es) d in
        let q = fits e ns.0 ds.0 in
        sum_fits at first (add_term before m e) es ns.1 ds.1 _ _ _ (add-holds m a _ z _ i.0 q.0, add-inside m a b _ _ i.1 q.1)

    product_fits : (at : ℕ) (first : NetExpr) (before es : NetFactors) → list_all (alg_passes p) (factor_names es) ≡ true → list_all (part_divides h) (product_parts at first before es) ≡ true
        → (a b : Range) (z : ℤ) → Fit a b z → Fit (product_range g a es) (product_range h b es) (net_product alg s r z es)
    product_fits at first before no_net_factors n d a b z i = i
    product_fits at first before (net_factors op e es) n d a b z i =
        let ns = both-pass (alg_passes p) (names_in e) (factor_names es) n in
        let ds = both-pass (part_divides h) (parts e) (product_parts at first (add_factor before op e) es) (and-right _ _ d) in
        let q = fits e ns.0 ds.0 in
        let can = last-divides h before op e (and-left _ _ d) in
        product_fits at first (add_factor before op e) es ns.1 ds.1 _ _ _
        (multiply-holds op a _ z _ (can-inside op _ _ q.1 can) i.0 q.0, mul-inside op a b _ _ z _ can i.0 q.0 i.1 q.1)

    cases_fits : (bs : NetBranches) → list_all (alg_passes p) (branch_names bs) ≡ true → list_all (part_divides h) (branch_parts bs) ≡ true
        → (a b : Range) (z : ℤ) → Fit a b z → Fit (cases_range g a bs) (cases_range h b bs) (net_cases alg s r z bs)
    cases_fits no_net_branches n d a b z i = i
    cases_fits (net_branches c e bs) n d a b z i =
        let ns = both-pass (alg_passes p) (names_in c) (names_in e ++ branch_names bs) n in
        let ds = both-pass (part_divides h) (parts c) (parts e ++ branch_parts bs) d in
        let ns' = both-pass (alg_passes p) (names_in e) (branch_names bs) ns.1 in
        let ds' = both-pass (part_divides h) (parts e) (branch_parts bs) ds.1 in
        let q = fits e ns'.0 ds'.0 in
        let t = cases_fits bs ns'.1 ds'.1 a b z i in
        (chosen _ _ _ _ (joined-left _ _ _ q.0) (joined-right _ _ _ t.0), joined-inside _ _ _ _ q.1 t.1)

-- where the environment lies in the ranges
pub holds : (g : Ranges) (alg : ℕ → ℤ) (s : State) (r : ℤ) (p : ℕ → Bool) → ((k : ℕ) → Lies (g.vars k) (slice_index_or s.vals k (pos 0))) → ((k : ℕ) → Lies (g.inputs k) (slice_index_or s.ins k (pos 0)))
    → ((k : ℕ) → p k ≡ true → Lies (g.algs k) (alg k)) → Lies g.received r
    → (e : NetExpr) → list_all (alg_passes p) (names_in e) ≡ true → list_all (part_divides g) (parts e) ≡ true → Lies (range_of g e) (net_value alg s r e)
holds g alg s r p vars inputs algs received e n d =
    (fits g g alg s r p (λ k. (vars k, inside-self (g.vars k))) (λ k. (inputs k, inside-self (g.inputs k))) (λ k h. (algs k h, inside-self (g.algs k))) (received, inside-self g.received) e n d).0
