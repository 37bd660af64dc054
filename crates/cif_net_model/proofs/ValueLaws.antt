-- The value of an expression hangs on that alone which it reads.
use Rattle.std.proofs.Common.{◌≡◌, ℕ, ℤ, pos, neg_ℤ, nat_abs, nat_eq, Bool, true, false, not, ◌&&◌, ◌||◌, List, [], ◌∷◌, ◌++◌, refl, ◌∙◌, ap, slice_index_or, if◌then◌else◌}
use Rattle.std.specs.List.{list_all, AllByRecursion}
use Rattle.std.specs.Int.{int_min, int_max}
use Rattle.std.specs.Ordering.{int_eq}
use Rattle.cif_system.specs.System.{State}
use Rattle.cif_net_expr.specs.Tree.{NetExpr, net_expr, NetForm, n_truth, n_number, n_loc, n_var, n_input, n_alg, n_received, n_minus, n_plus, n_not, n_abs, n_min, n_max, n_sum, n_product, n_compare, n_and, n_or, n_implies, n_iff, n_if, NetExprs, no_net_exprs, net_exprs, NetTerms, no_net_terms, net_terms, NetFactors, no_net_factors, net_factors, NetBranches, no_net_branches, net_branches}
use Rattle.cif_net_model.specs.Value.{of_bool, is_true, compared, added, multiplied, net_value, net_form_value, net_sum, net_product, net_all, net_any, net_cases}
use Rattle.cif_net_model.specs.Reads.{Read, a_var, an_input, an_alg, a_place, the_received, alg_passes, names_no_alg, is_fixed, names_in, form_names, term_names, factor_names, list_names, branch_names}

pub all-parts : {A : Type 0} (P : A → Type 0) (xs ys : List A) → AllByRecursion P (xs ++ ys) → AllByRecursion P xs × AllByRecursion P ys
all-parts P [] ys h = (tt, h)
all-parts P (x ∷ xs) ys h = let r = all-parts P xs ys h.1 in ((h.0, r.0), r.1)

-- what values are told from
pub record Setting : Type 0 where
  pub algs : ℕ → ℤ
  pub state : State
  pub received : ℤ

-- two settings are alike at what is read
abbrev pub Alike : Setting → Setting → Read → Type 0
Alike v w (a_var k) = slice_index_or v.state.vals k (pos 0) ≡ slice_index_or w.state.vals k (pos 0)
Alike v w (an_input k) = slice_index_or v.state.ins k (pos 0) ≡ slice_index_or w.state.ins k (pos 0)
Alike v w (an_alg k) = v.algs k ≡ w.algs k
Alike v w (a_place a) = slice_index_or v.state.locs a 0 ≡ slice_index_or w.state.locs a 0
Alike v w the_received = v.received ≡ w.received

pub ap-two : {A B C : Type 0} (f : A → B → C) {a b : A} {c d : B} → a ≡ b → c ≡ d → f a c ≡ f b d
ap-two f {b = b} {c = c} p q = ap (λ x. f x c) p ∙ ap (f b) q

pub either-alike : {b c : Bool} {x y v w : ℤ} → b ≡ c → x ≡ y → v ≡ w → (if b then x else v) ≡ (if c then y else w)
either-alike {c = c} {x = x} {y = y} {v = v} p q t = ap (λ o. if o then x else v) p ∙ ap (λ o. if c then o else v) q ∙ ap (λ o. if c then y else o) t

module _ (v w : Setting) where
  mutual
    pub value-alike : (e : NetExpr) → AllByRecursion (Alike v w) (names_in e) → net_value v.algs v.state v.received e ≡ net_value w.algs w.state w.received e
    value-alike (net_expr f at) h = form-alike f h

    form-alike : (f : NetForm) → AllByRecursion (Alike v w) (form_names f) → net_form_value v.algs v.state v.received f ≡ net_form_value w.algs w.state w.received f
    form-alike (n_truth b) h = refl
    form-alike (n_number z) h = refl
    form-alike (n_loc a k) h = ap (λ z. of_bool (nat_eq z k)) h.0
    form-alike (n_var k) h = h.0
    form-alike (n_input k) h = h.0
    form-alike (n_alg k) h = h.0
    form-alike n_received h = h.0
    form-alike (n_minus e) h = ap neg_ℤ (value-alike e h)
    form-alike (n_plus e) h = value-alike e h
    form-alike (n_not e) h = ap (λ z. of_bool (not (is_true z))) (value-alike e h)
    form-alike (n_abs e) h = ap (λ z. pos (nat_abs z)) (value-alike e h)
    form-alike (n_min a b) h = let q = all-parts (Alike v w) (names_in a) (names_in b) h in ap-two int_min (value-alike a q.0) (value-alike b q.1)
    form-alike (n_max a b) h = let q = all-parts (Alike v w) (names_in a) (names_in b) h in ap-two int_max (value-alike a q.0) (value-alike b q.1)
    form-alike (n_sum e es) h = let q = all-parts (Alike v w) (names_in e) (term_names es) h in sum-alike es q.1 _ _ (value-alike e q.0)
    form-alike (n_product e es) h = let q = all-parts (Alike v w) (names_in e) (factor_names es) h in product-alike es q.1 _ _ (value-alike e q.0)
    form-alike (n_compare a op b) h = let q = all-parts (Alike v w) (names_in a) (names_in b) h in ap-two (λ y z. of_bool (compared op y z)) (value-alike a q.0) (value-alike b q.1)
    form-alike (n_and es) h = ap of_bool (all-alike es h)
    form-alike (n_or es) h = ap of_bool (any-alike es h)
    form-alike (n_implies a b) h = let q = all-parts (Alike v w) (names_in a) (names_in b) h in ap-two (λ y z. of_bool (not (is_true y) || is_true z)) (value-alike a q.0) (value-alike b q.1)
    form-alike (n_iff a b) h = let q = all-parts (Alike v w) (names_in a) (names_in b) h in ap-two (λ y z. of_bool (int_eq y z)) (value-alike a q.0) (value-alike b q.1)
    form-alike (n_if bs e) h = let q = all-parts (Alike v w) (branch_names bs) (names_in e) h in cases-alike bs q.0 _ _ (value-alike e q.1)

    sum-alike : (es : NetTerms) → AllByRecursion (Alike v w) (term_names es) → (y z : ℤ) → y ≡ z → net_sum v.algs v.state v.received y es ≡ net_sum w.algs w.state w.received z es
    sum-alike no_net_terms h y z p = p
    sum-alike (net_terms m e es) h y z p = let q = all-parts (Alike v w) (names_in e) (term_names es) h in sum-alike es q.1 _ _ (ap-two (added m) p (value-alike e q.0))

    product-alike : (es : NetFactors) → AllByRecursion (Alike v w) (factor_names es) → (y z : ℤ) → y ≡ z → net_product v.algs v.state v.received y es ≡ net_product w.algs w.state w.received z es
    product-alike no_net_factors h y z p = p
    product-alike (net_factors op e es) h y z p = let q = all-parts (Alike v w) (names_in e) (factor_names es) h in product-alike es q.1 _ _ (ap-two (multiplied op) p (value-alike e q.0))

    all-alike : (es : NetExprs) → AllByRecursion (Alike v w) (list_names es) → net_all v.algs v.state v.received es ≡ net_all w.algs w.state w.received es
    all-alike no_net_exprs h = refl
    all-alike (net_exprs e es) h = let q = all-parts (Alike v w) (names_in e) (list_names es) h in ap-two (λ z b. is_true z && b) (value-alike e q.0) (all-alike es q.1)

    any-alike : (es : NetExprs) → AllByRecursion (Alike v w) (list_names es) → net_any v.algs v.state v.received es ≡ net_any w.algs w.state w.received es
    any-alike no_net_exprs h = refl
    any-alike (net_exprs e es) h = let q = all-parts (Alike v w) (names_in e) (list_names es) h in ap-two (λ z b. is_true z || b) (value-alike e q.0) (any-alike es q.1)

    cases-alike : (bs : NetBranches) → AllByRecursion (Alike v w) (branch_names bs) → (y z : ℤ) → y ≡ z → net_cases v.algs v.state v.received y bs ≡ net_cases w.algs w.state w.received z bs
    cases-alike no_net_branches h y z p = p
    cases-alike (net_branches c e bs) h y z p =
        let q = all-parts (Alike v w) (names_in c) (names_in e ++ branch_names bs) h in
        let t = all-parts (Alike v w) (names_in e) (branch_names bs) q.1 in
        either-alike (ap is_true (value-alike c q.0)) (value-alike e t.0) (cases-alike bs t.1 y z p)

alike-where_none : (v w : Setting) → v.state ≡ w.state → v.received ≡ w.received → (xs : List Read) → list_all (alg_passes (λ k. false)) xs ≡ true → AllByRecursion (Alike v w) xs
alike-where_none v w p q [] h = tt
alike-where_none v w p q (a_var k ∷ xs) h = (ap (λ (s : State). slice_index_or s.vals k (pos 0)) p, alike-where_none v w p q xs h)
alike-where_none v w p q (an_input k ∷ xs) h = (ap (λ (s : State). slice_index_or s.ins k (pos 0)) p, alike-where_none v w p q xs h)
alike-where_none v w p q (an_alg k ∷ xs) h = absurd cc
alike-where_none v w p q (a_place k ∷ xs) h = (ap (λ (s : State). slice_index_or s.locs k 0) p, alike-where_none v w p q xs h)
alike-where_none v w p q (the_received ∷ xs) h = (q, alike-where_none v w p q xs h)

-- where no algebraic variable is named, they do not matter
pub value-alone : (alg alg' : ℕ → ℤ) (s : State) (r : ℤ) (e : NetExpr) → names_no_alg e ≡ true → net_value alg s r e ≡ net_value alg' s r e
value-alone alg alg' s r e h =
    let v : Setting = record { algs = alg; state = s; received = r } in
    let w : Setting = record { algs = alg'; state = s; received = r } in
    value-alike v w e (alike-where_none v w refl refl (names_in e) h)

-- where nothing is read, nothing matters
pub value-fixed : (v w : Setting) (e : NetExpr) → is_fixed e ≡ true → net_value v.algs v.state v.received e ≡ net_value w.algs w.state w.received e
value-fixed v w e h = value-alike v w e (none (names_in e) h)
  where
    none : (xs : List Read) → (elim xs [ [] ↦ true | _ ↦ false ]) ≡ true → AllByRecursion (Alike v w) xs
    none [] h = tt
    none (x ∷ xs) h = absurd cc
