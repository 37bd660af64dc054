-- The text of an expression, and the statements before it, under ap₂ ways of naming that name alike what it names.
use Rattle.std.proofs.Common.{◌≡◌, ℕ, ◌+◌, true, List, [], ◌∷◌, ◌++◌, refl, ap, ap₂, ◌∙◌}
use Rattle.std.specs.List.{AllByRecursion}
use Rattle.grammar.specs.Pieces.{Text}
use Rattle.cif_net_expr.specs.Tree.{NetExpr, net_expr, NetForm, n_truth, n_number, n_loc, n_var, n_input, n_alg, n_received, n_minus, n_plus, n_not, n_abs, n_min, n_max, n_sum, n_product, n_compare, n_and, n_or, n_implies, n_iff, n_if, NetExprs, no_net_exprs, net_exprs, NetTerms, no_net_terms, net_terms, NetFactors, no_net_factors, net_factors, NetBranches, no_net_branches, net_branches}
use Rattle.cif_net_model.specs.Reads.{Read, names_in, form_names, term_names, factor_names, list_names, branch_names}
use Rattle.st_ast.specs.Tree.{absolute, equal, factors, greatest, least, named, negation, terms, append, assign, branches, no_stms, stms}
use Rattle.plc_expr.specs.Texts.{Naming, before, form_before, terms_before, factors_before, list_before, branches_before, text, form_text, terms_text, factors_text, texts, branches_text, branches_temps, temps, negated, factor, term, side, sum_text, product_text, comparison, conjunction, disjunction, all_said, all_said_or, implication, case_text, mul_of}
use Rattle.plc_expr_walk.specs.Alike.{IsAlike}

pub both : {A : Type 0} (P : A → Type 0) (xs ys : List A) → AllByRecursion P (xs ++ ys) → AllByRecursion P xs × AllByRecursion P ys
both P [] ys h = (tt, h)
both P (x ∷ xs) ys h = let t = both P xs ys h.1 in ((h.0, t.0), t.1)

module _ (w v : Naming) (own : (k : ℕ) → w.own k ≡ v.own k) where
  abbrev All : List Read → Type 0
  All qs = AllByRecursion (IsAlike w v) qs

  mutual
    pub same-text : (k : ℕ) (e : NetExpr) → All (names_in e) → text w k e ≡ text v k e
    same-text k (net_expr f at) h = form-same k f h

    form-same : (k : ℕ) (f : NetForm) → All (form_names f) → form_text w k f ≡ form_text v k f
    form-same k (n_truth b) h = refl
    form-same k (n_number z) h = refl
    form-same k (n_loc a p) h = h.0 p
    form-same k (n_var x) h = ap named h.0
    form-same k (n_input x) h = ap named h.0
    form-same k (n_alg x) h = refl
    form-same k n_received h = ap named h.0
    form-same k (n_minus e) h = ap (λ x. negation (factor x)) (same-text k e h)
    form-same k (n_plus e) h = same-text k e h
    form-same k (n_not e) h = ap negated (same-text k e h)
    form-same k (n_abs e) h = ap absolute (same-text k e h)
    form-same k (n_min a b) h = let t = both (IsAlike w v) (names_in a) (names_in b) h in ap₂ least (same-text k a t.0) (same-text (k + temps a) b t.1)
    form-same k (n_max a b) h = let t = both (IsAlike w v) (names_in a) (names_in b) h in ap₂ greatest (same-text k a t.0) (same-text (k + temps a) b t.1)
    form-same k (n_sum e es) h = let t = both (IsAlike w v) (names_in e) (term_names es) h in ap₂ sum_text (same-text k e t.0) (terms-same (k + temps e) es t.1)
    form-same k (n_product e es) h = let t = both (IsAlike w v) (names_in e) (factor_names es) h in ap₂ product_text (same-text k e t.0) (factors-same (k + temps e) es t.1)
    form-same k (n_compare a op b) h = let t = both (IsAlike w v) (names_in a) (names_in b) h in ap₂ (comparison op) (same-text k a t.0) (same-text (k + temps a) b t.1)
    form-same k (n_and es) h = ap (λ xs. conjunction (all_said xs)) (list-same k es h)
    form-same k (n_or es) h = ap (λ xs. disjunction (all_said_or xs)) (list-same k es h)
    form-same k (n_implies a b) h = let t = both (IsAlike w v) (names_in a) (names_in b) h in ap₂ implication (same-text k a t.0) (same-text (k + temps a) b t.1)
    form-same k (n_iff a b) h = let t = both (IsAlike w v) (names_in a) (names_in b) h in ap₂ (λ x y. equal (side x) true (side y)) (same-text k a t.0) (same-text (k + temps a) b t.1)
    form-same k (n_if bs e) h = ap named (own k)

    terms-same : (k : ℕ) (es : NetTerms) → All (term_names es) → terms_text w k es ≡ terms_text v k es
    terms-same k no_net_terms h = refl
    terms-same k (net_terms m e es) h =
        let t = both (IsAlike w v) (names_in e) (term_names es) h in ap₂ (λ x ys. terms m (term x) ys) (same-text k e t.0) (terms-same (k + temps e) es t.1)

    factors-same : (k : ℕ) (es : NetFactors) → All (factor_names es) → factors_text w k es ≡ factors_text v k es
    factors-same k no_net_factors h = refl
    factors-same k (net_factors op e es) h =
        let t = both (IsAlike w v) (names_in e) (factor_names es) h in ap₂ (λ x ys. factors (mul_of op) (factor x) ys) (same-text k e t.0) (factors-same (k + temps e) es t.1)

    list-same : (k : ℕ) (es : NetExprs) → All (list_names es) → texts w k es ≡ texts v k es
    list-same k no_net_exprs h = refl
    list-same k (net_exprs e es) h =
        let t = both (IsAlike w v) (names_in e) (list_names es) h in ap₂ (λ x xs. x ∷ xs) (same-text k e t.0) (list-same (k + temps e) es t.1)

  branches-same : (x : Text) (k : ℕ) (bs : NetBranches) → All (branch_names bs) → branches_text w x k bs ≡ branches_text v x k bs
  branches-same x k no_net_branches h = refl
  branches-same x k (net_branches c e bs) h =
      let t = both (IsAlike w v) (names_in c) (names_in e ++ branch_names bs) h in
      let u = both (IsAlike w v) (names_in e) (branch_names bs) t.1 in
      ap₂ (λ d ys. branches d (stms (assign x (text w (k + temps c) e)) no_stms) ys) (same-text k c t.0) (branches-same x (k + temps c + temps e) bs u.1)
      ∙ ap (λ d. branches (text v k c) (stms (assign x d) no_stms) (branches_text v x (k + temps c + temps e) bs)) (same-text (k + temps c) e u.0)

  mutual
    pub same-before : (k : ℕ) (e : NetExpr) → All (names_in e) → before w k e ≡ before v k e
    same-before k (net_expr f at) h = form-before k f h

    form-before : (k : ℕ) (f : NetForm) → All (form_names f) → form_before w k f ≡ form_before v k f
    form-before k (n_truth b) h = refl
    form-before k (n_number z) h = refl
    form-before k (n_loc a p) h = refl
    form-before k (n_var x) h = refl
    form-before k (n_input x) h = refl
    form-before k (n_alg x) h = refl
    form-before k n_received h = refl
    form-before k (n_minus e) h = same-before k e h
    form-before k (n_plus e) h = same-before k e h
    form-before k (n_not e) h = same-before k e h
    form-before k (n_abs e) h = same-before k e h
    form-before k (n_min a b) h = let t = both (IsAlike w v) (names_in a) (names_in b) h in ap₂ append (same-before k a t.0) (same-before (k + temps a) b t.1)
    form-before k (n_max a b) h = let t = both (IsAlike w v) (names_in a) (names_in b) h in ap₂ append (same-before k a t.0) (same-before (k + temps a) b t.1)
    form-before k (n_sum e es) h = let t = both (IsAlike w v) (names_in e) (term_names es) h in ap₂ append (same-before k e t.0) (terms-before (k + temps e) es t.1)
    form-before k (n_product e es) h = let t = both (IsAlike w v) (names_in e) (factor_names es) h in ap₂ append (same-before k e t.0) (factors-before (k + temps e) es t.1)
    form-before k (n_compare a op b) h = let t = both (IsAlike w v) (names_in a) (names_in b) h in ap₂ append (same-before k a t.0) (same-before (k + temps a) b t.1)
    form-before k (n_and es) h = list-before k es h
    form-before k (n_or es) h = list-before k es h
    form-before k (n_implies a b) h = let t = both (IsAlike w v) (names_in a) (names_in b) h in ap₂ append (same-before k a t.0) (same-before (k + temps a) b t.1)
    form-before k (n_iff a b) h = let t = both (IsAlike w v) (names_in a) (names_in b) h in ap₂ append (same-before k a t.0) (same-before (k + temps a) b t.1)
    form-before k (n_if bs e) h =
        let t = both (IsAlike w v) (branch_names bs) (names_in e) h in
        let j = k + 1 + branches_temps bs in
        ap₂ (λ x y. append x (append y (stms (case_text (w.own k) (branches_text w (w.own k) (k + 1) bs) (text w j e)) no_stms))) (branches-before (k + 1) bs t.0) (same-before j e t.1)
        ∙ ap (λ x. append (branches_before v (k + 1) bs) (append (before v j e) (stms (case_text x (branches_text w x (k + 1) bs) (text w j e)) no_stms))) (own k)
        ∙ ap₂ (λ x y. append (branches_before v (k + 1) bs) (append (before v j e) (stms (case_text (v.own k) x y) no_stms))) (branches-same (v.own k) (k + 1) bs t.0) (same-text j e t.1)

    terms-before : (k : ℕ) (es : NetTerms) → All (term_names es) → terms_before w k es ≡ terms_before v k es
    terms-before k no_net_terms h = refl
    terms-before k (net_terms m e es) h =
        let t = both (IsAlike w v) (names_in e) (term_names es) h in ap₂ append (same-before k e t.0) (terms-before (k + temps e) es t.1)

    factors-before : (k : ℕ) (es : NetFactors) → All (factor_names es) → factors_before w k es ≡ factors_before v k es
    factors-before k no_net_factors h = refl
    factors-before k (net_factors op e es) h =
        let t = both (IsAlike w v) (names_in e) (factor_names es) h in ap₂ append (same-before k e t.0) (factors-before (k + temps e) es t.1)

    list-before : (k : ℕ) (es : NetExprs) → All (list_names es) → list_before w k es ≡ list_before v k es
    list-before k no_net_exprs h = refl
    list-before k (net_exprs e es) h =
        let t = both (IsAlike w v) (names_in e) (list_names es) h in ap₂ append (same-before k e t.0) (list-before (k + temps e) es t.1)

    branches-before : (k : ℕ) (bs : NetBranches) → All (branch_names bs) → branches_before w k bs ≡ branches_before v k bs
    branches-before k no_net_branches h = refl
    branches-before k (net_branches c e bs) h =
        let t = both (IsAlike w v) (names_in c) (names_in e ++ branch_names bs) h in
        let u = both (IsAlike w v) (names_in e) (branch_names bs) t.1 in
        ap₂ append (same-before k c t.0) (ap₂ append (same-before (k + temps c) e u.0) (branches-before (k + temps c + temps e) bs u.1))
