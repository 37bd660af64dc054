-- An expression that stands where nothing is received stands also where something is, and its intervals stay the same.
use Rattle.std.proofs.Common.{◌≡◌, Bool, true, false, ◌&&◌, ◌||◌, List, [], ◌∷◌, ◌++◌, Option, None, refl, ◌∙◌, ap, if◌then◌else◌}
use Rattle.std.specs.List.{list_any, AllByRecursion}
use Rattle.cif_base.specs.declared.types.Ty.{Ty}
use Rattle.cif_net_expr.specs.Tree.{NetExpr, net_expr, NetForm, n_truth, n_number, n_loc, n_var, n_input, n_alg, n_received, n_minus, n_plus, n_not, n_abs, n_min, n_max, n_sum, n_product, n_compare, n_and, n_or, n_implies, n_iff, n_if, NetExprs, no_net_exprs, net_exprs, NetTerms, no_net_terms, net_terms, NetFactors, no_net_factors, net_factors, NetBranches, no_net_branches, net_branches}
use Rattle.cif_net_model.specs.Net.{Net}
use Rattle.cif_net_model.specs.Kinds.{Kind, bool_kind, int_kind, is_equality, kinds_in, fits, form_fits, all_fit, terms_fit, factors_fit, branches_fit}
use Rattle.cif_net_model.specs.Reads.{Read, the_received, names_in, form_names, term_names, factor_names, list_names, branch_names}
use Rattle.cif_net_model.proofs.Passing.{and-left, and-right}
use Rattle.cif_net_model.proofs.PartLaws.{all-append}
use Rattle.cif_net_model.proofs.PlainLaws.{never}

pub and-true : {a b : Bool} → a ≡ true → b ≡ true → (a && b) ≡ true
and-true {b = b} x y = ap (λ c. c && b) x ∙ y

any-more : {A : Type 0} (p q : A → Bool) → ((x : A) → p x ≡ true → q x ≡ true) → (xs : List A) → list_any p xs ≡ true → list_any q xs ≡ true
any-more p q f [] h = never h
any-more p q f (x ∷ xs) h = by (p x) (f x) (any-more p q f xs) h
  where
    by : (b : Bool) → (b ≡ true → q x ≡ true) → (list_any p xs ≡ true → list_any q xs ≡ true) → (b || list_any p xs) ≡ true → (q x || list_any q xs) ≡ true
    by true g r h = ap (λ c. c || list_any q xs) (g refl)
    by false g r h = right (q x) (r h)
      where
        right : (c : Bool) → list_any q xs ≡ true → (c || list_any q xs) ≡ true
        right true k = refl
        right false k = k

-- ---- kinds

module _ (n : Net) (r : Option Ty) where
  mutual
    pub fits-any : (k : Kind) (e : NetExpr) → fits n None k e ≡ true → fits n r k e ≡ true
    fits-any k (net_expr f at) h = form-any k f h

    form-any : (k : Kind) (f : NetForm) → form_fits n None k f ≡ true → form_fits n r k f ≡ true
    form-any k (n_truth b) h = h
    form-any k (n_number z) h = h
    form-any k (n_loc a p) h = h
    form-any k (n_var v) h = h
    form-any k (n_input v) h = h
    form-any k (n_alg v) h = h
    form-any k n_received h = never h
    form-any k (n_minus e) h = and-true (and-left _ _ h) (fits-any int_kind e (and-right _ _ h))
    form-any k (n_plus e) h = and-true (and-left _ _ h) (fits-any int_kind e (and-right _ _ h))
    form-any k (n_not e) h = and-true (and-left _ _ h) (fits-any bool_kind e (and-right _ _ h))
    form-any k (n_abs e) h = and-true (and-left _ _ h) (fits-any int_kind e (and-right _ _ h))
    form-any k (n_min a b) h = let g = and-left _ _ h in and-true (and-true (and-left _ _ g) (fits-any int_kind a (and-right _ _ g))) (fits-any int_kind b (and-right _ _ h))
    form-any k (n_max a b) h = let g = and-left _ _ h in and-true (and-true (and-left _ _ g) (fits-any int_kind a (and-right _ _ g))) (fits-any int_kind b (and-right _ _ h))
    form-any k (n_sum e es) h = let g = and-left _ _ h in and-true (and-true (and-left _ _ g) (fits-any int_kind e (and-right _ _ g))) (terms-any es (and-right _ _ h))
    form-any k (n_product e es) h = let g = and-left _ _ h in and-true (and-true (and-left _ _ g) (fits-any int_kind e (and-right _ _ g))) (factors-any es (and-right _ _ h))
    form-any k (n_compare a op b) h =
        and-true (and-left _ _ h)
        (compared (is_equality op)
        (λ q g. and-true (fits-any q a (and-left _ _ g)) (fits-any q b (and-right _ _ g)))
        (λ g. and-true (fits-any int_kind a (and-left _ _ g)) (fits-any int_kind b (and-right _ _ g)))
        (and-right _ _ h))
      where
        compared : (t : Bool) → ((q : Kind) → (fits n None q a && fits n None q b) ≡ true → (fits n r q a && fits n r q b) ≡ true) → ((fits n None int_kind a && fits n None int_kind b) ≡ true → (fits n r int_kind a && fits n r int_kind b) ≡ true)
            → (if t then list_any (λ q. fits n None q a && fits n None q b) (kinds_in n) else fits n None int_kind a && fits n None int_kind b) ≡ true
            → (if t then list_any (λ q. fits n r q a && fits n r q b) (kinds_in n) else fits n r int_kind a && fits n r int_kind b) ≡ true
        compared true f g h = any-more (λ q. fits n None q a && fits n None q b) (λ q. fits n r q a && fits n r q b) f (kinds_in n) h
        compared false f g h = g h
    form-any k (n_and es) h = and-true (and-left _ _ h) (all-any es (and-right _ _ h))
    form-any k (n_or es) h = and-true (and-left _ _ h) (all-any es (and-right _ _ h))
    form-any k (n_implies a b) h = let g = and-left _ _ h in and-true (and-true (and-left _ _ g) (fits-any bool_kind a (and-right _ _ g))) (fits-any bool_kind b (and-right _ _ h))
    form-any k (n_iff a b) h = let g = and-left _ _ h in and-true (and-true (and-left _ _ g) (fits-any bool_kind a (and-right _ _ g))) (fits-any bool_kind b (and-right _ _ h))
    form-any k (n_if bs e) h = and-true (branches-any k bs (and-left _ _ h)) (fits-any k e (and-right _ _ h))

    terms-any : (es : NetTerms) → terms_fit n None es ≡ true → terms_fit n r es ≡ true
    terms-any no_net_terms h = refl
    terms-any (net_terms m e es) h = and-true (fits-any int_kind e (and-left _ _ h)) (terms-any es (and-right _ _ h))

    factors-any : (es : NetFactors) → factors_fit n None es ≡ true → factors_fit n r es ≡ true
    factors-any no_net_factors h = refl
    factors-any (net_factors op e es) h = and-true (fits-any int_kind e (and-left _ _ h)) (factors-any es (and-right _ _ h))

    all-any : (es : NetExprs) → all_fit n None es ≡ true → all_fit n r es ≡ true
    all-any no_net_exprs h = refl
    all-any (net_exprs e es) h = and-true (fits-any bool_kind e (and-left _ _ h)) (all-any es (and-right _ _ h))

    branches-any : (k : Kind) (bs : NetBranches) → branches_fit n None k bs ≡ true → branches_fit n r k bs ≡ true
    branches-any k no_net_branches h = refl
    branches-any k (net_branches c e bs) h =
        let g = and-left _ _ h in
        and-true (and-true (fits-any bool_kind c (and-left _ _ g)) (fits-any k e (and-right _ _ g))) (branches-any k bs (and-right _ _ h))

-- ---- what is read

abbrev pub Unreceived : Read → Type 0
Unreceived the_received = ⊥
Unreceived x = Unit {0}

module _ (n : Net) where
  some-kind : (p : Kind → Bool) (xs : List Kind) (A : Type 0) → ((k : Kind) → p k ≡ true → A) → list_any p xs ≡ true → A
  some-kind p [] A f h = never h
  some-kind p (k ∷ ks) A f h = by (p k) (f k) (some-kind p ks A f) h
    where
      by : (b : Bool) → (b ≡ true → A) → (list_any p ks ≡ true → A) → (b || list_any p ks) ≡ true → A
      by true g r h = g refl
      by false g r h = r h

  mutual
    pub unreceived : (k : Kind) (e : NetExpr) → fits n None k e ≡ true → AllByRecursion Unreceived (names_in e)
    unreceived k (net_expr f at) h = form-unreceived k f h

    form-unreceived : (k : Kind) (f : NetForm) → form_fits n None k f ≡ true → AllByRecursion Unreceived (form_names f)
    form-unreceived k (n_truth b) h = tt
    form-unreceived k (n_number z) h = tt
    form-unreceived k (n_loc a p) h = (tt, tt)
    form-unreceived k (n_var v) h = (tt, tt)
    form-unreceived k (n_input v) h = (tt, tt)
    form-unreceived k (n_alg v) h = (tt, tt)
    form-unreceived k n_received h = never h
    form-unreceived k (n_minus e) h = unreceived int_kind e (and-right _ _ h)
    form-unreceived k (n_plus e) h = unreceived int_kind e (and-right _ _ h)
    form-unreceived k (n_not e) h = unreceived bool_kind e (and-right _ _ h)
    form-unreceived k (n_abs e) h = unreceived int_kind e (and-right _ _ h)
    form-unreceived k (n_min a b) h = all-append Unreceived (names_in a) (names_in b) (unreceived int_kind a (and-right _ _ (and-left _ _ h))) (unreceived int_kind b (and-right _ _ h))
    form-unreceived k (n_max a b) h = all-append Unreceived (names_in a) (names_in b) (unreceived int_kind a (and-right _ _ (and-left _ _ h))) (unreceived int_kind b (and-right _ _ h))
    form-unreceived k (n_sum e es) h = all-append Unreceived (names_in e) (term_names es) (unreceived int_kind e (and-right _ _ (and-left _ _ h))) (terms-unreceived es (and-right _ _ h))
    form-unreceived k (n_product e es) h = all-append Unreceived (names_in e) (factor_names es) (unreceived int_kind e (and-right _ _ (and-left _ _ h))) (factors-unreceived es (and-right _ _ h))
    form-unreceived k (n_compare a op b) h = by (is_equality op) (λ q g. all-append Unreceived (names_in a) (names_in b) (unreceived q a (and-left _ _ g)) (unreceived q b (and-right _ _ g))) (and-right _ _ h)
      where
        by : (t : Bool) → ((q : Kind) → (fits n None q a && fits n None q b) ≡ true → AllByRecursion Unreceived (names_in a ++ names_in b))
            → (if t then list_any (λ q. fits n None q a && fits n None q b) (kinds_in n) else fits n None int_kind a && fits n None int_kind b) ≡ true → AllByRecursion Unreceived (names_in a ++ names_in b)
        by true f h = some-kind (λ q. fits n None q a && fits n None q b) (kinds_in n) (AllByRecursion Unreceived (names_in a ++ names_in b)) f h
        by false f h = f int_kind h
    form-unreceived k (n_and es) h = list-unreceived es (and-right _ _ h)
    form-unreceived k (n_or es) h = list-unreceived es (and-right _ _ h)
    form-unreceived k (n_implies a b) h = all-append Unreceived (names_in a) (names_in b) (unreceived bool_kind a (and-right _ _ (and-left _ _ h))) (unreceived bool_kind b (and-right _ _ h))
    form-unreceived k (n_iff a b) h = all-append Unreceived (names_in a) (names_in b) (unreceived bool_kind a (and-right _ _ (and-left _ _ h))) (unreceived bool_kind b (and-right _ _ h))
    form-unreceived k (n_if bs e) h = all-append Unreceived (branch_names bs) (names_in e) (branches-unreceived k bs (and-left _ _ h)) (unreceived k e (and-right _ _ h))

    terms-unreceived : (es : NetTerms) → terms_fit n None es ≡ true → AllByRecursion Unreceived (term_names es)
    terms-unreceived no_net_terms h = tt
    terms-unreceived (net_terms m e es) h = all-append Unreceived (names_in e) (term_names es) (unreceived int_kind e (and-left _ _ h)) (terms-unreceived es (and-right _ _ h))

    factors-unreceived : (es : NetFactors) → factors_fit n None es ≡ true → AllByRecursion Unreceived (factor_names es)
    factors-unreceived no_net_factors h = tt
    factors-unreceived (net_factors op e es) h = all-append Unreceived (names_in e) (factor_names es) (unreceived int_kind e (and-left _ _ h)) (factors-unreceived es (and-right _ _ h))

    list-unreceived : (es : NetExprs) → all_fit n None es ≡ true → AllByRecursion Unreceived (list_names es)
    list-unreceived no_net_exprs h = tt
    list-unreceived (net_exprs e es) h = all-append Unreceived (names_in e) (list_names es) (unreceived bool_kind e (and-left _ _ h)) (list-unreceived es (and-right _ _ h))

    branches-unreceived : (k : Kind) (bs : NetBranches) → branches_fit n None k bs ≡ true → AllByRecursion Unreceived (branch_names bs)
    branches-unreceived k no_net_branches h = tt
    branches-unreceived k (net_branches c e bs) h =
        let g = and-left _ _ h in
        all-append Unreceived (names_in c) (names_in e ++ branch_names bs) (unreceived bool_kind c (and-left _ _ g))
        (all-append Unreceived (names_in e) (branch_names bs) (unreceived k e (and-right _ _ g)) (branches-unreceived k bs (and-right _ _ h)))
