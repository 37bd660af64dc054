-- A definition of an algebraic variable of a net names algebraic variables that are there, and nothing that is received.
use Rattle.std.proofs.Common.{◌≡◌, ℕ, zero, suc, ◌<◌, ◌≤◌, ◌^◌, Bool, true, false, ◌&&◌, ◌||◌, nat_eq, nat_lt, nat_le, List, [], ◌∷◌, ◌++◌, length, slice_get, Option, Some, None, refl, if◌then◌else◌, arith}
use Rattle.std.specs.Prelude.{flat_map}
use Rattle.std.specs.List.{list_all, list_any}
use Rattle.std.proofs.lemmas.Bool.Decides.{nat_tests}
use Rattle.cif_system.specs.Words.{Member}
use Rattle.cif_system.proofs.Distinct.{member-flat_map}
use Rattle.cif_system.proofs.Picks.{at-member}
use Rattle.cif_net_expr.specs.Tree.{NetExpr, net_expr, NetForm, n_truth, n_number, n_loc, n_var, n_input, n_alg, n_received, n_minus, n_plus, n_not, n_abs, n_min, n_max, n_sum, n_product, n_compare, n_and, n_or, n_implies, n_iff, n_if, NetExprs, no_net_exprs, net_exprs, NetTerms, no_net_terms, net_terms, NetFactors, no_net_factors, net_factors, NetBranches, no_net_branches, net_branches}
use Rattle.cif_net_model.specs.Net.{AlgValue, one_value, by_loc, NetAlg, Net}
use Rattle.cif_net_model.specs.Exprs.{alg_exprs}
use Rattle.cif_net_model.specs.Kinds.{Kind, bool_kind, int_kind, kind_of, is_equality, places_of, alg_fits, kinds_in, fits, form_fits, terms_fit, factors_fit, all_fit, branches_fit}
use Rattle.cif_net_model.specs.Facts.{alg_stands, things, is_net}
use Rattle.cif_net_model.specs.Reads.{Read, an_alg, the_received, names_in, form_names, term_names, factor_names, list_names, branch_names}
use Rattle.cif_net_model.specs.Rules.{Needs}
use Rattle.cif_net_model.proofs.Passing.{and-left, and-right, all-member}
use Rattle.cif_net_model.proofs.PlainLaws.{never}
use Rattle.cif_alg_measure.proofs.Says.{and-both, pass-both}

some-any : {A : Type 0} (p : A → Bool) (xs : List A) → list_any p xs ≡ true → (x : A) × (p x ≡ true)
some-any p [] h = never h
some-any {A = A} p (x ∷ xs) h =
    elim (p x) as (λ b. p x ≡ b → (b || list_any p xs) ≡ true → (y : A) × (p y ≡ true)) [
      | true ↦ λ e k. (x, e)
      | false ↦ λ e k. some-any p xs k
    ] refl h

below : {A : Type 0} (xs : List A) (k : ℕ) (x : A) → slice_get xs k ≡ Some x → k < length xs
below [] k x h = absurd cc
below (y ∷ xs) zero x h = omega arith
below (y ∷ xs) (suc k) x h = omega (arith, below xs k x h)

le-told : (a b : ℕ) → nat_le a b ≡ true → a ≤ b
le-told a b h = grind (arith, nat_tests)

module _ (n : Net) where
  -- an algebraic variable is there, and nothing is received
  abbrev pub stands : Read → Bool
  stands (an_alg k) = nat_lt k (length n.algs)
  stands the_received = false
  stands r = true

  abbrev Stand : List Read → Type 0
  Stand rs = list_all stands rs ≡ true

  two : (rs qs : List Read) → Stand rs → Stand qs → Stand (rs ++ qs)
  two rs qs h k = pass-both stands rs qs h k

  alg-there : (k : Kind) (v : ℕ) → alg_fits k (slice_get n.algs v) ≡ true → nat_lt v (length n.algs) ≡ true
  alg-there k v h = by (slice_get n.algs v) refl h
    where
      by : (o : Option NetAlg) → slice_get n.algs v ≡ o → alg_fits k o ≡ true → nat_lt v (length n.algs) ≡ true
      by None e t = never t
      by (Some a) e t = let l = below n.algs v a e in grind (arith, nat_tests)

  -- operands of a comparison have some kind
  operands : (t : Bool) (a b : NetExpr) → (if t then list_any (λ q. fits n None q a && fits n None q b) (kinds_in n) else fits n None int_kind a && fits n None int_kind b) ≡ true → (q : Kind) × (fits n None q a ≡ true) × (fits n None q b ≡ true)
  operands true a b h = let s : (q : Kind) × ((fits n None q a && fits n None q b) ≡ true) = some-any (λ q. fits n None q a && fits n None q b) (kinds_in n) h in (s.0, and-left _ _ s.1, and-right _ _ s.1)
  operands false a b h = (int_kind, and-left _ _ h, and-right _ _ h)

  mutual
    expr-stands : (e : NetExpr) (k : Kind) → fits n None k e ≡ true → Stand (names_in e)
    expr-stands (net_expr f at) k h = form-stands f k h

    form-stands : (f : NetForm) (k : Kind) → form_fits n None k f ≡ true → Stand (form_names f)
    form-stands (n_truth b) k h = refl
    form-stands (n_number z) k h = refl
    form-stands (n_loc a p) k h = refl
    form-stands (n_var v) k h = refl
    form-stands (n_input v) k h = refl
    form-stands (n_alg v) k h = and-both _ _ (alg-there k v h) refl
    form-stands n_received k h = never h
    form-stands (n_minus e) k h = expr-stands e int_kind (and-right _ _ h)
    form-stands (n_plus e) k h = expr-stands e int_kind (and-right _ _ h)
    form-stands (n_not e) k h = expr-stands e bool_kind (and-right _ _ h)
    form-stands (n_abs e) k h = expr-stands e int_kind (and-right _ _ h)
    form-stands (n_min a b) k h = two (names_in a) (names_in b) (expr-stands a int_kind (and-right _ _ (and-left _ _ h))) (expr-stands b int_kind (and-right _ _ h))
    form-stands (n_max a b) k h = two (names_in a) (names_in b) (expr-stands a int_kind (and-right _ _ (and-left _ _ h))) (expr-stands b int_kind (and-right _ _ h))
    form-stands (n_sum e es) k h = two (names_in e) (term_names es) (expr-stands e int_kind (and-right _ _ (and-left _ _ h))) (terms-stand es (and-right _ _ h))
    form-stands (n_product e es) k h = two (names_in e) (factor_names es) (expr-stands e int_kind (and-right _ _ (and-left _ _ h))) (factors-stand es (and-right _ _ h))
    form-stands (n_compare a op b) k h =
        let s : (q : Kind) × (fits n None q a ≡ true) × (fits n None q b ≡ true) = operands (is_equality op) a b (and-right _ _ h) in
        two (names_in a) (names_in b) (expr-stands a s.0 s.1) (expr-stands b s.0 s.2)
    form-stands (n_and es) k h = list-stands es (and-right _ _ h)
    form-stands (n_or es) k h = list-stands es (and-right _ _ h)
    form-stands (n_implies a b) k h = two (names_in a) (names_in b) (expr-stands a bool_kind (and-right _ _ (and-left _ _ h))) (expr-stands b bool_kind (and-right _ _ h))
    form-stands (n_iff a b) k h = two (names_in a) (names_in b) (expr-stands a bool_kind (and-right _ _ (and-left _ _ h))) (expr-stands b bool_kind (and-right _ _ h))
    form-stands (n_if bs e) k h = two (branch_names bs) (names_in e) (branches-stand bs k (and-left _ _ h)) (expr-stands e k (and-right _ _ h))

    terms-stand : (es : NetTerms) → terms_fit n None es ≡ true → Stand (term_names es)
    terms-stand no_net_terms h = refl
    terms-stand (net_terms m e es) h = two (names_in e) (term_names es) (expr-stands e int_kind (and-left _ _ h)) (terms-stand es (and-right _ _ h))

    factors-stand : (es : NetFactors) → factors_fit n None es ≡ true → Stand (factor_names es)
    factors-stand no_net_factors h = refl
    factors-stand (net_factors op e es) h = two (names_in e) (factor_names es) (expr-stands e int_kind (and-left _ _ h)) (factors-stand es (and-right _ _ h))

    list-stands : (es : NetExprs) → all_fit n None es ≡ true → Stand (list_names es)
    list-stands no_net_exprs h = refl
    list-stands (net_exprs e es) h = two (names_in e) (list_names es) (expr-stands e bool_kind (and-left _ _ h)) (list-stands es (and-right _ _ h))

    branches-stand : (bs : NetBranches) (k : Kind) → branches_fit n None k bs ≡ true → Stand (branch_names bs)
    branches-stand no_net_branches k h = refl
    branches-stand (net_branches c e bs) k h =
        two (names_in c) (names_in e ++ branch_names bs) (expr-stands c bool_kind (and-left _ _ (and-left _ _ h)))
        (two (names_in e) (branch_names bs) (expr-stands e k (and-right _ _ (and-left _ _ h))) (branches-stand bs k (and-right _ _ h)))

  -- ---- definitions

  value-stands : (k : Kind) (v : AlgValue) (e : NetExpr)
      → elim v [ one_value x ↦ fits n None k x | by_loc a es ↦ nat_lt a (length n.autos) && nat_eq (length es) (places_of (slice_get n.autos a)) && list_all (fits n None k) es ] ≡ true
      → Member e (elim v [ one_value x ↦ x ∷ [] | by_loc a es ↦ es ]) → Stand (names_in e)
  value-stands k (one_value x) e h m = expr-stands e k (all-member (fits n None k) (x ∷ []) e (and-both _ _ h refl) m)
  value-stands k (by_loc a es) e h m = expr-stands e k (all-member (fits n None k) es e (and-right _ _ h) m)

  module _ (net : is_net n ≡ true) where
    algs-stand : list_all (alg_stands n) n.algs ≡ true
    algs-stand = and-right _ _ (and-left _ _ (and-left _ _ (and-left _ _ net)))

    -- what a definition names
    pub names-stand : (a : NetAlg) → Member a n.algs → (r : Read) → Member r (flat_map names_in (alg_exprs a)) → stands r ≡ true
    names-stand a i r m =
        let f = member-flat_map names_in r (alg_exprs a) m in
        all-member stands (names_in f.0) r (value-stands (kind_of a.type_of a.literals) a.value f.0 (and-right _ _ (all-member (alg_stands n) n.algs a algs-stand i)) f.1) f.2

    pub needs-below : (j k : ℕ) → Needs n j k → k < length n.algs
    needs-below j k w = let t : nat_lt k (length n.algs) ≡ true = names-stand w.0 (at-member n.algs j w.0 w.1) (an_alg k) w.2 in grind (arith, nat_tests)

    -- there are few of them
    pub algs-few : length n.algs < 2 ^ 32
    algs-few = let l : things n ≤ 100000 = le-told (things n) 100000 (and-left _ _ (and-left _ _ (and-left _ _ (and-left _ _ (and-left _ _ (and-left _ _ (and-left _ _ (and-left _ _ net)))))))) in omega arith
