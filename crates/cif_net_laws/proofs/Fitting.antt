-- An expression in which algebraic variables are replaced keeps its kind, where what replaces each has the kind of that.
use Rattle.std.proofs.Common.{◌≡◌, ℕ, zero, suc, Bool, true, false, ◌&&◌, List, [], ◌∷◌, ◌++◌, map, slice_get, Option, refl, ◌∙◌, ap, if◌then◌else◌}
use Rattle.std.specs.Prelude.{nat_lt, bytes_eq, flat_map}
use Rattle.std.specs.List.{list_any}
use Rattle.std.proofs.lemmas.Bool.{eqb-true}
use Rattle.cif_base.specs.declared.types.Ty.{Ty}
use Rattle.cif_net_expr.specs.Tree.{NetExpr, net_expr, NetForm, n_truth, n_number, n_loc, n_var, n_input, n_alg, n_received, n_minus, n_plus, n_not, n_abs, n_min, n_max, n_sum, n_product, n_compare, n_and, n_or, n_implies, n_iff, n_if, NetExprs, no_net_exprs, net_exprs, NetTerms, no_net_terms, net_terms, NetFactors, no_net_factors, net_factors, NetBranches, no_net_branches, net_branches}
use Rattle.cif_net_model.specs.Net.{Text, NetAuto, NetEvent, NetStored, NetAlg, Net}
use Rattle.cif_net_model.specs.Exprs.{placed}
use Rattle.cif_net_model.specs.Inline.{replaced, form_replaced, terms_replaced, factors_replaced, list_replaced, branches_replaced, auto_replaced, alg_replaced, net_replaced}
use Rattle.cif_net_model.specs.Kinds.{Kind, bool_kind, int_kind, enum_kind, same_texts, same_kind, kind_of, is_equality, places_of, alg_fits, received_fits, channel_kinds, kinds_in, fits, form_fits, terms_fit, factors_fit, all_fit, branches_fit}
use Rattle.cif_net_model.proofs.Passing.{and-left, and-right}
use Rattle.cif_net_model.proofs.PlainLaws.{never}
use Rattle.cif_net_laws.proofs.Lists.{and-both, any-more, map-map}

-- ---- kinds

bytes-told : (x y : Text) → bytes_eq x y ≡ true → x ≡ y
bytes-told [] [] h = refl
bytes-told [] (c ∷ y) h = never h
bytes-told (b ∷ x) [] h = never h
bytes-told (b ∷ x) (c ∷ y) h = ap (λ z. z ∷ x) (eqb-true b c (and-left _ _ h)) ∙ ap (λ z. c ∷ z) (bytes-told x y (and-right _ _ h))

texts-told : (xs ys : List Text) → same_texts xs ys ≡ true → xs ≡ ys
texts-told [] [] h = refl
texts-told [] (y ∷ ys) h = never h
texts-told (x ∷ xs) [] h = never h
texts-told (x ∷ xs) (y ∷ ys) h = ap (λ z. z ∷ xs) (bytes-told x y (and-left _ _ h)) ∙ ap (λ zs. y ∷ zs) (texts-told xs ys (and-right _ _ h))

pub kind-told : (j k : Kind) → same_kind j k ≡ true → j ≡ k
kind-told bool_kind bool_kind h = refl
kind-told bool_kind int_kind h = never h
kind-told bool_kind (enum_kind ys) h = never h
kind-told int_kind bool_kind h = never h
kind-told int_kind int_kind h = refl
kind-told int_kind (enum_kind ys) h = never h
kind-told (enum_kind xs) bool_kind h = never h
kind-told (enum_kind xs) int_kind h = never h
kind-told (enum_kind xs) (enum_kind ys) h = ap enum_kind (texts-told xs ys h)

-- ---- what the nets have alike

module _ (c : ℕ → NetExpr) (n : Net) where
  pub places-same : (a : ℕ) → places_of (slice_get (net_replaced c n).autos a) ≡ places_of (slice_get n.autos a)
  places-same a = by n.autos a
    where
      by : (ds : List NetAuto) (k : ℕ) → places_of (slice_get (map (auto_replaced c) ds) k) ≡ places_of (slice_get ds k)
      by [] k = refl
      by (d ∷ ds) zero = refl
      by (d ∷ ds) (suc k) = by ds k

  pub alg_fits-same : (k : Kind) (a : ℕ) → alg_fits k (slice_get (net_replaced c n).algs a) ≡ alg_fits k (slice_get n.algs a)
  alg_fits-same k a = by n.algs a
    where
      by : (ds : List NetAlg) (j : ℕ) → alg_fits k (slice_get (map (alg_replaced c) ds) j) ≡ alg_fits k (slice_get ds j)
      by [] j = refl
      by (d ∷ ds) zero = refl
      by (d ∷ ds) (suc j) = by ds j

  pub kinds-same : kinds_in (net_replaced c n) ≡ kinds_in n
  kinds-same =
      ap (λ ks. bool_kind ∷ int_kind ∷ (map (λ (v : NetStored). kind_of v.type_of v.literals) (n.inputs ++ n.vars) ++ (ks ++ flat_map (λ (e : NetEvent). channel_kinds e.chan) n.events)))
      (map-map (alg_replaced c) (λ (a : NetAlg). kind_of a.type_of a.literals) n.algs)

placed-fits : (n : Net) (r : Option Ty) (k : Kind) (at : ℕ) (e : NetExpr) → fits n r k e ≡ true → fits n r k (placed at e) ≡ true
placed-fits n r k at (net_expr f j) h = h

-- r is received in place of r'
module _ (c : ℕ → NetExpr) (n : Net) (by : ℕ → NetExpr) (r' r : Option Ty)
    (algs : (k : Kind) (j : ℕ) → alg_fits k (slice_get n.algs j) ≡ true → fits (net_replaced c n) r k (by j) ≡ true)
    (received : (k : Kind) → received_fits k r' ≡ true → received_fits k r ≡ true) where
  abbrev q : Net
  q = net_replaced c n

  mutual
    pub replaced-fits : (k : Kind) (e : NetExpr) → fits n r' k e ≡ true → fits q r k (replaced by e) ≡ true
    replaced-fits k (net_expr f at) h = form-fits at k f h

    form-fits : (at : ℕ) (k : Kind) (f : NetForm) → form_fits n r' k f ≡ true → fits q r k (form_replaced by at f) ≡ true
    form-fits at k (n_truth b) h = h
    form-fits at k (n_number z) h = h
    form-fits at k (n_loc a p) h = and-both _ _ (and-left _ _ h) (ap (nat_lt p) (places-same c n a) ∙ and-right _ _ h)
    form-fits at k (n_var v) h = h
    form-fits at k (n_input v) h = h
    form-fits at k (n_alg v) h = placed-fits q r k at (by v) (algs k v h)
    form-fits at k n_received h = received k h
    form-fits at k (n_minus e) h = and-both _ _ (and-left _ _ h) (replaced-fits int_kind e (and-right _ _ h))
    form-fits at k (n_plus e) h = and-both _ _ (and-left _ _ h) (replaced-fits int_kind e (and-right _ _ h))
    form-fits at k (n_not e) h = and-both _ _ (and-left _ _ h) (replaced-fits bool_kind e (and-right _ _ h))
    form-fits at k (n_abs e) h = and-both _ _ (and-left _ _ h) (replaced-fits int_kind e (and-right _ _ h))
    form-fits at k (n_min a b) h = let g = and-left _ _ h in and-both _ _ (and-both _ _ (and-left _ _ g) (replaced-fits int_kind a (and-right _ _ g))) (replaced-fits int_kind b (and-right _ _ h))
    form-fits at k (n_max a b) h = let g = and-left _ _ h in and-both _ _ (and-both _ _ (and-left _ _ g) (replaced-fits int_kind a (and-right _ _ g))) (replaced-fits int_kind b (and-right _ _ h))
    form-fits at k (n_sum e es) h = let g = and-left _ _ h in and-both _ _ (and-both _ _ (and-left _ _ g) (replaced-fits int_kind e (and-right _ _ g))) (terms-fit es (and-right _ _ h))
    form-fits at k (n_product e es) h = let g = and-left _ _ h in and-both _ _ (and-both _ _ (and-left _ _ g) (replaced-fits int_kind e (and-right _ _ g))) (factors-fit es (and-right _ _ h))
    form-fits at k (n_compare a op b) h =
        and-both _ _ (and-left _ _ h)
        (compared (is_equality op)
        (λ t g. and-both _ _ (replaced-fits t a (and-left _ _ g)) (replaced-fits t b (and-right _ _ g)))
        (λ g. and-both _ _ (replaced-fits int_kind a (and-left _ _ g)) (replaced-fits int_kind b (and-right _ _ g)))
        (and-right _ _ h))
      where
        compared : (t : Bool) → ((k : Kind) → (fits n r' k a && fits n r' k b) ≡ true → (fits q r k (replaced by a) && fits q r k (replaced by b)) ≡ true)
            → ((fits n r' int_kind a && fits n r' int_kind b) ≡ true → (fits q r int_kind (replaced by a) && fits q r int_kind (replaced by b)) ≡ true)
            → (if t then list_any (λ k. fits n r' k a && fits n r' k b) (kinds_in n) else fits n r' int_kind a && fits n r' int_kind b) ≡ true
            → (if t then list_any (λ k. fits q r k (replaced by a) && fits q r k (replaced by b)) (kinds_in q) else fits q r int_kind (replaced by a) && fits q r int_kind (replaced by b)) ≡ true
        compared true f g h =
            ap (list_any (λ k. fits q r k (replaced by a) && fits q r k (replaced by b))) (kinds-same c n)
            ∙ any-more (λ k. fits n r' k a && fits n r' k b) (λ k. fits q r k (replaced by a) && fits q r k (replaced by b)) f (kinds_in n) h
        compared false f g h = g h
    form-fits at k (n_and es) h = and-both _ _ (and-left _ _ h) (all-fit es (and-right _ _ h))
    form-fits at k (n_or es) h = and-both _ _ (and-left _ _ h) (all-fit es (and-right _ _ h))
    form-fits at k (n_implies a b) h = let g = and-left _ _ h in and-both _ _ (and-both _ _ (and-left _ _ g) (replaced-fits bool_kind a (and-right _ _ g))) (replaced-fits bool_kind b (and-right _ _ h))
    form-fits at k (n_iff a b) h = let g = and-left _ _ h in and-both _ _ (and-both _ _ (and-left _ _ g) (replaced-fits bool_kind a (and-right _ _ g))) (replaced-fits bool_kind b (and-right _ _ h))
    form-fits at k (n_if bs e) h = and-both _ _ (branches-fit k bs (and-left _ _ h)) (replaced-fits k e (and-right _ _ h))

    terms-fit : (es : NetTerms) → terms_fit n r' es ≡ true → terms_fit q r (terms_replaced by es) ≡ true
    terms-fit no_net_terms h = refl
    terms-fit (net_terms m e es) h = and-both _ _ (replaced-fits int_kind e (and-left _ _ h)) (terms-fit es (and-right _ _ h))

    factors-fit : (es : NetFactors) → factors_fit n r' es ≡ true → factors_fit q r (factors_replaced by es) ≡ true
    factors-fit no_net_factors h = refl
    factors-fit (net_factors op e es) h = and-both _ _ (replaced-fits int_kind e (and-left _ _ h)) (factors-fit es (and-right _ _ h))

    all-fit : (es : NetExprs) → all_fit n r' es ≡ true → all_fit q r (list_replaced by es) ≡ true
    all-fit no_net_exprs h = refl
    all-fit (net_exprs e es) h = and-both _ _ (replaced-fits bool_kind e (and-left _ _ h)) (all-fit es (and-right _ _ h))

    branches-fit : (k : Kind) (bs : NetBranches) → branches_fit n r' k bs ≡ true → branches_fit q r k (branches_replaced by bs) ≡ true
    branches-fit k no_net_branches h = refl
    branches-fit k (net_branches e f bs) h =
        let g = and-left _ _ h in
        and-both _ _ (and-both _ _ (replaced-fits bool_kind e (and-left _ _ g)) (replaced-fits k f (and-right _ _ g))) (branches-fit k bs (and-right _ _ h))
