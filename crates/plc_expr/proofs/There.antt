-- What an expression with a kind names is there.
use Rattle.std.proofs.Common.{◌≡◌, ℕ, zero, suc, ◌<◌, true, false, List, [], ◌∷◌, ◌++◌, length, Option, Some, None, refl, slice_get, arith}
use Rattle.std.specs.Prelude.{is_some, nat_lt}
use Rattle.std.specs.List.{list_all, AllByRecursion}
use Rattle.std.proofs.lemmas.Bool.Decides.{nat_tests}
use Rattle.cif_base.specs.declared.types.Ty.{Ty}
use Rattle.cif_net_expr.specs.Tree.{NetExpr, net_expr, NetForm, n_truth, n_number, n_loc, n_var, n_input, n_alg, n_received, n_minus, n_plus, n_not, n_abs, n_min, n_max, n_sum, n_product, n_compare, n_and, n_or, n_implies, n_iff, n_if, NetExprs, no_net_exprs, net_exprs, NetTerms, no_net_terms, net_terms, NetFactors, no_net_factors, net_factors, NetBranches, no_net_branches, net_branches}
use Rattle.cif_net_model.specs.Net.{NetAuto, NetStored, Net}
use Rattle.cif_net_model.specs.Kinds.{Kind, bool_kind, int_kind, places_of, stored_fits, received_fits, fits, form_fits, terms_fit, factors_fit, all_fit, branches_fit}
use Rattle.cif_net_model.specs.Reads.{Read, alg_passes, names_in, form_names, term_names, factor_names, list_names, branch_names}
use Rattle.cif_net_model.proofs.Passing.{and-left, and-right, both-pass}
use Rattle.cif_net_model.proofs.PlainLaws.{never}
use Rattle.plc_expr.specs.Held.{IsThere}
use Rattle.cif_net_model.proofs.Sides.{sides-fit}

below : {A : Type 0} (xs : List A) (k : ℕ) → is_some (slice_get xs k) ≡ true → k < length xs
below [] k h = never h
below (x ∷ xs) zero h = omega arith
below (x ∷ xs) (suc k) h = let b = below xs k h in omega arith

stored-there : (k : Kind) (o : Option NetStored) → stored_fits k o ≡ true → is_some o ≡ true
stored-there k None h = never h
stored-there k (Some v) h = refl

received-there : (k : Kind) (o : Option Ty) → received_fits k o ≡ true → is_some o ≡ true
received-there k None h = never h
received-there k (Some t) h = refl

place-there : (p : ℕ) (o : Option NetAuto) → nat_lt p (places_of o) ≡ true → is_some o ≡ true
place-there p None h = grind (arith, nat_tests)
place-there p (Some a) h = refl

both-there : {A : Type 0} (P : A → Type 0) (xs ys : List A) → AllByRecursion P xs → AllByRecursion P ys → AllByRecursion P (xs ++ ys)
both-there P [] ys h k = k
both-there P (x ∷ xs) ys h k = (h.0, both-there P xs ys h.1 k)

module _ (n : Net) (r : Option Ty) where
  abbrev NoAlg : List Read → Type 0
  NoAlg qs = list_all (alg_passes (λ k. false)) qs ≡ true

  abbrev There : List Read → Type 0
  There qs = AllByRecursion (IsThere n r) qs

  two : (ps qs : List Read) → (NoAlg ps → There ps) → (NoAlg qs → There qs) → NoAlg (ps ++ qs) → There (ps ++ qs)
  two ps qs f g a = let aa = both-pass (alg_passes (λ k. false)) ps qs a in both-there (IsThere n r) ps qs (f aa.0) (g aa.1)

  mutual
    expr-there : (k : Kind) (e : NetExpr) → fits n r k e ≡ true → NoAlg (names_in e) → There (names_in e)
    expr-there k (net_expr f at) h a = form-there k f h a

    form-there : (k : Kind) (f : NetForm) → form_fits n r k f ≡ true → NoAlg (form_names f) → There (form_names f)
    form-there k (n_truth b) h a = tt
    form-there k (n_number z) h a = tt
    form-there k (n_loc i p) h a = (below n.autos i (place-there p (slice_get n.autos i) (and-right _ _ h)), tt)
    form-there k (n_var i) h a = (below n.vars i (stored-there k (slice_get n.vars i) h), tt)
    form-there k (n_input i) h a = (below n.inputs i (stored-there k (slice_get n.inputs i) h), tt)
    form-there k (n_alg i) h a = never a
    form-there k n_received h a = (received-there k r h, tt)
    form-there k (n_minus e) h a = expr-there int_kind e (and-right _ _ h) a
    form-there k (n_plus e) h a = expr-there int_kind e (and-right _ _ h) a
    form-there k (n_not e) h a = expr-there bool_kind e (and-right _ _ h) a
    form-there k (n_abs e) h a = expr-there int_kind e (and-right _ _ h) a
    form-there k (n_min p q) h a = two (names_in p) (names_in q) (expr-there int_kind p (and-right _ _ (and-left _ _ h))) (expr-there int_kind q (and-right _ _ h)) a
    form-there k (n_max p q) h a = two (names_in p) (names_in q) (expr-there int_kind p (and-right _ _ (and-left _ _ h))) (expr-there int_kind q (and-right _ _ h)) a
    form-there k (n_sum e es) h a = two (names_in e) (term_names es) (expr-there int_kind e (and-right _ _ (and-left _ _ h))) (terms-there es (and-right _ _ h)) a
    form-there k (n_product e es) h a = two (names_in e) (factor_names es) (expr-there int_kind e (and-right _ _ (and-left _ _ h))) (factors-there es (and-right _ _ h)) a
    form-there k (n_compare p op q) h a = let hh = sides-fit n r k op p q h in two (names_in p) (names_in q) (expr-there hh.kind p hh.left) (expr-there hh.kind q hh.right) a
    form-there k (n_and es) h a = list-there es (and-right _ _ h) a
    form-there k (n_or es) h a = list-there es (and-right _ _ h) a
    form-there k (n_implies p q) h a = two (names_in p) (names_in q) (expr-there bool_kind p (and-right _ _ (and-left _ _ h))) (expr-there bool_kind q (and-right _ _ h)) a
    form-there k (n_iff p q) h a = two (names_in p) (names_in q) (expr-there bool_kind p (and-right _ _ (and-left _ _ h))) (expr-there bool_kind q (and-right _ _ h)) a
    form-there k (n_if bs e) h a = two (branch_names bs) (names_in e) (branches-there k bs (and-left _ _ h)) (expr-there k e (and-right _ _ h)) a

    terms-there : (es : NetTerms) → terms_fit n r es ≡ true → NoAlg (term_names es) → There (term_names es)
    terms-there no_net_terms h a = tt
    terms-there (net_terms m e es) h a = two (names_in e) (term_names es) (expr-there int_kind e (and-left _ _ h)) (terms-there es (and-right _ _ h)) a

    factors-there : (es : NetFactors) → factors_fit n r es ≡ true → NoAlg (factor_names es) → There (factor_names es)
    factors-there no_net_factors h a = tt
    factors-there (net_factors op e es) h a = two (names_in e) (factor_names es) (expr-there int_kind e (and-left _ _ h)) (factors-there es (and-right _ _ h)) a

    list-there : (es : NetExprs) → all_fit n r es ≡ true → NoAlg (list_names es) → There (list_names es)
    list-there no_net_exprs h a = tt
    list-there (net_exprs e es) h a = two (names_in e) (list_names es) (expr-there bool_kind e (and-left _ _ h)) (list-there es (and-right _ _ h)) a

    branches-there : (k : Kind) (bs : NetBranches) → branches_fit n r k bs ≡ true → NoAlg (branch_names bs) → There (branch_names bs)
    branches-there k no_net_branches h a = tt
    branches-there k (net_branches c e bs) h a =
        two (names_in c) (names_in e ++ branch_names bs) (expr-there bool_kind c (and-left _ _ (and-left _ _ h)))
        (two (names_in e) (branch_names bs) (expr-there k e (and-right _ _ (and-left _ _ h))) (branches-there k bs (and-right _ _ h))) a

pub there : (n : Net) (r : Option Ty) (k : Kind) (e : NetExpr) → fits n r k e ≡ true → list_all (alg_passes (λ j. false)) (names_in e) ≡ true → AllByRecursion (IsThere n r) (names_in e)
there n r k e h a = expr-there n r k e h a
