-- An expression in which algebraic variables are replaced reads an input where the expression does.
use Rattle.std.proofs.Common.{◌≡◌, ℕ, zero, suc, Bool, true, false, ◌||◌, List, [], ◌∷◌, ◌++◌, map, length, refl, sym, ◌∙◌, ap}
use Rattle.std.specs.Prelude.{flat_map}
use Rattle.std.specs.List.{list_any}
use Rattle.std.proofs.lemmas.List.Folds.{list_any-append}
use Rattle.std.proofs.Math.Bool.{or-false}
use Rattle.std.proofs.Math.Path.{fun_ext}
use Rattle.cif_net_expr.specs.Tree.{NetExpr, net_expr, NetForm, n_truth, n_number, n_loc, n_var, n_input, n_alg, n_received, n_minus, n_plus, n_not, n_abs, n_min, n_max, n_sum, n_product, n_compare, n_and, n_or, n_implies, n_iff, n_if, NetExprs, no_net_exprs, net_exprs, NetTerms, no_net_terms, net_terms, NetFactors, no_net_factors, net_factors, NetBranches, no_net_branches, net_branches}
use Rattle.cif_net_model.specs.Net.{one_value, by_loc, NetAlg, Net}
use Rattle.cif_net_model.specs.Exprs.{placed}
use Rattle.cif_net_model.specs.Inline.{replaced, form_replaced, terms_replaced, factors_replaced, list_replaced, branches_replaced, alg_replaced, net_replaced, place_branches, last_of, by_places, defined_by}
use Rattle.cif_net_model.specs.Reads.{Read, a_var, an_input, an_alg, a_place, the_received, names_in, form_names, term_names, factor_names, list_names, branch_names, read_of, reads_by, alg_reads, is_input, reads_input}
use Rattle.cif_net_model.specs.Unfolding.{at_or, unfolded}
use Rattle.cif_net_model.proofs.ValueLaws.{ap-two}
use Rattle.cif_net_laws.proofs.Lists.{map-after}
use Rattle.cif_net_laws.proofs.Settled.{Settled}
use Rattle.cif_net_laws.proofs.Solved as solved
use Rattle.cif_net_laws.proofs.Solved.{alg-cases}

or-assoc : (a b c : Bool) → ((a || b) || c) ≡ (a || (b || c))
or-assoc true b c = refl
or-assoc false b c = refl

any-both : {A B : Type 0} (p : A → Bool) (q : B → Bool) (xs ys : List A) (vs ws : List B) → list_any p xs ≡ list_any q vs → list_any p ys ≡ list_any q ws → list_any p (xs ++ ys) ≡ list_any q (vs ++ ws)
any-both p q xs ys vs ws h k = list_any-append p xs ys ∙ ap-two (λ a b. a || b) h k ∙ sym (list_any-append q vs ws)

any-flat : {A B : Type 0} (p : B → Bool) (h : A → List B) (xs : List A) → list_any p (flat_map h xs) ≡ list_any (λ x. list_any p (h x)) xs
any-flat p h [] = refl
any-flat p h (x ∷ xs) = list_any-append p (h x) (flat_map h xs) ∙ ap (λ b. list_any p (h x) || b) (any-flat p h xs)

any-same : {A : Type 0} (p q : A → Bool) (xs : List A) → ((x : A) → p x ≡ q x) → list_any p xs ≡ list_any q xs
any-same p q xs h = ap (λ g. list_any g xs) (fun_ext h)

any-mapped : {A B : Type 0} (f : A → B) (p : B → Bool) (xs : List A) → list_any p (map f xs) ≡ list_any (λ x. p (f x)) xs
any-mapped f p [] = refl
any-mapped f p (x ∷ xs) = ap (λ b. p (f x) || b) (any-mapped f p xs)

-- an input, or an algebraic variable that passes
abbrev pub told_by : (ℕ → Bool) → Read → Bool
told_by g (an_alg k) = g k
told_by g x = is_input x

abbrev pub ev : (ℕ → Bool) → NetExpr → Bool
ev g e = list_any (told_by g) (names_in e)

abbrev pub def : (ℕ → Bool) → NetAlg → Bool
def g a = elim a.value [ one_value e ↦ ev g e | by_loc k es ↦ list_any (ev g) es ]

-- ---- what is named where algebraic variables are replaced

module _ (c : ℕ → NetExpr) (g : ℕ → Bool) where
  abbrev inner : ℕ → Bool
  inner k = ev g (c k)

  abbrev before : Read → Bool
  before = told_by g

  abbrev after : Read → Bool
  after = told_by inner

  placed-told : (at : ℕ) (e : NetExpr) → ev g (placed at e) ≡ ev g e
  placed-told at (net_expr f k) = refl

  mutual
    pub replaced-told : (e : NetExpr) → ev g (replaced c e) ≡ ev inner e
    replaced-told (net_expr f at) = form-told at f

    form-told : (at : ℕ) (f : NetForm) → ev g (form_replaced c at f) ≡ list_any after (form_names f)
    form-told at (n_truth b) = refl
    form-told at (n_number z) = refl
    form-told at (n_loc a k) = refl
    form-told at (n_var k) = refl
    form-told at (n_input k) = refl
    form-told at (n_alg k) = placed-told at (c k) ∙ sym (or-false (inner k))
    form-told at n_received = refl
    form-told at (n_minus e) = replaced-told e
    form-told at (n_plus e) = replaced-told e
    form-told at (n_not e) = replaced-told e
    form-told at (n_abs e) = replaced-told e
    form-told at (n_min a b) = any-both before after (names_in (replaced c a)) (names_in (replaced c b)) (names_in a) (names_in b) (replaced-told a) (replaced-told b)
    form-told at (n_max a b) = any-both before after (names_in (replaced c a)) (names_in (replaced c b)) (names_in a) (names_in b) (replaced-told a) (replaced-told b)
    form-told at (n_sum e es) = any-both before after (names_in (replaced c e)) (term_names (terms_replaced c es)) (names_in e) (term_names es) (replaced-told e) (terms-told es)
    form-told at (n_product e es) = any-both before after (names_in (replaced c e)) (factor_names (factors_replaced c es)) (names_in e) (factor_names es) (replaced-told e) (factors-told es)
    form-told at (n_compare a op b) = any-both before after (names_in (replaced c a)) (names_in (replaced c b)) (names_in a) (names_in b) (replaced-told a) (replaced-told b)
    form-told at (n_and es) = list-told es
    form-told at (n_or es) = list-told es
    form-told at (n_implies a b) = any-both before after (names_in (replaced c a)) (names_in (replaced c b)) (names_in a) (names_in b) (replaced-told a) (replaced-told b)
    form-told at (n_iff a b) = any-both before after (names_in (replaced c a)) (names_in (replaced c b)) (names_in a) (names_in b) (replaced-told a) (replaced-told b)
    form-told at (n_if bs e) = any-both before after (branch_names (branches_replaced c bs)) (names_in (replaced c e)) (branch_names bs) (names_in e) (branches-told bs) (replaced-told e)

    terms-told : (es : NetTerms) → list_any before (term_names (terms_replaced c es)) ≡ list_any after (term_names es)
    terms-told no_net_terms = refl
    terms-told (net_terms m e es) = any-both before after (names_in (replaced c e)) (term_names (terms_replaced c es)) (names_in e) (term_names es) (replaced-told e) (terms-told es)

    factors-told : (es : NetFactors) → list_any before (factor_names (factors_replaced c es)) ≡ list_any after (factor_names es)
    factors-told no_net_factors = refl
    factors-told (net_factors op e es) = any-both before after (names_in (replaced c e)) (factor_names (factors_replaced c es)) (names_in e) (factor_names es) (replaced-told e) (factors-told es)

    list-told : (es : NetExprs) → list_any before (list_names (list_replaced c es)) ≡ list_any after (list_names es)
    list-told no_net_exprs = refl
    list-told (net_exprs e es) = any-both before after (names_in (replaced c e)) (list_names (list_replaced c es)) (names_in e) (list_names es) (replaced-told e) (list-told es)

    branches-told : (bs : NetBranches) → list_any before (branch_names (branches_replaced c bs)) ≡ list_any after (branch_names bs)
    branches-told no_net_branches = refl
    branches-told (net_branches d e bs) =
        any-both before after (names_in (replaced c d)) (names_in (replaced c e) ++ branch_names (branches_replaced c bs)) (names_in d) (names_in e ++ branch_names bs) (replaced-told d)
        (any-both before after (names_in (replaced c e)) (branch_names (branches_replaced c bs)) (names_in e) (branch_names bs) (replaced-told e) (branches-told bs))

-- ---- definitions

def-after : (c : ℕ → NetExpr) (g : ℕ → Bool) (a : NetAlg) → def g (alg_replaced c a) ≡ def (λ k. ev g (c k)) a
def-after c g =
    alg-cases (λ a. def g (alg_replaced c a) ≡ def (λ k. ev g (c k)) a) (λ a e. replaced-told c g e)
    (λ a k es. any-mapped (replaced c) (ev g) es ∙ any-same (λ e. ev g (replaced c e)) (ev (λ k. ev g (c k))) es (replaced-told c g))

module _ (g : ℕ → Bool) (i : ℕ) where
  branches-any : (j : ℕ) (e : NetExpr) (es : List NetExpr) → (list_any (told_by g) (branch_names (place_branches i j e es)) || ev g (last_of e es)) ≡ list_any (ev g) (e ∷ es)
  branches-any j e [] = sym (or-false (ev g e))
  branches-any j e (f ∷ fs) =
      ap (λ b. b || ev g (last_of f fs)) (list_any-append (told_by g) (names_in e) (branch_names (place_branches i (suc j) f fs)))
      ∙ or-assoc (ev g e) (list_any (told_by g) (branch_names (place_branches i (suc j) f fs))) (ev g (last_of f fs))
      ∙ ap (λ b. ev g e || b) (branches-any (suc j) f fs)

  places-any : (es : List NetExpr) → ev g (by_places i es) ≡ list_any (ev g) es
  places-any [] = refl
  places-any (e ∷ []) = sym (or-false (ev g e))
  places-any (e ∷ f ∷ fs) = list_any-append (told_by g) (branch_names (place_branches i 0 e (f ∷ fs))) (names_in (last_of f fs)) ∙ branches-any 0 e (f ∷ fs)

def-any : (g : ℕ → Bool) (a : NetAlg) → def g a ≡ ev g (defined_by a)
def-any g = alg-cases (λ a. def g a ≡ ev g (defined_by a)) (λ a e. refl) (λ a k es. sym (places-any g k es))

-- ---- what is read, with algebraic variables unfolded

abbrev some_input : List Read → Bool
some_input xs = list_any is_input xs

read-told : (algs : ℕ → List Read) (x : Read) → some_input (read_of algs x) ≡ told_by (λ k. some_input (algs k)) x
read-told algs (a_var k) = refl
read-told algs (an_input k) = refl
read-told algs (an_alg k) = refl
read-told algs (a_place k) = refl
read-told algs the_received = refl

reads-told : (algs : ℕ → List Read) (e : NetExpr) → some_input (reads_by algs e) ≡ ev (λ k. some_input (algs k)) e
reads-told algs e = any-flat is_input (read_of algs) (names_in e) ∙ any-same (λ x. some_input (read_of algs x)) (told_by (λ k. some_input (algs k))) (names_in e) (read-told algs)

alg-told : (algs : ℕ → List Read) (a : NetAlg) → some_input (alg_reads algs a) ≡ def (λ k. some_input (algs k)) a
alg-told algs =
    alg-cases (λ a. some_input (alg_reads algs a) ≡ def (λ k. some_input (algs k)) a) (λ a e. reads-told algs e)
    (λ a k es. any-flat is_input (reads_by algs) es ∙ any-same (λ e. some_input (reads_by algs e)) (ev (λ k. some_input (algs k))) es (reads-told algs))

at-told : (xs : List (List Read)) (k : ℕ) → some_input (at_or [] xs k) ≡ at_or false (map some_input xs) k
at-told [] k = refl
at-told (x ∷ xs) zero = refl
at-told (x ∷ xs) (suc k) = at-told xs k

tables-told : (ds : List NetAlg) (m : ℕ) → map some_input (unfolded [] alg_reads ds m) ≡ unfolded false def ds m
tables-told ds zero = refl
tables-told ds (suc m) =
    map-after (alg_reads (at_or [] (unfolded [] alg_reads ds m))) some_input (def (at_or false (unfolded false def ds m))) ds (λ a i.
    alg-told (at_or [] (unfolded [] alg_reads ds m)) a
    ∙ ap (λ g. def g a) (fun_ext (at-told (unfolded [] alg_reads ds m)) ∙ ap (at_or false) (tables-told ds m)))

reads-are : (n : Net) (e : NetExpr) → reads_input n e ≡ ev (at_or false (unfolded false def n.algs (length n.algs))) e
reads-are n e =
    reads-told (at_or [] (unfolded [] alg_reads n.algs (length n.algs))) e
    ∙ ap (λ g. ev g e) (fun_ext (at-told (unfolded [] alg_reads n.algs (length n.algs))) ∙ ap (at_or false) (tables-told n.algs (length n.algs)))

pub reads-same : (n p : Net) (s : Settled n p) (e : NetExpr) → reads_input (net_replaced s.by n) (replaced s.by e) ≡ reads_input n e
reads-same n p s e =
    reads-are (net_replaced s.by n) (replaced s.by e)
    ∙ solved.others-same false ev def (λ g h. refl) (λ g k. or-false (g k)) def-after n p s (λ g a m. def-any g (alg_replaced s.by a)) replaced-told e
    ∙ sym (reads-are n e)
