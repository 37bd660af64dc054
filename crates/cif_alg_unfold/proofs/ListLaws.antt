-- The operands and branches of expressions, as lists.
use Rattle.std.proofs.Common.{◌≡◌, ℕ, ◌+◌, ◌<◌, ◌≤◌, Bool, List, [], ◌∷◌, ◌++◌, length, map, drop, get_or, append-nil, refl, sym, ap, ◌∙◌}
use Rattle.std.proofs.lemmas.List.{drop_all, drop_more, map-append, append_assoc}
use Rattle.cif_net_expr.specs.Tree.{MulOp, NetExpr, NetExprs, no_net_exprs, net_exprs, NetTerms, no_net_terms, net_terms, NetFactors, no_net_factors, net_factors, NetBranches, no_net_branches, net_branches}
use Rattle.cif_net_expr.specs.View.{view, view_mul, exprs_of, view_exprs, view_term, terms_of, view_terms, view_factor, factors_of, view_factors, view_branch, branches_of, view_branches}
use Rattle.cif_net_expr.specs.declared.expressions.NetExpr as declared
use Rattle.cif_net_expr.specs.declared.expressions.NetForm.TheFolds as forms
use Rattle.cif_net_expr.specs.declared.expressions.NetBranch.{NetBranch, out-NetBranch}
use Rattle.cif_net_expr.specs.declared.expressions.NetFactor.{NetFactor}
use Rattle.cif_net_expr.specs.declared.expressions.NetTerm.{NetTerm}
use Rattle.cif_net_model.specs.Inline.{replaced, list_replaced, terms_replaced, factors_replaced, branches_replaced}

abbrev pub made_exprs : (ℕ → NetExpr) → NetExprs → List NetExpr
made_exprs f no_net_exprs = []
made_exprs f (net_exprs e es) = replaced f e ∷ made_exprs f es

abbrev pub made_terms : (ℕ → NetExpr) → NetTerms → List (Bool × NetExpr)
made_terms f no_net_terms = []
made_terms f (net_terms minus e es) = (minus, replaced f e) ∷ made_terms f es

abbrev pub made_factors : (ℕ → NetExpr) → NetFactors → List (MulOp × NetExpr)
made_factors f no_net_factors = []
made_factors f (net_factors op e es) = (op, replaced f e) ∷ made_factors f es

abbrev pub made_branches : (ℕ → NetExpr) → NetBranches → List (NetExpr × NetExpr)
made_branches f no_net_branches = []
made_branches f (net_branches c e bs) = (replaced f c, replaced f e) ∷ made_branches f bs

exprs_made : (f : ℕ → NetExpr) (es : NetExprs) → exprs_of (made_exprs f es) ≡ list_replaced f es
exprs_made f no_net_exprs = refl
exprs_made f (net_exprs e es) = ap (net_exprs (replaced f e)) (exprs_made f es)

terms_made : (f : ℕ → NetExpr) (es : NetTerms) → terms_of (made_terms f es) ≡ terms_replaced f es
terms_made f no_net_terms = refl
terms_made f (net_terms minus e es) = ap (net_terms minus (replaced f e)) (terms_made f es)

factors_made : (f : ℕ → NetExpr) (es : NetFactors) → factors_of (made_factors f es) ≡ factors_replaced f es
factors_made f no_net_factors = refl
factors_made f (net_factors op e es) = ap (net_factors op (replaced f e)) (factors_made f es)

branches_made : (f : ℕ → NetExpr) (bs : NetBranches) → branches_of (made_branches f bs) ≡ branches_replaced f bs
branches_made f no_net_branches = refl
branches_made f (net_branches c e bs) = ap (net_branches (replaced f c) (replaced f e)) (branches_made f bs)

-- ---- at the end of a loop, where nothing is left to make

pub ended : {A B : Type 0} (made : List A) (rest : List B → List A) (all : List B) (i : ℕ) → length all ≤ i → rest [] ≡ [] → made ++ rest (drop i all) ≡ rest all → made ≡ rest all
ended made rest all i h n e = sym (append-nil made) ∙ ap (λ xs. made ++ xs) (sym n) ∙ ap (λ xs. made ++ rest xs) (sym (drop_all i all h)) ∙ e

pub exprs_ended : (f : ℕ → NetExpr) (made : List NetExpr) (all : List declared.NetExpr) (i : ℕ) → length all ≤ i
    → made ++ made_exprs f (view_exprs (drop i all)) ≡ made_exprs f (view_exprs all) → exprs_of made ≡ list_replaced f (view_exprs all)
exprs_ended f made all i h e = ap exprs_of (ended made (λ xs. made_exprs f (view_exprs xs)) all i h refl e) ∙ exprs_made f (view_exprs all)

pub terms_ended : (f : ℕ → NetExpr) (made : List (Bool × NetExpr)) (all : List NetTerm) (i : ℕ) → length all ≤ i
    → made ++ made_terms f (view_terms (drop i all)) ≡ made_terms f (view_terms all) → terms_of made ≡ terms_replaced f (view_terms all)
terms_ended f made all i h e = ap terms_of (ended made (λ xs. made_terms f (view_terms xs)) all i h refl e) ∙ terms_made f (view_terms all)

pub factors_ended : (f : ℕ → NetExpr) (made : List (MulOp × NetExpr)) (all : List NetFactor) (i : ℕ) → length all ≤ i
    → made ++ made_factors f (view_factors (drop i all)) ≡ made_factors f (view_factors all) → factors_of made ≡ factors_replaced f (view_factors all)
factors_ended f made all i h e = ap factors_of (ended made (λ xs. made_factors f (view_factors xs)) all i h refl e) ∙ factors_made f (view_factors all)

pub branches_ended : (f : ℕ → NetExpr) (made : List (NetExpr × NetExpr)) (all : List NetBranch) (i : ℕ) → length all ≤ i
    → made ++ made_branches f (view_branches (drop i all)) ≡ made_branches f (view_branches all) → branches_of made ≡ branches_replaced f (view_branches all)
branches_ended f made all i h e = ap branches_of (ended made (λ xs. made_branches f (view_branches xs)) all i h refl e) ∙ branches_made f (view_branches all)

-- ---- at a turn of a loop, where one more is made

pub stepped : {A B C : Type 0} (shown : C → A) (rest : List B → List A) (as_made : B → A) (made made_now : List C) (all : List B) (i : ℕ) (item : B) (one : C) (whole : List A)
    → ((x : B) (xs : List B) → rest (x ∷ xs) ≡ as_made x ∷ rest xs) → i < length all → item ≡ get_or all i item → shown one ≡ as_made item → made_now ≡ made ++ one ∷ []
    → map shown made ++ rest (drop i all) ≡ whole → map shown made_now ++ rest (drop (i + 1) all) ≡ whole
stepped shown rest as_made made made_now all i item one whole split less at is now e =
    let left = rest (drop (i + 1) all) in
    ap (λ ms. map shown ms ++ left) now
    ∙ ap (λ ms. ms ++ left) (map-append shown made (one ∷ []))
    ∙ append_assoc (map shown made) (shown one ∷ []) left
    ∙ ap (λ x. map shown made ++ x ∷ left) is
    ∙ ap (λ xs. map shown made ++ xs)
    (sym (split item (drop (i + 1) all)) ∙ ap (λ x. rest (x ∷ drop (i + 1) all)) at ∙ ap rest (sym (drop_more all i item less)))
    ∙ e

term-of : (x : NetTerm) → view_term x ≡ (x.minus, view x.value)
term-of x = search (forms.the_lemmas)

factor-of : (x : NetFactor) → view_factor x ≡ (view_mul x.op, view x.value)
factor-of x = search (forms.the_lemmas)

branch-of : (x : NetBranch) → view_branch x ≡ (view (out-NetBranch x).cond, view (out-NetBranch x).value)
branch-of x = search (forms.the_lemmas)

pub terms_stepped : (f : ℕ → NetExpr) (made made_now : List NetTerm) (all : List NetTerm) (i : ℕ) (item : NetTerm) (one : NetTerm) → i < length all → item ≡ get_or all i item
    → view_term one ≡ (item.minus, replaced f (view item.value)) → made_now ≡ made ++ one ∷ []
    → map view_term made ++ made_terms f (view_terms (drop i all)) ≡ made_terms f (view_terms all)
    → map view_term made_now ++ made_terms f (view_terms (drop (i + 1) all)) ≡ made_terms f (view_terms all)
terms_stepped f made made_now all i item one less at is now e =
    stepped view_term (λ xs. made_terms f (view_terms xs)) (λ x. (x.minus, replaced f (view x.value))) made made_now all i item one (made_terms f (view_terms all))
    (λ x xs. ap (λ y. (y.0, replaced f y.1) ∷ made_terms f (view_terms xs)) (term-of x)) less at is now e

pub factors_stepped : (f : ℕ → NetExpr) (made made_now : List NetFactor) (all : List NetFactor) (i : ℕ) (item : NetFactor) (one : NetFactor) → i < length all → item ≡ get_or all i item
    → view_factor one ≡ (view_mul item.op, replaced f (view item.value)) → made_now ≡ made ++ one ∷ []
    → map view_factor made ++ made_factors f (view_factors (drop i all)) ≡ made_factors f (view_factors all)
    → map view_factor made_now ++ made_factors f (view_factors (drop (i + 1) all)) ≡ made_factors f (view_factors all)
factors_stepped f made made_now all i item one less at is now e =
    stepped view_factor (λ xs. made_factors f (view_factors xs)) (λ x. (view_mul x.op, replaced f (view x.value))) made made_now all i item one (made_factors f (view_factors all))
    (λ x xs. ap (λ y. (y.0, replaced f y.1) ∷ made_factors f (view_factors xs)) (factor-of x)) less at is now e

pub branches_stepped : (f : ℕ → NetExpr) (made made_now : List NetBranch) (all : List NetBranch) (i : ℕ) (item : NetBranch) (one : NetBranch) → i < length all → item ≡ get_or all i item
    → view_branch one ≡ (replaced f (view (out-NetBranch item).cond), replaced f (view (out-NetBranch item).value)) → made_now ≡ made ++ one ∷ []
    → map view_branch made ++ made_branches f (view_branches (drop i all)) ≡ made_branches f (view_branches all)
    → map view_branch made_now ++ made_branches f (view_branches (drop (i + 1) all)) ≡ made_branches f (view_branches all)
branches_stepped f made made_now all i item one less at is now e =
    stepped view_branch (λ xs. made_branches f (view_branches xs)) (λ x. (replaced f (view (out-NetBranch x).cond), replaced f (view (out-NetBranch x).value))) made made_now all i item one (made_branches f (view_branches all))
    (λ x xs. ap (λ y. (replaced f y.0, replaced f y.1) ∷ made_branches f (view_branches xs)) (branch-of x)) less at is now e
