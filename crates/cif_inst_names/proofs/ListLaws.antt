-- The operands and branches of expressions, as lists.
use Rattle.std.proofs.Common.{◌≡◌, ℕ, ◌+◌, ◌<◌, ◌≤◌, Bool, List, [], ◌∷◌, ◌++◌, length, map, drop, get_or, append-nil, refl, sym, ap, ◌∙◌}
use Rattle.std.proofs.lemmas.List.{drop_all, drop_more, map-append, append_assoc}
use Rattle.cif_ast.specs.Tree.{Trees, no_trees, trees, Terms, no_terms, terms, Factors, no_factors, factors, Branches, no_branches, branches}
use Rattle.cif_ast.specs.View.{view, view_exprs, view_term, view_terms, view_factor, view_factors, view_branch, view_branches}
use Rattle.cif_ast.specs.declared.expressions.Expr.{Expr}
use Rattle.cif_ast.specs.declared.expressions.Form.TheFolds as forms
use Rattle.cif_ast.specs.declared.expressions.Term.{Term}
use Rattle.cif_ast.specs.declared.expressions.Factor.{Factor}
use Rattle.cif_ast.specs.declared.expressions.Branch.{Branch, out-Branch}
use Rattle.cif_ast.specs.declared.names.Name.{Name}
use Rattle.cif_net_expr.specs.Tree.{MulOp, NetExpr, net_exprs, net_terms, net_factors, net_branches}
use Rattle.cif_net_expr.specs.View as net
use Rattle.cif_net_expr.specs.declared.expressions.NetBranch.{NetBranch}
use Rattle.cif_net_expr.specs.declared.expressions.NetFactor.{NetFactor}
use Rattle.cif_net_expr.specs.declared.expressions.NetTerm.{NetTerm}
use Rattle.cif_net_expr.specs.View.{exprs_of, terms_of, factors_of, branches_of}
use Rattle.cif_inst_model.specs.Translation.{net_with, net_factor, conjunction, net_exprs_of, net_terms_of, net_factors_of, net_branches_of}

abbrev pub made_exprs : (Name → ℕ → NetExpr) → Trees → List NetExpr
made_exprs f no_trees = []
made_exprs f (trees e es) = net_with f e ∷ made_exprs f es

abbrev pub made_terms : (Name → ℕ → NetExpr) → Terms → List (Bool × NetExpr)
made_terms f no_terms = []
made_terms f (terms minus e es) = (minus, net_with f e) ∷ made_terms f es

abbrev pub made_factors : (Name → ℕ → NetExpr) → Factors → List (MulOp × NetExpr)
made_factors f no_factors = []
made_factors f (factors op e es) = (net_factor op, net_with f e) ∷ made_factors f es

abbrev pub made_branches : (Name → ℕ → NetExpr) → Branches → List (NetExpr × NetExpr)
made_branches f no_branches = []
made_branches f (branches cs e bs) = (conjunction (net_exprs_of f cs), net_with f e) ∷ made_branches f bs

pub exprs_made : (f : Name → ℕ → NetExpr) (es : Trees) → exprs_of (made_exprs f es) ≡ net_exprs_of f es
exprs_made f no_trees = refl
exprs_made f (trees e es) = ap (net_exprs (net_with f e)) (exprs_made f es)

pub terms_made : (f : Name → ℕ → NetExpr) (es : Terms) → terms_of (made_terms f es) ≡ net_terms_of f es
terms_made f no_terms = refl
terms_made f (terms minus e es) = ap (net_terms minus (net_with f e)) (terms_made f es)

pub factors_made : (f : Name → ℕ → NetExpr) (es : Factors) → factors_of (made_factors f es) ≡ net_factors_of f es
factors_made f no_factors = refl
factors_made f (factors op e es) = ap (net_factors (net_factor op) (net_with f e)) (factors_made f es)

pub branches_made : (f : Name → ℕ → NetExpr) (bs : Branches) → branches_of (made_branches f bs) ≡ net_branches_of f bs
branches_made f no_branches = refl
branches_made f (branches cs e bs) = ap (net_branches (conjunction (net_exprs_of f cs)) (net_with f e)) (branches_made f bs)

-- ---- at the end of a loop, where nothing is left to make

pub ended : {A B : Type 0} (made : List A) (rest : List B → List A) (all : List B) (i : ℕ) → length all ≤ i → rest [] ≡ [] → made ++ rest (drop i all) ≡ rest all → made ≡ rest all
ended made rest all i h n e = sym (append-nil made) ∙ ap (λ xs. made ++ xs) (sym n) ∙ ap (λ xs. made ++ rest xs) (sym (drop_all i all h)) ∙ e

pub exprs_ended : (f : Name → ℕ → NetExpr) (made : List NetExpr) (all : List Expr) (i : ℕ) → length all ≤ i
    → made ++ made_exprs f (view_exprs (drop i all)) ≡ made_exprs f (view_exprs all) → exprs_of made ≡ net_exprs_of f (view_exprs all)
exprs_ended f made all i h e = ap exprs_of (ended made (λ xs. made_exprs f (view_exprs xs)) all i h refl e) ∙ exprs_made f (view_exprs all)

pub terms_ended : (f : Name → ℕ → NetExpr) (made : List (Bool × NetExpr)) (all : List Term) (i : ℕ) → length all ≤ i
    → made ++ made_terms f (view_terms (drop i all)) ≡ made_terms f (view_terms all) → terms_of made ≡ net_terms_of f (view_terms all)
terms_ended f made all i h e = ap terms_of (ended made (λ xs. made_terms f (view_terms xs)) all i h refl e) ∙ terms_made f (view_terms all)

pub factors_ended : (f : Name → ℕ → NetExpr) (made : List (MulOp × NetExpr)) (all : List Factor) (i : ℕ) → length all ≤ i
    → made ++ made_factors f (view_factors (drop i all)) ≡ made_factors f (view_factors all) → factors_of made ≡ net_factors_of f (view_factors all)
factors_ended f made all i h e = ap factors_of (ended made (λ xs. made_factors f (view_factors xs)) all i h refl e) ∙ factors_made f (view_factors all)

pub branches_ended : (f : Name → ℕ → NetExpr) (made : List (NetExpr × NetExpr)) (all : List Branch) (i : ℕ) → length all ≤ i
    → made ++ made_branches f (view_branches (drop i all)) ≡ made_branches f (view_branches all) → branches_of made ≡ net_branches_of f (view_branches all)
branches_ended f made all i h e = ap branches_of (ended made (λ xs. made_branches f (view_branches xs)) all i h refl e) ∙ branches_made f (view_branches all)

-- ---- at a turn of a loop, where one more is made

stepped : {A B C : Type 0} (shown : C → A) (rest : List B → List A) (as_made : B → A) (made made_now : List C) (all : List B) (i : ℕ) (item : B) (one : C) (whole : List A)
    → ((x : B) (xs : List B) → rest (x ∷ xs) ≡ as_made x ∷ rest xs) → i < length all → item ≡ get_or all i item → shown one ≡ as_made item → made_now ≡ made ++ one ∷ []
    → map shown made ++ rest (drop i all) ≡ whole → map shown made_now ++ rest (drop (i + 1) all) ≡ whole
stepped shown rest as_made made made_now all i item one whole split less at is now e =
    let left = rest (drop (i + 1) all) in
    ap (λ ms. map shown ms ++ left) now
    ∙ ap (λ ms. ms ++ left) (map-append shown made (one ∷ []))
    ∙ append_assoc (map shown made) (shown one ∷ []) left
    ∙ ap (λ x. map shown made ++ x ∷ left) is
    ∙ ap (λ xs. map shown made ++ xs)
    (sym (split item (drop (i + 1) all)) ∙ ap (λ x. rest (x ∷ drop (i + 1) all)) at ∙ ap rest (sym (drop_more all i item less)))
    ∙ e

term-of : (x : Term) → view_term x ≡ (x.minus, view x.value)
term-of x = search (forms.the_lemmas)

factor-of : (x : Factor) → view_factor x ≡ (x.op, view x.value)
factor-of x = search (forms.the_lemmas)

branch-of : (x : Branch) → view_branch x ≡ (view_exprs (out-Branch x).conds, view (out-Branch x).value)
branch-of x = search (forms.the_lemmas)

pub terms_stepped : (f : Name → ℕ → NetExpr) (made made_now : List NetTerm) (all : List Term) (i : ℕ) (item : Term) (one : NetTerm) → i < length all → item ≡ get_or all i item
    → net.view_term one ≡ (item.minus, net_with f (view item.value)) → made_now ≡ made ++ one ∷ []
    → map net.view_term made ++ made_terms f (view_terms (drop i all)) ≡ made_terms f (view_terms all)
    → map net.view_term made_now ++ made_terms f (view_terms (drop (i + 1) all)) ≡ made_terms f (view_terms all)
terms_stepped f made made_now all i item one less at is now e =
    stepped net.view_term (λ xs. made_terms f (view_terms xs)) (λ x. (x.minus, net_with f (view x.value))) made made_now all i item one (made_terms f (view_terms all))
    (λ x xs. ap (λ y. (y.0, net_with f y.1) ∷ made_terms f (view_terms xs)) (term-of x)) less at is now e

pub factors_stepped : (f : Name → ℕ → NetExpr) (made made_now : List NetFactor) (all : List Factor) (i : ℕ) (item : Factor) (one : NetFactor) → i < length all → item ≡ get_or all i item
    → net.view_factor one ≡ (net_factor item.op, net_with f (view item.value)) → made_now ≡ made ++ one ∷ []
    → map net.view_factor made ++ made_factors f (view_factors (drop i all)) ≡ made_factors f (view_factors all)
    → map net.view_factor made_now ++ made_factors f (view_factors (drop (i + 1) all)) ≡ made_factors f (view_factors all)
factors_stepped f made made_now all i item one less at is now e =
    stepped net.view_factor (λ xs. made_factors f (view_factors xs)) (λ x. (net_factor x.op, net_with f (view x.value))) made made_now all i item one (made_factors f (view_factors all))
    (λ x xs. ap (λ y. (net_factor y.0, net_with f y.1) ∷ made_factors f (view_factors xs)) (factor-of x)) less at is now e

pub branches_stepped : (f : Name → ℕ → NetExpr) (made made_now : List NetBranch) (all : List Branch) (i : ℕ) (item : Branch) (one : NetBranch) → i < length all → item ≡ get_or all i item
    → net.view_branch one ≡ (conjunction (net_exprs_of f (view_exprs (out-Branch item).conds)), net_with f (view (out-Branch item).value)) → made_now ≡ made ++ one ∷ []
    → map net.view_branch made ++ made_branches f (view_branches (drop i all)) ≡ made_branches f (view_branches all)
    → map net.view_branch made_now ++ made_branches f (view_branches (drop (i + 1) all)) ≡ made_branches f (view_branches all)
branches_stepped f made made_now all i item one less at is now e =
    stepped net.view_branch (λ xs. made_branches f (view_branches xs)) (λ x. (conjunction (net_exprs_of f (view_exprs (out-Branch x).conds)), net_with f (view (out-Branch x).value))) made made_now all i item one (made_branches f (view_branches all))
    (λ x xs. ap (λ y. (conjunction (net_exprs_of f y.0), net_with f y.1) ∷ made_branches f (view_branches xs)) (branch-of x)) less at is now e
