-- Copies along the forms of an expression are those of what it names.
use Rattle.std.proofs.Common.{◌≡◌, ℕ, List, [], ◌∷◌, ◌++◌, Option, Some, None, refl, sym, ap, ◌∙◌}
use Rattle.std.specs.Prelude.{filter_map, flat_map, option_map, slice_get}
use Rattle.std.specs.List.{cons_option}
use Rattle.cif_system.specs.System.{State}
use Rattle.cif_net_expr.specs.Tree.{NetExpr, net_expr, NetForm, n_truth, n_number, n_loc, n_var, n_input, n_alg, n_received, n_minus, n_plus, n_not, n_abs, n_min, n_max, n_sum, n_product, n_compare, n_and, n_or, n_implies, n_iff, n_if, NetExprs, no_net_exprs, net_exprs, NetTerms, no_net_terms, net_terms, NetFactors, no_net_factors, net_factors, NetBranches, no_net_branches, net_branches}
use Rattle.cif_net_model.specs.Net.{NetInvariant}
use Rattle.cif_net_model.specs.Reads.{Read, names_in, form_names, term_names, factor_names, list_names, branch_names}
use Rattle.cif_eval.specs.Copies.{copied, copied_one, copied_expr, copied_form, copied_terms, copied_factors, copied_exprs, copied_branches, copied_invariant, copied_invariants}

copied-append : (xs ys : List Read) (s t : State) → copied (xs ++ ys) s t ≡ copied ys s (copied xs s t)
copied-append [] ys s t = refl
copied-append (x ∷ xs) ys s t = copied-append xs ys s (copied_one s t x)

-- the predicates of the state invariants with these numbers
abbrev pub predicates : List NetInvariant → List ℕ → List NetExpr
predicates all ks = filter_map (λ k. option_map (λ (i : NetInvariant). i.pred) (slice_get all k)) ks

module _ (s : State) where
  -- first what xs names, and then what ys names
  behind : (xs ys : List Read) (f : State → State) (t u : State) → u ≡ copied xs s t → ((v : State) → f v ≡ copied ys s v) → f u ≡ copied (xs ++ ys) s t
  behind xs ys f t u h g = g u ∙ ap (copied ys s) h ∙ sym (copied-append xs ys s t)

  mutual
    pub expr-named : (e : NetExpr) (t : State) → copied_expr e s t ≡ copied (names_in e) s t
    expr-named (net_expr f at) t = form-named f t

    form-named : (f : NetForm) (t : State) → copied_form f s t ≡ copied (form_names f) s t
    form-named (n_truth b) t = refl
    form-named (n_number z) t = refl
    form-named (n_loc a k) t = refl
    form-named (n_var k) t = refl
    form-named (n_input k) t = refl
    form-named (n_alg k) t = refl
    form-named n_received t = refl
    form-named (n_minus e) t = expr-named e t
    form-named (n_plus e) t = expr-named e t
    form-named (n_not e) t = expr-named e t
    form-named (n_abs e) t = expr-named e t
    form-named (n_min a b) t = behind (names_in a) (names_in b) (copied_expr b s) t (copied_expr a s t) (expr-named a t) (expr-named b)
    form-named (n_max a b) t = behind (names_in a) (names_in b) (copied_expr b s) t (copied_expr a s t) (expr-named a t) (expr-named b)
    form-named (n_sum e es) t = behind (names_in e) (term_names es) (copied_terms es s) t (copied_expr e s t) (expr-named e t) (terms-named es)
    form-named (n_product e es) t = behind (names_in e) (factor_names es) (copied_factors es s) t (copied_expr e s t) (expr-named e t) (factors-named es)
    form-named (n_compare a op b) t = behind (names_in a) (names_in b) (copied_expr b s) t (copied_expr a s t) (expr-named a t) (expr-named b)
    form-named (n_and es) t = exprs-named es t
    form-named (n_or es) t = exprs-named es t
    form-named (n_implies a b) t = behind (names_in a) (names_in b) (copied_expr b s) t (copied_expr a s t) (expr-named a t) (expr-named b)
    form-named (n_iff a b) t = behind (names_in a) (names_in b) (copied_expr b s) t (copied_expr a s t) (expr-named a t) (expr-named b)
    form-named (n_if bs e) t = behind (branch_names bs) (names_in e) (copied_expr e s) t (copied_branches bs s t) (branches-named bs t) (expr-named e)

    terms-named : (es : NetTerms) (t : State) → copied_terms es s t ≡ copied (term_names es) s t
    terms-named no_net_terms t = refl
    terms-named (net_terms m e es) t = behind (names_in e) (term_names es) (copied_terms es s) t (copied_expr e s t) (expr-named e t) (terms-named es)

    factors-named : (es : NetFactors) (t : State) → copied_factors es s t ≡ copied (factor_names es) s t
    factors-named no_net_factors t = refl
    factors-named (net_factors op e es) t = behind (names_in e) (factor_names es) (copied_factors es s) t (copied_expr e s t) (expr-named e t) (factors-named es)

    exprs-named : (es : NetExprs) (t : State) → copied_exprs es s t ≡ copied (list_names es) s t
    exprs-named no_net_exprs t = refl
    exprs-named (net_exprs e es) t = behind (names_in e) (list_names es) (copied_exprs es s) t (copied_expr e s t) (expr-named e t) (exprs-named es)

    branches-named : (bs : NetBranches) (t : State) → copied_branches bs s t ≡ copied (branch_names bs) s t
    branches-named no_net_branches t = refl
    branches-named (net_branches c e bs) t =
        behind (names_in c) (names_in e ++ branch_names bs) (λ u. copied_branches bs s (copied_expr e s u)) t (copied_expr c s t) (expr-named c t)
        (λ u. behind (names_in e) (branch_names bs) (copied_branches bs s) u (copied_expr e s u) (expr-named e u) (branches-named bs))

  pub invariants-named : (all : List NetInvariant) (ks : List ℕ) (t : State) → copied_invariants all ks s t ≡ copied (flat_map names_in (predicates all ks)) s t
  invariants-named all [] t = refl
  invariants-named all (k ∷ ks) t = go (slice_get all k) (λ u. invariants-named all ks u)
    where
      go : (o : Option NetInvariant) → ((u : State) → copied_invariants all ks s u ≡ copied (flat_map names_in (predicates all ks)) s u)
          → copied_invariants all ks s (copied_invariant o s t) ≡ copied (flat_map names_in (cons_option (option_map (λ (i : NetInvariant). i.pred) o) (predicates all ks))) s t
      go None rest = rest t
      go (Some i) rest = behind (names_in i.pred) (flat_map names_in (predicates all ks)) (copied_invariants all ks s) t (copied_expr i.pred s t) (expr-named i.pred t) rest
