-- The algebraic variables that an expression names, put together from its parts, are those among its names.
use Rattle.std.proofs.Common.{◌≡◌, ℕ, List, [], ◌∷◌, ◌++◌, inl, inr}
use Rattle.std.specs.Prelude.{flat_map}
use Rattle.cif_system.specs.Words.{Member}
use Rattle.cif_system.proofs.Distinct.{member-append, member-flat_map}
use Rattle.cif_system.proofs.Picks.{append-left, append-right, flat_map-member}
use Rattle.cif_net_expr.specs.Tree.{NetExpr, net_expr, NetForm, n_truth, n_number, n_loc, n_var, n_input, n_alg, n_received, n_minus, n_plus, n_not, n_abs, n_min, n_max, n_sum, n_product, n_compare, n_and, n_or, n_implies, n_iff, n_if, NetExprs, no_net_exprs, net_exprs, NetTerms, no_net_terms, net_terms, NetFactors, no_net_factors, net_factors, NetBranches, no_net_branches, net_branches}
use Rattle.cif_net_model.specs.Net.{NetAlg}
use Rattle.cif_net_model.specs.Exprs.{alg_exprs}
use Rattle.cif_net_model.specs.Reads.{Read, an_alg, names_in, form_names, term_names, factor_names, list_names, branch_names}
use Rattle.cif_alg_order.specs.Names.{algs_in, form_algs, term_algs, factor_algs, list_algs, branch_algs, algs_of}

-- the numbers are those of the algebraic variables among the names
record Same (ks : List ℕ) (rs : List Read) : Type 0 where
  to : (k : ℕ) → Member k ks → Member (an_alg k) rs
  back : (k : ℕ) → Member (an_alg k) rs → Member k ks

both : (ks ls : List ℕ) (rs qs : List Read) → Same ks rs → Same ls qs → Same (ks ++ ls) (rs ++ qs)
both ks ls rs qs a b = record {
  to = λ k m. elim (member-append k ks ls m) [ inl h ↦ append-left (an_alg k) rs qs (a.to k h) | inr h ↦ append-right (an_alg k) rs qs (b.to k h) ];
  back = λ k m. elim (member-append (an_alg k) rs qs m) [ inl h ↦ append-left k ks ls (a.back k h) | inr h ↦ append-right k ks ls (b.back k h) ];
}

none : Same [] []
none = record { to = λ k m. absurd m; back = λ k m. absurd m }

-- a name of something else
other : (r : Read) → ((k : ℕ) → an_alg k ≡ r → ⊥) → Same [] (r ∷ [])
other r h = record { to = λ k m. absurd m; back = λ k m. elim m [ inl e ↦ absurd (h k e) | inr w ↦ absurd w ] }

mutual
  same : (e : NetExpr) → Same (algs_in e) (names_in e)
  same (net_expr f at) = form-same f

  form-same : (f : NetForm) → Same (form_algs f) (form_names f)
  form-same (n_truth b) = none
  form-same (n_number z) = none
  form-same (n_loc a p) = other _ (λ k e. cc)
  form-same (n_var v) = other _ (λ k e. cc)
  form-same (n_input v) = other _ (λ k e. cc)
  form-same (n_alg v) = record {
    to = λ k m. elim m [ inl e ↦ inl cc | inr w ↦ absurd w ];
    back = λ k m. elim m [ inl e ↦ inl cc | inr w ↦ absurd w ];
  }
  form-same n_received = other _ (λ k e. cc)
  form-same (n_minus e) = same e
  form-same (n_plus e) = same e
  form-same (n_not e) = same e
  form-same (n_abs e) = same e
  form-same (n_min a b) = both _ _ _ _ (same a) (same b)
  form-same (n_max a b) = both _ _ _ _ (same a) (same b)
  form-same (n_sum e es) = both _ _ _ _ (same e) (terms-same es)
  form-same (n_product e es) = both _ _ _ _ (same e) (factors-same es)
  form-same (n_compare a op b) = both _ _ _ _ (same a) (same b)
  form-same (n_and es) = list-same es
  form-same (n_or es) = list-same es
  form-same (n_implies a b) = both _ _ _ _ (same a) (same b)
  form-same (n_iff a b) = both _ _ _ _ (same a) (same b)
  form-same (n_if bs e) = both _ _ _ _ (branches-same bs) (same e)

  terms-same : (es : NetTerms) → Same (term_algs es) (term_names es)
  terms-same no_net_terms = none
  terms-same (net_terms m e es) = both _ _ _ _ (same e) (terms-same es)

  factors-same : (es : NetFactors) → Same (factor_algs es) (factor_names es)
  factors-same no_net_factors = none
  factors-same (net_factors op e es) = both _ _ _ _ (same e) (factors-same es)

  list-same : (es : NetExprs) → Same (list_algs es) (list_names es)
  list-same no_net_exprs = none
  list-same (net_exprs e es) = both _ _ _ _ (same e) (list-same es)

  branches-same : (bs : NetBranches) → Same (branch_algs bs) (branch_names bs)
  branches-same no_net_branches = none
  branches-same (net_branches c e bs) = both _ _ _ _ (same c) (both _ _ _ _ (same e) (branches-same bs))

pub named : (a : NetAlg) (k : ℕ) → Member k (algs_of a) → Member (an_alg k) (flat_map names_in (alg_exprs a))
named a k m = let f = member-flat_map algs_in k (alg_exprs a) m in flat_map-member names_in f.0 (alg_exprs a) (an_alg k) f.1 ((same f.0).to k f.2)

pub named-back : (a : NetAlg) (k : ℕ) → Member (an_alg k) (flat_map names_in (alg_exprs a)) → Member k (algs_of a)
named-back a k m = let f = member-flat_map names_in (an_alg k) (alg_exprs a) m in flat_map-member algs_in f.0 (alg_exprs a) k f.1 ((same f.0).back k f.2)
