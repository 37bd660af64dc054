-- An expression in which algebraic variables are replaced by ones that name none names none.
use Rattle.std.proofs.Common.{◌≡◌, ℕ, suc, ◌<◌, Bool, true, false, List, [], ◌∷◌, ◌++◌, map, length, slice_get, Option, Some, None, inl, inr, refl, sym, subst, arith}
use Rattle.std.specs.Prelude.{flat_map}
use Rattle.std.specs.List.{list_all}
use Rattle.std.proofs.lemmas.Bool.Decides.{nat_tests}
use Rattle.cif_system.specs.Words.{Member}
use Rattle.cif_system.proofs.Distinct.{member-append, member-map, member-flat_map}
use Rattle.cif_system.proofs.Picks.{at-member}
use Rattle.cif_net_expr.specs.Tree.{NetExpr, net_expr, NetForm, n_truth, n_number, n_loc, n_var, n_input, n_alg, n_received, n_minus, n_plus, n_not, n_abs, n_min, n_max, n_sum, n_product, n_compare, n_and, n_or, n_implies, n_iff, n_if, NetExprs, no_net_exprs, net_exprs, NetTerms, no_net_terms, net_terms, NetFactors, no_net_factors, net_factors, NetBranches, no_net_branches, net_branches}
use Rattle.cif_net_model.specs.Net.{NetAuto, NetAlg, NetExclusion, NetInvariant, Net}
use Rattle.cif_net_model.specs.Exprs.{placed, alg_exprs, edge_exprs, all_edges, other_exprs}
use Rattle.cif_net_model.specs.Facts.{channel_of, auto_stands, edge_stands, alg_stands, exclusion_stands, invariant_stands, is_net}
use Rattle.cif_net_model.specs.Inline.{replaced, form_replaced, terms_replaced, factors_replaced, list_replaced, branches_replaced, alg_replaced, place_branches, last_of, by_places, defined_by}
use Rattle.cif_net_model.specs.Interval.{truths}
use Rattle.cif_net_model.specs.Reads.{Read, alg_passes, names_in, form_names, term_names, factor_names, list_names, branch_names, names_no_alg}
use Rattle.cif_net_model.specs.Rules.{Evaluated, edge_evaluated, evaluated}
use Rattle.cif_net_model.specs.Shown.{channel_range}
use Rattle.cif_net_model.proofs.Passing.{and-left, and-right, both-pass, all-member}
use Rattle.cif_net_laws.proofs.Induction as induction
use Rattle.cif_net_laws.proofs.Lists.{and-both, pass-both}
use Rattle.cif_net_laws.proofs.Naming.{Names, NamesIn, all_name, is_there, edge-names, alg-names, exclusion-names, invariant-names, autos-stand, algs-stand, exclusions-stand, invariants-stand}
use Rattle.cif_net_laws.proofs.Settled.{Settled, there-at}
use Rattle.cif_net_laws.proofs.Solved.{alg-cases}

abbrev pub Free : List Read → Type 0
Free xs = list_all (alg_passes (λ k. false)) xs ≡ true

free-both : (xs ys : List Read) → Free xs → Free ys → Free (xs ++ ys)
free-both xs ys h k = pass-both (alg_passes (λ j. false)) xs ys h k

placed-free : (at : ℕ) (e : NetExpr) → Free (names_in e) → Free (names_in (placed at e))
placed-free at (net_expr f j) h = h

module _ (c : ℕ → NetExpr) (p : ℕ → Bool) (free : (k : ℕ) → p k ≡ true → Free (names_in (c k))) where
  pair-free : (a b : NetExpr) → (NamesIn p a → Free (names_in (replaced c a))) → (NamesIn p b → Free (names_in (replaced c b))) → Names p (names_in a ++ names_in b) → Free (names_in (replaced c a) ++ names_in (replaced c b))
  pair-free a b h k n = let ns = both-pass (alg_passes p) (names_in a) (names_in b) n in free-both (names_in (replaced c a)) (names_in (replaced c b)) (h ns.0) (k ns.1)

  mutual
    pub replaced-free : (e : NetExpr) → NamesIn p e → Free (names_in (replaced c e))
    replaced-free (net_expr f at) n = form-free at f n

    form-free : (at : ℕ) (f : NetForm) → Names p (form_names f) → Free (names_in (form_replaced c at f))
    form-free at (n_truth b) n = refl
    form-free at (n_number z) n = refl
    form-free at (n_loc a k) n = refl
    form-free at (n_var k) n = refl
    form-free at (n_input k) n = refl
    form-free at (n_alg k) n = placed-free at (c k) (free k (and-left _ _ n))
    form-free at n_received n = refl
    form-free at (n_minus e) n = replaced-free e n
    form-free at (n_plus e) n = replaced-free e n
    form-free at (n_not e) n = replaced-free e n
    form-free at (n_abs e) n = replaced-free e n
    form-free at (n_min a b) n = pair-free a b (replaced-free a) (replaced-free b) n
    form-free at (n_max a b) n = pair-free a b (replaced-free a) (replaced-free b) n
    form-free at (n_sum e es) n = let ns = both-pass (alg_passes p) (names_in e) (term_names es) n in free-both (names_in (replaced c e)) (term_names (terms_replaced c es)) (replaced-free e ns.0) (terms-free es ns.1)
    form-free at (n_product e es) n = let ns = both-pass (alg_passes p) (names_in e) (factor_names es) n in free-both (names_in (replaced c e)) (factor_names (factors_replaced c es)) (replaced-free e ns.0) (factors-free es ns.1)
    form-free at (n_compare a op b) n = pair-free a b (replaced-free a) (replaced-free b) n
    form-free at (n_and es) n = list-free es n
    form-free at (n_or es) n = list-free es n
    form-free at (n_implies a b) n = pair-free a b (replaced-free a) (replaced-free b) n
    form-free at (n_iff a b) n = pair-free a b (replaced-free a) (replaced-free b) n
    form-free at (n_if bs e) n = let ns = both-pass (alg_passes p) (branch_names bs) (names_in e) n in free-both (branch_names (branches_replaced c bs)) (names_in (replaced c e)) (branches-free bs ns.0) (replaced-free e ns.1)

    terms-free : (es : NetTerms) → Names p (term_names es) → Free (term_names (terms_replaced c es))
    terms-free no_net_terms n = refl
    terms-free (net_terms m e es) n = let ns = both-pass (alg_passes p) (names_in e) (term_names es) n in free-both (names_in (replaced c e)) (term_names (terms_replaced c es)) (replaced-free e ns.0) (terms-free es ns.1)

    factors-free : (es : NetFactors) → Names p (factor_names es) → Free (factor_names (factors_replaced c es))
    factors-free no_net_factors n = refl
    factors-free (net_factors op e es) n = let ns = both-pass (alg_passes p) (names_in e) (factor_names es) n in free-both (names_in (replaced c e)) (factor_names (factors_replaced c es)) (replaced-free e ns.0) (factors-free es ns.1)

    list-free : (es : NetExprs) → Names p (list_names es) → Free (list_names (list_replaced c es))
    list-free no_net_exprs n = refl
    list-free (net_exprs e es) n = let ns = both-pass (alg_passes p) (names_in e) (list_names es) n in free-both (names_in (replaced c e)) (list_names (list_replaced c es)) (replaced-free e ns.0) (list-free es ns.1)

    branches-free : (bs : NetBranches) → Names p (branch_names bs) → Free (branch_names (branches_replaced c bs))
    branches-free no_net_branches n = refl
    branches-free (net_branches e f bs) n =
        let ns = both-pass (alg_passes p) (names_in e) (names_in f ++ branch_names bs) n in
        let ms = both-pass (alg_passes p) (names_in f) (branch_names bs) ns.1 in
        free-both (names_in (replaced c e)) (names_in (replaced c f) ++ branch_names (branches_replaced c bs)) (replaced-free e ns.0)
        (free-both (names_in (replaced c f)) (branch_names (branches_replaced c bs)) (replaced-free f ms.0) (branches-free bs ms.1))

  each-free : (es : List NetExpr) → all_name p es ≡ true → list_all names_no_alg (map (replaced c) es) ≡ true
  each-free [] n = refl
  each-free (e ∷ es) n = and-both _ _ (replaced-free e (and-left _ _ n)) (each-free es (and-right _ _ n))

  pub alg-free : (a : NetAlg) → all_name p (alg_exprs a) ≡ true → Free (names_in (defined_by (alg_replaced c a)))
  alg-free =
      alg-cases (λ a. all_name p (alg_exprs a) ≡ true → Free (names_in (defined_by (alg_replaced c a)))) (λ a e n. replaced-free e (and-left _ _ n)) (λ a i es n. places i (map (replaced c) es) (each-free es n))
    where
      branches : (i j : ℕ) (e : NetExpr) (es : List NetExpr) → list_all names_no_alg (e ∷ es) ≡ true → Free (branch_names (place_branches i j e es)) × Free (names_in (last_of e es))
      branches i j e [] h = (refl, and-left _ _ h)
      branches i j e (f ∷ fs) h =
          let rest = branches i (suc j) f fs (and-right _ _ h) in
          (free-both (names_in e) (branch_names (place_branches i (suc j) f fs)) (and-left _ _ h) rest.0, rest.1)

      places : (i : ℕ) (es : List NetExpr) → list_all names_no_alg es ≡ true → Free (names_in (by_places i es))
      places i [] h = refl
      places i (e ∷ []) h = and-left _ _ h
      places i (e ∷ f ∷ fs) h = let w = branches i 0 e (f ∷ fs) h in free-both (branch_names (place_branches i 0 e (f ∷ fs))) (names_in (last_of f fs)) w.0 w.1

module _ (n p : Net) (net : is_net n ≡ true) (s : Settled n p) where
  absent : (k : ℕ) → slice_get n.algs k ≡ None → is_there n k ≡ true → ⊥
  absent k e t =
      let l : k < length n.algs = grind (arith, nat_tests) in
      let a = there-at n.algs k l in
      none (slice_get n.algs k) a.0 e a.1
    where
      none : (o : Option NetAlg) (a : NetAlg) → o ≡ None → o ≡ Some a → ⊥
      none o a h g = cc

  by-free : (k : ℕ) → is_there n k ≡ true → Free (names_in (s.by k))
  by-free = induction.each n p s (λ k e. is_there n k ≡ true → Free (names_in e)) (λ k. net_expr (n_truth true) 0) (λ k t. refl) (λ k e t. absurd (absent k e t))
      (λ c before k a e t. alg-free c (is_there n) before a (alg-names n a (all-member (alg_stands n) n.algs a (algs-stand n net) (at-member n.algs k a e))))

  -- ---- all that is evaluated

  edges-name : (x : Evaluated) → Member x (flat_map (edge_evaluated n) (all_edges n)) → NamesIn (is_there n) x.value
  edges-name x m =
      let y = member-flat_map (edge_evaluated n) x (all_edges n) m in
      let a = member-flat_map (λ (b : NetAuto). b.edges) y.0 n.autos y.1 in
      let e = member-map (λ e. record { value = e; received = channel_range (channel_of n y.0.event) }) x (edge_exprs y.0) y.2 in
      let stands : edge_stands n a.0 y.0 ≡ true = all-member (edge_stands n a.0) a.0.edges y.0 (and-right _ _ (all-member (auto_stands n) n.autos a.0 (autos-stand n net) a.1)) a.2 in
      subst (λ (z : Evaluated). NamesIn (is_there n) z.value) (sym e.2) (all-member (λ g. list_all (alg_passes (is_there n)) (names_in g)) (edge_exprs y.0) e.0 (edge-names n a.0 y.0 stands) e.1)

  exclusion-name : (e : NetExpr) → Member e (map (λ (x : NetExclusion). x.pred) n.exclusions) → NamesIn (is_there n) e
  exclusion-name e m =
      let x = member-map (λ (x : NetExclusion). x.pred) e n.exclusions m in
      subst (NamesIn (is_there n)) (sym x.2) (exclusion-names n net x.0 (all-member (exclusion_stands n) n.exclusions x.0 (exclusions-stand n net) x.1))

  invariant-name : (e : NetExpr) → Member e (map (λ (i : NetInvariant). i.pred) n.invariants) → NamesIn (is_there n) e
  invariant-name e m =
      let x = member-map (λ (i : NetInvariant). i.pred) e n.invariants m in
      subst (NamesIn (is_there n)) (sym x.2) (invariant-names n net x.0 (all-member (invariant_stands n) n.invariants x.0 (invariants-stand n net) x.1))

  alg-name : (e : NetExpr) → Member e (flat_map alg_exprs n.algs) → NamesIn (is_there n) e
  alg-name e m =
      let a = member-flat_map alg_exprs e n.algs m in
      all-member (λ g. list_all (alg_passes (is_there n)) (names_in g)) (alg_exprs a.0) e (alg-names n a.0 (all-member (alg_stands n) n.algs a.0 (algs-stand n net) a.1)) a.2

  other-name : (e : NetExpr) → Member e (other_exprs n) → NamesIn (is_there n) e
  other-name e m =
      elim (member-append e (map (λ (x : NetExclusion). x.pred) n.exclusions) (map (λ (i : NetInvariant). i.pred) n.invariants ++ flat_map alg_exprs n.algs) m) [
        | inl w ↦ exclusion-name e w
        | inr v ↦
            elim (member-append e (map (λ (i : NetInvariant). i.pred) n.invariants) (flat_map alg_exprs n.algs) v) [
              | inl w ↦ invariant-name e w
              | inr w ↦ alg-name e w
            ]
      ]

  evaluated-name : (x : Evaluated) → Member x (evaluated n) → NamesIn (is_there n) x.value
  evaluated-name x m =
      elim (member-append x (flat_map (edge_evaluated n) (all_edges n)) (map (λ e. record { value = e; received = truths }) (other_exprs n)) m) [
        | inl w ↦ edges-name x w
        | inr w ↦
            let e = member-map (λ e. record { value = e; received = truths }) x (other_exprs n) w in
            subst (λ (z : Evaluated). NamesIn (is_there n) z.value) (sym e.2) (other-name e.0 e.1)
      ]

  pub evaluated-free : (x : Evaluated) → Member x (evaluated n) → names_no_alg (replaced s.by x.value) ≡ true
  evaluated-free x m = replaced-free s.by (is_there n) by-free x.value (evaluated-name x m)
