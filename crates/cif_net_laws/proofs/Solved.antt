-- What is told of expressions that replace algebraic variables is what is told of these, unfolded: for values, intervals
-- and measures alike.
use Rattle.std.proofs.Common.{◌≡◌, ℕ, zero, suc, ◌<◌, ◌≤◌, Bool, true, false, List, [], ◌∷◌, map, length, inl, inr, Option, Some, None, refl, sym, ◌∙◌, ap, slice_get, if◌then◌else◌, arith}
use Rattle.std.specs.Prelude.{nat_lt}
use Rattle.std.proofs.lemmas.Bool.Decides.{nat_tests}
use Rattle.std.proofs.Math.Path.{fun_ext}
use Rattle.cif_system.specs.Words.{Member}
use Rattle.cif_system.proofs.Lists.{slice_get-below, map-length}
use Rattle.cif_system.proofs.Picks.{at-member}
use Rattle.cif_net_expr.specs.Tree.{NetExpr, net_expr, n_truth, n_alg}
use Rattle.cif_net_model.specs.Net.{AlgValue, one_value, by_loc, NetAlg, Net}
use Rattle.cif_net_model.specs.Exprs.{alg_exprs}
use Rattle.cif_net_model.specs.Inline.{replaced, alg_replaced, defined_by}
use Rattle.cif_net_model.specs.Unfolding.{at_or, unfolded}
use Rattle.cif_net_model.proofs.UnfoldLaws.{unfolded-at, unfolded-past}
use Rattle.cif_net_laws.proofs.Lists.{map-after}
use Rattle.cif_net_laws.proofs.Naming.{all_name}
use Rattle.cif_net_laws.proofs.Same.{alg-same}
use Rattle.cif_net_laws.proofs.Settled.{Settled}

-- a definition is one expression, or one for each place
pub alg-cases : (P : NetAlg → Type 0) → ((a : NetAlg) (e : NetExpr) → P (record a { value = one_value e })) → ((a : NetAlg) (k : ℕ) (es : List NetExpr) → P (record a { value = by_loc k es })) → (a : NetAlg) → P a
alg-cases P one many a = by a.value
  where
    by : (v : AlgValue) → P (record a { value = v })
    by (one_value e) = one a e
    by (by_loc k es) = many a k es

pub member-at : {A : Type 0} (x : A) (xs : List A) → Member x xs → (k : ℕ) × (slice_get xs k ≡ Some x)
member-at x [] m = absurd m
member-at x (y ∷ ys) (inl e) = (0, ap Some (sym e))
member-at x (y ∷ ys) (inr m) = let r = member-at x ys m in (suc r.0, r.1)

map-none : {A B : Type 0} (h : A → B) (xs : List A) (k : ℕ) → slice_get xs k ≡ None → slice_get (map h xs) k ≡ None
map-none h [] k g = refl
map-none h (x ∷ xs) zero g = absurd cc
map-none h (x ∷ xs) (suc k) g = map-none h xs k g

below-less : (a b m : ℕ) → nat_lt a b ≡ true → b ≤ m → a < m
below-less a b m t h = grind (arith, nat_tests)

-- `ev` tells of an expression and `f` of a definition, given what is told of algebraic variables, and d past the last one
module _ {A : Type 0} (d : A) (ev : (ℕ → A) → NetExpr → A) (f : (ℕ → A) → NetAlg → A)
    (truth : (g h : ℕ → A) → ev g (net_expr (n_truth true) 0) ≡ ev h (net_expr (n_truth true) 0))
    (name : (g : ℕ → A) (k : ℕ) → ev g (net_expr (n_alg k) 0) ≡ g k)
    (after : (by : ℕ → NetExpr) (g : ℕ → A) (a : NetAlg) → f g (alg_replaced by a) ≡ f (λ k. ev g (by k)) a) where
  -- those that pass as they are
  abbrev cut : (ℕ → Bool) → ℕ → NetExpr
  cut q k = if q k then net_expr (n_alg k) 0 else net_expr (n_truth true) 0

  -- it hangs on the algebraic variables alone that are named
  module _ (q : ℕ → Bool) (g h : ℕ → A) (alike : (k : ℕ) → q k ≡ true → g k ≡ h k) where
    cut-alike : (k : ℕ) → ev g (cut q k) ≡ ev h (cut q k)
    cut-alike k = by (q k) (alike k)
      where
        by : (b : Bool) → (b ≡ true → g k ≡ h k) → ev g (if b then net_expr (n_alg k) 0 else net_expr (n_truth true) 0) ≡ ev h (if b then net_expr (n_alg k) 0 else net_expr (n_truth true) 0)
        by true e = name g k ∙ e refl ∙ sym (name h k)
        by false e = truth g h

    kept : (k : ℕ) → q k ≡ true → net_expr (n_alg k) 0 ≡ cut q k
    kept k t = sym (ap (λ b. if b then net_expr (n_alg k) 0 else net_expr (n_truth true) 0) t)

    through : (a : NetAlg) → all_name q (alg_exprs a) ≡ true → (x : ℕ → A) → f x a ≡ f (λ k. ev x (cut q k)) a
    through a n x =
        ap (λ t. f t a) (sym (fun_ext (name x)))
        ∙ sym (after (λ k. net_expr (n_alg k) 0) x a)
        ∙ ap (f x) (alg-same (λ k. net_expr (n_alg k) 0) (cut q) q kept a n)
        ∙ after (cut q) x a

    pub alg-told : (a : NetAlg) → all_name q (alg_exprs a) ≡ true → f g a ≡ f h a
    alg-told a n = through a n g ∙ ap (λ t. f t a) (fun_ext cut-alike) ∙ sym (through a n h)

  module _ (n p : Net) (s : Settled n p) (defined : (g : ℕ → A) (a : NetAlg) → Member a n.algs → f g (alg_replaced s.by a) ≡ ev g (defined_by (alg_replaced s.by a))) where
    abbrev pub IsOut : (ℕ → A) → Type 0
    IsOut g = (k : ℕ) → slice_get n.algs k ≡ None → g k ≡ d

    past : (g : ℕ → A) → IsOut g → (k : ℕ) → slice_get n.algs k ≡ None → ev g (s.by k) ≡ d
    past g out k e = ap (ev g) (s.other k e) ∙ name g k ∙ out k e

    step : (g : ℕ → A) (m k : ℕ) (a : NetAlg) → slice_get n.algs k ≡ Some a → s.rank k ≤ m → ((j : ℕ) → s.rank j < m → ev g (s.by j) ≡ at_or d (unfolded d f n.algs m) j)
        → f g (alg_replaced s.by a) ≡ f (at_or d (unfolded d f n.algs m)) a
    step g m k a e l before =
        after s.by g a
        ∙ alg-told (λ j. nat_lt (s.rank j) (s.rank k)) (λ j. ev g (s.by j)) (at_or d (unfolded d f n.algs m)) (λ j t. before j (below-less (s.rank j) (s.rank k) m t l)) a (s.falls k a e)

    solved : (g : ℕ → A) → IsOut g → (m k : ℕ) → s.rank k < m → ev g (s.by k) ≡ at_or d (unfolded d f n.algs m) k
    solved g out zero k l = absurd (omega (arith, l))
    solved g out (suc m) k l = by (slice_get n.algs k) refl (solved g out m)
      where
        by : (o : Option NetAlg) → slice_get n.algs k ≡ o → ((j : ℕ) → s.rank j < m → ev g (s.by j) ≡ at_or d (unfolded d f n.algs m) j) → ev g (s.by k) ≡ at_or d (unfolded d f n.algs (suc m)) k
        by None e before = past g out k e ∙ sym (unfolded-past d f n.algs (suc m) k e)
        by (Some a) e before =
            ap (ev g) (s.each k a e)
            ∙ sym (defined g a (at-member n.algs k a e))
            ∙ step g m k a e (omega (arith, l)) before
            ∙ sym (unfolded-at d f n.algs m k a e)

    -- what is told of the algebraic variables of the net
    abbrev pub told : ℕ → A
    told = at_or d (unfolded d f n.algs (length n.algs))

    pub told-out : IsOut told
    told-out k e = unfolded-past d f n.algs (length n.algs) k e

    solved-at : (g : ℕ → A) → IsOut g → (k : ℕ) → ev g (s.by k) ≡ told k
    solved-at g out k = by (slice_get n.algs k) refl
      where
        by : (o : Option NetAlg) → slice_get n.algs k ≡ o → ev g (s.by k) ≡ told k
        by None e = past g out k e ∙ sym (told-out k e)
        by (Some a) e = solved g out (length n.algs) k (s.bounded k (slice_get-below n.algs k a e))

    pub total : (g : ℕ → A) → IsOut g → (λ k. ev g (s.by k)) ≡ told
    total g out = fun_ext (solved-at g out)

    -- it is what its definition tells
    pub told-fixed : (k : ℕ) (a : NetAlg) → slice_get n.algs k ≡ Some a → told k ≡ f told a
    told-fixed k a e =
        sym (solved-at told told-out k)
        ∙ ap (ev told) (s.each k a e)
        ∙ sym (defined told a (at-member n.algs k a e))
        ∙ after s.by told a
        ∙ ap (λ g. f g a) (total told told-out)

    -- and of those of the other net
    abbrev pub others : List NetAlg
    others = map (alg_replaced s.by) n.algs

    others-out : (m : ℕ) → IsOut (at_or d (unfolded d f others m))
    others-out m k e = unfolded-past d f others m k (map-none (alg_replaced s.by) n.algs k e)

    pub step-same : (m k : ℕ) (a : NetAlg) → slice_get n.algs k ≡ Some a → s.rank k ≤ m → f (at_or d (unfolded d f others m)) (alg_replaced s.by a) ≡ f (at_or d (unfolded d f n.algs m)) a
    step-same m k a e l = step (at_or d (unfolded d f others m)) m k a e l (solved (at_or d (unfolded d f others m)) (others-out m) m)

    unfolded-as : (m : ℕ) → length n.algs ≡ m → unfolded d f others m ≡ unfolded d f n.algs m
    unfolded-as zero l = refl
    unfolded-as (suc m) l =
        map-after (alg_replaced s.by) (f (at_or d (unfolded d f others m))) (f (at_or d (unfolded d f n.algs m))) n.algs (λ a i.
        let k = member-at a n.algs i in
        step-same m k.0 a k.1 (omega (arith, l, s.bounded k.0 (slice_get-below n.algs k.0 a k.1))))

    pub unfolded-same : unfolded d f others (length others) ≡ unfolded d f n.algs (length n.algs)
    unfolded-same = ap (unfolded d f others) (map-length (alg_replaced s.by) n.algs) ∙ unfolded-as (length n.algs) refl

    pub others-told : at_or d (unfolded d f others (length others)) ≡ told
    others-told = ap (at_or d) unfolded-same

    -- what is told of an expression in which they are replaced
    module _ (inner : (by : ℕ → NetExpr) (g : ℕ → A) (e : NetExpr) → ev g (replaced by e) ≡ ev (λ k. ev g (by k)) e) where
      pub told-same : (e : NetExpr) → ev told (replaced s.by e) ≡ ev told e
      told-same e = inner s.by told e ∙ ap (λ g. ev g e) (total told told-out)

      pub others-same : (e : NetExpr) → ev (at_or d (unfolded d f others (length others))) (replaced s.by e) ≡ ev told e
      others-same e = ap (λ g. ev g (replaced s.by e)) others-told ∙ told-same e
