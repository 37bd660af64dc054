-- A rank of a net's algebraic variables by any numbers gives one below their number; and by a rank the measure of each is that of its
-- definitions.
use Rattle.std.proofs.Common.{◌≡◌, ℕ, zero, suc, ◌+◌, ◌<◌, ◌≤◌, ◌⊎◌, inl, inr, true, false, cond, nat_lt, max, List, [], ◌∷◌, ◌++◌, length, map, Some, refl, sym, ◌∙◌, ap, subst, slice_get, arith}
use Rattle.std.specs.Prelude.{flat_map}
use Rattle.std.proofs.lemmas.Bool.Decides.{nat_tests}
use Rattle.cif_system.specs.Words.{Member}
use Rattle.cif_system.proofs.Picks.{append-left, append-right}
use Rattle.cif_net_expr.specs.Tree.{NetExpr}
use Rattle.cif_net_model.specs.Net.{AlgValue, one_value, by_loc, NetAlg, NetExclusion, NetInvariant, Net}
use Rattle.cif_net_model.specs.Exprs.{alg_exprs, edge_exprs, all_edges, other_exprs, all_exprs}
use Rattle.cif_net_model.specs.Reads.{Read, an_alg, names_in}
use Rattle.cif_net_model.specs.Rules.{Needs}
use Rattle.cif_net_model.specs.Unfolding.{at_or}
use Rattle.cif_net_model.specs.Counts as counts
use Rattle.cif_net_model.specs.Counts.{no_form, beside, measure_by, all_beside, by_location, alg_measure, alg_measures, measure, depth}
use Rattle.cif_net_model.proofs.UnfoldLaws.{unfolded-at, unfolded-stable}
use Rattle.cif_alg_measure.proofs.CountedLaws.{beside-none}
use Rattle.cif_alg_order.specs.Orders.{IsRankOf}
use Rattle.cif_alg_order.proofs.CountLaws.{measure-same}

-- ---- ranks

test-cases : (a b : ℕ) → ((a < b) × (nat_lt a b ≡ true)) ⊎ ((b ≤ a) × (nat_lt a b ≡ false))
test-cases a b =
    (elim (nat_lt a b) as (λ t. nat_lt a b ≡ t → ((a < b) × (nat_lt a b ≡ true)) ⊎ ((b ≤ a) × (nat_lt a b ≡ false))) [
      | true ↦ λ h. let l : a < b = grind (arith, nat_tests) in inl (l, h)
      | false ↦ λ h. let l : b ≤ a = grind (arith, nat_tests) in inr (l, h)
    ]) refl

module _ (rank : ℕ → ℕ) where
  -- how many of the first n have a rank below x
  pub lower : (n x : ℕ) → ℕ
  lower zero x = 0
  lower (suc n) x = cond (nat_lt (rank n) x) (suc (lower n x)) (lower n x)

  lower-in : (n x : ℕ) → nat_lt (rank n) x ≡ true → lower (suc n) x ≡ suc (lower n x)
  unfolding lower
  lower-in n x h = ap (λ b. cond b (suc (lower n x)) (lower n x)) h

  lower-out : (n x : ℕ) → nat_lt (rank n) x ≡ false → lower (suc n) x ≡ lower n x
  unfolding lower
  lower-out n x h = ap (λ b. cond b (suc (lower n x)) (lower n x)) h

  lower-none : (x : ℕ) → lower zero x ≡ 0
  unfolding lower
  lower-none x = refl

  lower-most : (n x : ℕ) → lower n x ≤ n
  lower-most zero x = omega (arith, lower-none x)
  lower-most (suc n) x =
      elim (test-cases (rank n) x) [
        | inl a ↦ omega (arith, lower-in n x a.1, lower-most n x)
        | inr b ↦ omega (arith, lower-out n x b.1, lower-most n x)
      ]

  lower-more : (n x y : ℕ) → x ≤ y → lower n x ≤ lower n y
  lower-more zero x y l = omega (arith, lower-none x)
  lower-more (suc n) x y l =
      elim (test-cases (rank n) x) [
        | inl a ↦
            elim (test-cases (rank n) y) [
              | inl c ↦ omega (arith, lower-in n x a.1, lower-in n y c.1, lower-more n x y l)
              | inr d ↦ absurd (omega (arith, a.0, d.0, l))
            ]
        | inr b ↦
            elim (test-cases (rank n) y) [
              | inl c ↦ omega (arith, lower-out n x b.1, lower-in n y c.1, lower-more n x y l)
              | inr d ↦ omega (arith, lower-out n x b.1, lower-out n y d.1, lower-more n x y l)
            ]
      ]

  last-or : (n k : ℕ) → k < suc n → (k ≡ n) ⊎ (k < n)
  last-or n k l =
      elim (test-cases k n) [
        | inl a ↦ inr a.0
        | inr b ↦ let e : k ≡ n = omega (arith, l, b.0) in inl e
      ]

  lower-within : (n k x : ℕ) → k < n → x ≤ rank k → lower n x < n
  lower-within zero k x l h = absurd (omega (arith, l))
  lower-within (suc n) k x l h =
      elim (last-or n k l) [
        | inl e ↦
            let here : x ≤ rank n = subst (λ i. x ≤ rank i) e h in
            elim (test-cases (rank n) x) [
              | inl a ↦ absurd (omega (arith, a.0, here))
              | inr b ↦ omega (arith, lower-out n x b.1, lower-most n x)
            ]
        | inr m ↦
            elim (test-cases (rank n) x) [
              | inl a ↦ omega (arith, lower-in n x a.1, lower-within n k x m h)
              | inr b ↦ omega (arith, lower-out n x b.1, lower-within n k x m h)
            ]
      ]

  lower-falls : (n k x y : ℕ) → k < n → x ≤ rank k → rank k < y → lower n x < lower n y
  lower-falls zero k x y l h i = absurd (omega (arith, l))
  lower-falls (suc n) k x y l h i =
      let order : x ≤ y = omega (arith, h, i) in
      elim (last-or n k l) [
        | inl e ↦
            let low : x ≤ rank n = subst (λ j. x ≤ rank j) e h in
            let high : rank n < y = subst (λ j. rank j < y) e i in
            elim (test-cases (rank n) x) [
              | inl a ↦ absurd (omega (arith, a.0, low))
              | inr b ↦
                  elim (test-cases (rank n) y) [
                    | inl c ↦ omega (arith, lower-out n x b.1, lower-in n y c.1, lower-more n x y order)
                    | inr d ↦ absurd (omega (arith, d.0, high))
                  ]
            ]
        | inr m ↦
            elim (test-cases (rank n) x) [
              | inl a ↦
                  elim (test-cases (rank n) y) [
                    | inl c ↦ omega (arith, lower-in n x a.1, lower-in n y c.1, lower-falls n k x y m h i)
                    | inr d ↦ absurd (omega (arith, a.0, d.0, order))
                  ]
              | inr b ↦
                  elim (test-cases (rank n) y) [
                    | inl c ↦ omega (arith, lower-out n x b.1, lower-in n y c.1, lower-falls n k x y m h i)
                    | inr d ↦ omega (arith, lower-out n x b.1, lower-out n y d.1, lower-falls n k x y m h i)
                  ]
            ]
      ]

-- the number of those with a lower rank is a rank
pub ranked : (n : Net) (rank : ℕ → ℕ) → ((j k : ℕ) → Needs n j k → rank k < rank j) → ((j k : ℕ) → Needs n j k → k < length n.algs) → IsRankOf n (λ k. lower rank (length n.algs) (rank k))
ranked n rank falls inside = record {
  within = λ k l. lower-within rank (length n.algs) k (rank k) l (omega arith);
  falls = λ j k w. lower-falls rank (length n.algs) k (rank k) (rank j) (inside j k w) (omega arith) (falls j k w);
}

-- ---- measures

-- one of these expressions by the location
abbrev chosen_measure : (ℕ → counts.Measure) → List NetExpr → counts.Measure
chosen_measure f es = by_location (length es) (all_beside (map (measure_by f) es))

by-value : (f : ℕ → counts.Measure) (v : AlgValue) → chosen_measure f (elim v [ one_value e ↦ e ∷ [] | by_loc k es ↦ es ])
    ≡ elim v [ one_value e ↦ measure_by f e | by_loc k es ↦ by_location (length es) (all_beside (map (measure_by f) es)) ]
by-value f (one_value e) = beside-none (measure_by f e)
by-value f (by_loc k es) = refl

pub chosen-is : (f : ℕ → counts.Measure) (a : NetAlg) → chosen_measure f (alg_exprs a) ≡ alg_measure f a
chosen-is f a = by-value f a.value

-- it hangs on what is named alone
module _ (g h : ℕ → counts.Measure) where
  abbrev Same : List Read → Type 0
  Same rs = (k : ℕ) → Member (an_alg k) rs → g k ≡ h k

  exprs-same : (es : List NetExpr) → Same (flat_map names_in es) → map (measure_by g) es ≡ map (measure_by h) es
  exprs-same [] s = refl
  exprs-same (e ∷ es) s =
      let p : measure_by g e ≡ measure_by h e = measure-same g h e (λ k m. s k (append-left (an_alg k) (names_in e) (flat_map names_in es) m)) in
      let q : map (measure_by g) es ≡ map (measure_by h) es = exprs-same es (λ k m. s k (append-right (an_alg k) (names_in e) (flat_map names_in es) m)) in
      λ i. p i ∷ q i

  alg-same : (a : NetAlg) → Same (flat_map names_in (alg_exprs a)) → alg_measure g a ≡ alg_measure h a
  alg-same a s = sym (chosen-is g a) ∙ ap (λ ms. by_location (length (alg_exprs a)) (all_beside ms)) (exprs-same (alg_exprs a) s) ∙ chosen-is h a

module _ (n : Net) (rank : ℕ → ℕ) (r : IsRankOf n rank) where
  abbrev weight : ℕ → counts.Measure
  weight = at_or no_form (alg_measures n)

  abbrev Names : NetAlg → ℕ → Type 0
  Names a k = Member (an_alg k) (flat_map names_in (alg_exprs a))

  get-below : {A : Type 0} (xs : List A) (k : ℕ) (x : A) → slice_get xs k ≡ Some x → k < length xs
  get-below [] k x h = absurd cc
  get-below (y ∷ xs) zero x h = omega arith
  get-below (y ∷ xs) (suc k) x h = omega (arith, get-below xs k x h)

  -- one unfolding more changes nothing
  pub fixed : (k : ℕ) (a : NetAlg) → slice_get n.algs k ≡ Some a → alg_measure weight a ≡ weight k
  fixed k a h =
      let w : rank k < length n.algs = r.within k (get-below n.algs k a h) in
      sym (unfolded-at no_form alg_measure n.algs (length n.algs) k a h)
      ∙ unfolded-stable no_form alg_measure n.algs Names (λ f g x s. alg-same f g x s) rank (λ j i x p q. r.falls j i (x, p, q)) (suc (length n.algs)) (length n.algs) k (omega (arith, w)) w

  -- ---- depth

  -- a measure that stands in a list is no deeper than all together
  deep-there : (ms : List counts.Measure) (k : ℕ) (m : counts.Measure) → slice_get ms k ≡ Some m → m.depth ≤ (all_beside ms).depth
  deep-there [] k m h = absurd cc
  deep-there (x ∷ ms) zero m h = let e : x ≡ m = cc in let d : x.depth ≡ m.depth = ap (λ (y : counts.Measure). y.depth) e in omega (arith, d)
  deep-there (x ∷ ms) (suc k) m h = omega (arith, deep-there ms k m h)

  deep-append : (xs ys : List NetExpr) → (all_beside (map (measure_by weight) (xs ++ ys))).depth ≡ max (all_beside (map (measure_by weight) xs)).depth (all_beside (map (measure_by weight) ys)).depth
  deep-append [] ys = omega arith
  deep-append (x ∷ xs) ys = omega (arith, deep-append xs ys)

  by-depth : (k : ℕ) (m : counts.Measure) → m.depth ≤ (by_location k m).depth
  by-depth zero m = omega arith
  by-depth (suc zero) m = omega arith
  by-depth (suc (suc k)) m = omega arith

  -- the definitions of one are no deeper than it
  own-deep : (a : NetAlg) → (all_beside (map (measure_by weight) (alg_exprs a))).depth ≤ (alg_measure weight a).depth
  own-deep a =
      let h = by-depth (length (alg_exprs a)) (all_beside (map (measure_by weight) (alg_exprs a))) in
      let e : (chosen_measure weight (alg_exprs a)).depth ≡ (alg_measure weight a).depth = ap (λ (y : counts.Measure). y.depth) (chosen-is weight a) in
      omega (arith, h, e)

  at-weight : (ms : List counts.Measure) (k : ℕ) → (at_or no_form ms k).depth ≤ (all_beside ms).depth
  at-weight [] k = omega arith
  at-weight (m ∷ ms) zero = omega arith
  at-weight (m ∷ ms) (suc k) = omega (arith, at-weight ms k)

  all-deep : (ds : List NetAlg) (from : ℕ) → ((j : ℕ) (a : NetAlg) → slice_get ds j ≡ Some a → slice_get n.algs (from + j) ≡ Some a)
      → (all_beside (map (measure_by weight) (flat_map alg_exprs ds))).depth ≤ (all_beside (alg_measures n)).depth
  all-deep [] from sits = omega arith
  all-deep (a ∷ ds) from sits =
      let here = own-deep a in
      let zero-there : from + 0 ≡ from = omega arith in
      let e : (alg_measure weight a).depth ≡ (weight from).depth = ap (λ (y : counts.Measure). y.depth) (fixed from a (subst (λ i. slice_get n.algs i ≡ Some a) zero-there (sits 0 a refl))) in
      let low = at-weight (alg_measures n) from in
      let rest = all-deep ds (suc from) (λ j b h. let next : from + suc j ≡ suc from + j = omega arith in subst (λ i. slice_get n.algs i ≡ Some b) next (sits (suc j) b h)) in
      omega (arith, deep-append (alg_exprs a) (flat_map alg_exprs ds), here, e, low, rest)

  -- the depth of a net without exclusions and invariants
  pub depth-is : n.exclusions ≡ [] → n.invariants ≡ [] → depth n ≡ max (all_beside (map (measure n) (flat_map edge_exprs (all_edges n)))).depth (all_beside (alg_measures n)).depth
  depth-is no-exclusions no-invariants =
      let ds : List NetExpr = flat_map alg_exprs n.algs in
      let es : List NetExpr = flat_map edge_exprs (all_edges n) in
      let others : other_exprs n ≡ ds = (λ i. map (λ (x : NetExclusion). x.pred) (no-exclusions i) ++ (map (λ (x : NetInvariant). x.pred) (no-invariants i) ++ ds)) in
      let whole : (all_beside (map (measure n) (all_exprs n))).depth ≡ (all_beside (map (measure_by weight) (es ++ ds))).depth = ap (λ xs. (all_beside (map (measure_by weight) (es ++ xs))).depth) others in
      omega (arith, whole, deep-append es ds, all-deep n.algs 0 (λ j a h. let same : j ≡ 0 + j = omega arith in subst (λ i. slice_get n.algs i ≡ Some a) same h))

  -- and of any net: it is that of what stands outside definitions, or that of an algebraic variable
  pub depth-split : let outside : List NetExpr = map (λ (x : NetExclusion). x.pred) n.exclusions ++ map (λ (x : NetInvariant). x.pred) n.invariants in
      depth n ≡ max (all_beside (map (measure n) (flat_map edge_exprs (all_edges n) ++ outside))).depth (all_beside (alg_measures n)).depth
  depth-split =
      let ds : List NetExpr = flat_map alg_exprs n.algs in
      let es : List NetExpr = flat_map edge_exprs (all_edges n) in
      let xs : List NetExpr = map (λ (x : NetExclusion). x.pred) n.exclusions in
      let is : List NetExpr = map (λ (x : NetInvariant). x.pred) n.invariants in
      omega (arith, deep-append es (xs ++ (is ++ ds)), deep-append xs (is ++ ds), deep-append is ds, deep-append es (xs ++ is), deep-append xs is, all-deep n.algs 0 (λ j a h. let same : j ≡ 0 + j = omega arith in subst (λ i. slice_get n.algs i ≡ Some a) same h))
