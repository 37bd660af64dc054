-- What holds of the expressions that replace algebraic variables, by their ranks.
use Rattle.std.proofs.Common.{◌≡◌, ℕ, zero, suc, ◌<◌, Bool, true, false, Option, Some, None, refl, sym, ◌∙◌, ap, subst, slice_get, if◌then◌else◌, arith}
use Rattle.std.specs.Prelude.{nat_lt}
use Rattle.std.proofs.lemmas.Bool.Decides.{nat_tests}
use Rattle.cif_net_expr.specs.Tree.{NetExpr, net_expr, n_alg}
use Rattle.cif_net_model.specs.Net.{NetAlg, Net}
use Rattle.cif_net_model.specs.Inline.{alg_replaced, defined_by}
use Rattle.cif_net_laws.proofs.Same.{alg-same}
use Rattle.cif_net_laws.proofs.Settled.{Settled}

-- P k e: the expression e may take the place of k; `other` stands for what is not reached
module _ (n p : Net) (s : Settled n p) (P : ℕ → NetExpr → Type 0) (other : ℕ → NetExpr)
    (base : (k : ℕ) → P k (other k))
    (past : (k : ℕ) → slice_get n.algs k ≡ None → P k (net_expr (n_alg k) 0))
    (step : (c : ℕ → NetExpr) → ((k : ℕ) → P k (c k)) → (k : ℕ) (a : NetAlg) → slice_get n.algs k ≡ Some a → P k (defined_by (alg_replaced c a))) where
  abbrev cut : ℕ → ℕ → NetExpr
  cut m k = if nat_lt (s.rank k) m then s.by k else other k

  kept : (m k : ℕ) → nat_lt (s.rank k) m ≡ true → s.by k ≡ cut m k
  kept m k t = sym (ap (λ b. if b then s.by k else other k) t)

  below : (m j k : ℕ) → nat_lt (s.rank j) (s.rank k) ≡ true → s.rank k < suc m → nat_lt (s.rank j) m ≡ true
  below m j k t l = grind (arith, nat_tests)

  less : (a m : ℕ) → nat_lt a m ≡ true → a < m
  less a m t = grind (arith, nat_tests)

  by-rank : (m k : ℕ) → s.rank k < m → P k (s.by k)
  by-rank zero k l = absurd (omega (arith, l))
  by-rank (suc m) k l = by (slice_get n.algs k) refl (by-rank m)
    where
      by : (o : Option NetAlg) → slice_get n.algs k ≡ o → ((j : ℕ) → s.rank j < m → P j (s.by j)) → P k (s.by k)
      by None e before = subst (P k) (sym (s.other k e)) (past k e)
      by (Some a) e before =
          let same = alg-same s.by (cut m) (λ j. nat_lt (s.rank j) (s.rank k)) (λ j t. kept m j (below m j k t l)) a (s.falls k a e) in
          subst (P k) (sym (s.each k a e ∙ ap defined_by same)) (step (cut m) each k a e)
        where
          each : (j : ℕ) → P j (cut m j)
          each j = choose (nat_lt (s.rank j) m) (λ t. before j (less (s.rank j) m t))
            where
              choose : (b : Bool) → (b ≡ true → P j (s.by j)) → P j (if b then s.by j else other j)
              choose true h = h refl
              choose false h = base j

  pub each : (k : ℕ) → P k (s.by k)
  each k = by-rank (suc (s.rank k)) k (omega arith)
