-- Expressions for all algebraic variables of a net, each made of its definition, and ranks below their number.
use Rattle.std.proofs.Common.{◌≡◌, ℕ, zero, suc, ◌<◌, true, List, [], ◌∷◌, length, Option, Some, None, refl, sym, ◌∙◌, ap, slice_get, arith}
use Rattle.std.specs.Prelude.{nat_lt}
use Rattle.std.specs.List.{list_all}
use Rattle.std.proofs.lemmas.Bool.Decides.{nat_tests}
use Rattle.cif_system.specs.Words.{Member}
use Rattle.cif_system.proofs.Picks.{at-member, flat_map-member}
use Rattle.cif_net_expr.specs.Tree.{NetExpr, net_expr, n_alg}
use Rattle.cif_net_model.specs.Net.{NetAlg, Net}
use Rattle.cif_net_model.specs.Exprs.{alg_exprs}
use Rattle.cif_net_model.specs.Facts.{alg_stands, is_net}
use Rattle.cif_net_model.specs.Inline.{alg_replaced, net_replaced, defined_by, Unfolds}
use Rattle.cif_net_model.specs.Reads.{Read, a_var, an_input, an_alg, a_place, the_received, alg_passes, names_in}
use Rattle.cif_net_model.proofs.Passing.{all-member}
use Rattle.cif_net_laws.proofs.Lists.{pass-each}
use Rattle.cif_net_laws.proofs.Naming.{all_name, is_there, alg-names, algs-stand}
use Rattle.cif_net_laws.proofs.Ranks.{ranked, ranked-below, ranked-falls}
use Rattle.cif_net_laws.proofs.Same.{alg-alike, net-same}

-- past the last algebraic variable each stays as it is
pub record Settled (n p : Net) : Type 0 where
  pub by : ℕ → NetExpr
  pub each : (k : ℕ) (a : NetAlg) → slice_get n.algs k ≡ Some a → by k ≡ defined_by (alg_replaced by a)
  pub other : (k : ℕ) → slice_get n.algs k ≡ None → by k ≡ net_expr (n_alg k) 0
  pub rank : ℕ → ℕ
  pub bounded : (k : ℕ) → k < length n.algs → rank k < length n.algs
  pub falls : (j : ℕ) (a : NetAlg) → slice_get n.algs j ≡ Some a → all_name (λ k. nat_lt (rank k) (rank j)) (alg_exprs a) ≡ true
  pub whole : p ≡ net_replaced by n

pub there-at : {A : Type 0} (xs : List A) (k : ℕ) → k < length xs → (x : A) × (slice_get xs k ≡ Some x)
there-at [] k h = absurd (omega (arith, h))
there-at (x ∷ xs) zero h = (x, refl)
there-at (x ∷ xs) (suc k) h = there-at xs k (omega (arith, h))

less : (a b : ℕ) → a < b → nat_lt a b ≡ true
less a b h = grind (arith, nat_tests)

module _ (n p : Net) (net : is_net n ≡ true) (u : Unfolds n p) where
  abbrev chosen : ℕ → Option NetAlg → NetExpr
  chosen k None = net_expr (n_alg k) 0
  chosen k (Some a) = u.by k

  abbrev by : ℕ → NetExpr
  by k = chosen k (slice_get n.algs k)

  alike : (k : ℕ) → is_there n k ≡ true → u.by k ≡ by k
  alike k h =
      let l : k < length n.algs = grind (arith, nat_tests) in
      let a = there-at n.algs k l in
      sym (ap (chosen k) a.1)

  each : (k : ℕ) (a : NetAlg) → slice_get n.algs k ≡ Some a → by k ≡ defined_by (alg_replaced by a)
  each k a g = ap (chosen k) g ∙ u.each k a g ∙ ap defined_by (alg-alike n net u.by by alike a (at-member n.algs k a g))

  there : (j : ℕ) (a : NetAlg) → slice_get n.algs j ≡ Some a → all_name (is_there n) (alg_exprs a) ≡ true
  there j a g = alg-names n a (all-member (alg_stands n) n.algs a (algs-stand n net) (at-member n.algs j a g))

  lower-named : (j : ℕ) (a : NetAlg) → slice_get n.algs j ≡ Some a → (e : NetExpr) → Member e (alg_exprs a) → (x : Read) → Member x (names_in e)
      → alg_passes (λ k. nat_lt (ranked u.rank (length n.algs) k) (ranked u.rank (length n.algs) j)) x ≡ true
  lower-named j a g e i (a_var k) m = refl
  lower-named j a g e i (an_input k) m = refl
  lower-named j a g e i (a_place k) m = refl
  lower-named j a g e i the_received m = refl
  lower-named j a g e i (an_alg k) m =
      let t : is_there n k ≡ true = all-member (alg_passes (is_there n)) (names_in e) (an_alg k) (all-member (λ x. list_all (alg_passes (is_there n)) (names_in x)) (alg_exprs a) e (there j a g) i) m in
      let l : k < length n.algs = grind (arith, nat_tests) in
      let f = ranked-falls u.rank (length n.algs) j k l (u.falls j k (a, g, flat_map-member names_in e (alg_exprs a) (an_alg k) i m)) in
      less (ranked u.rank (length n.algs) k) (ranked u.rank (length n.algs) j) f

  pub settled : Settled n p
  settled = record {
    by = by;
    each = each;
    other = λ k g. ap (chosen k) g;
    rank = ranked u.rank (length n.algs);
    bounded = ranked-below u.rank (length n.algs);
    falls = λ j a g. pass-each _ (alg_exprs a) (λ e i. pass-each _ (names_in e) (lower-named j a g e i));
    whole = u.whole ∙ net-same n net u.by by alike;
  }
