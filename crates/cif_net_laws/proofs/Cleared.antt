-- In a net whose expressions divide by no 0 and stay in 64 bits so do those in which algebraic variables are replaced.
use Rattle.std.proofs.Common.{◌≡◌, ℕ, zero, suc, pos, Bool, true, false, not, ◌&&◌, List, [], ◌∷◌, ◌++◌, map, length, slice_get, Option, Some, None, refl, sym, ◌∙◌, ap}
use Rattle.std.specs.List.{list_all}
use Rattle.std.proofs.Math.Path.{fun_ext}
use Rattle.cif_system.specs.System.{Range, in_range}
use Rattle.cif_system.specs.Words.{Member}
use Rattle.cif_system.proofs.Picks.{at-member}
use Rattle.cif_net_expr.specs.Tree.{NetExpr, net_expr, NetForm, n_truth, n_number, n_loc, n_var, n_input, n_alg, n_received, n_minus, n_plus, n_not, n_abs, n_min, n_max, n_sum, n_product, n_compare, n_and, n_or, n_implies, n_iff, n_if, times, divided, modulo, NetFactors, no_net_factors, net_factors}
use Rattle.cif_net_model.specs.Net.{NetAlg, Net}
use Rattle.cif_net_model.specs.Exprs.{expr_at, alg_exprs}
use Rattle.cif_net_model.specs.Facts.{alg_stands, is_net}
use Rattle.cif_net_model.specs.Inline.{replaced, form_replaced, factors_replaced, alg_replaced, net_replaced, place_branches, last_of, by_places, defined_by}
use Rattle.cif_net_model.specs.Interval.{point, truths, join_all, Ranges, range_of, alg_range, stored_range, with_algs, alg_ranges, declared_ranges}
use Rattle.cif_net_model.specs.Kinds.{fits, kind_of}
use Rattle.cif_net_model.specs.Parts.{parts, branch_parts, factor_divisors, is_narrow, part_divides}
use Rattle.cif_net_model.specs.Reads.{Read, names_in, form_names, factor_names}
use Rattle.cif_net_model.specs.Unfolding.{at_or}
use Rattle.cif_net_model.proofs.MeasureLaws.{replaced-range, by_places-range}
use Rattle.cif_net_model.proofs.Passing.{and-left, and-right, both-pass, all-member}
use Rattle.cif_net_laws.proofs.Induction as induction
use Rattle.cif_net_laws.proofs.Lists.{and-both, pass-both, all-more, map-after, map-same}
use Rattle.cif_net_laws.proofs.Naming.{not_received, quiet, algs-stand}
use Rattle.cif_net_laws.proofs.Parting.{is_alg, tested}
use Rattle.cif_net_laws.proofs.Ranging.{quiet-range, joins-narrow, whole-narrow}
use Rattle.cif_net_laws.proofs.Settled.{Settled}
use Rattle.cif_net_laws.proofs.Solved as solved
use Rattle.cif_net_laws.proofs.Solved.{alg-cases}

-- ---- intervals of definitions

module _ (w : Ranges) where
  abbrev pub ev : (ℕ → Range) → NetExpr → Range
  ev g e = range_of (with_algs w g) e

  abbrev pub def : (ℕ → Range) → NetAlg → Range
  def g a = alg_range (range_of (with_algs w g)) a

  pub def-after : (c : ℕ → NetExpr) (g : ℕ → Range) (a : NetAlg) → def g (alg_replaced c a) ≡ def (λ k. ev g (c k)) a
  def-after c g =
      alg-cases (λ a. def g (alg_replaced c a) ≡ def (λ k. ev g (c k)) a) (λ a e. replaced-range c (with_algs w g) e)
      (λ a k es. ap join_all (map-after (replaced c) (ev g) (ev (λ j. ev g (c j))) es (λ e m. replaced-range c (with_algs w g) e)))

  pub def-range : (g : ℕ → Range) (a : NetAlg) → def g a ≡ ev g (defined_by a)
  def-range g = alg-cases (λ a. def g a ≡ ev g (defined_by a)) (λ a e. refl) (λ a k es. sym (by_places-range (with_algs w g) k es))

-- ---- one part

abbrev pub is_clean : Ranges → NetExpr → Bool
is_clean g p = part_divides g p && is_narrow (range_of g p)

-- over ranges g the replaced expressions have the intervals that the expressions have over h
module _ (c : ℕ → NetExpr) (g h : Ranges) (p : Read → Bool) (same : (e : NetExpr) → list_all p (names_in e) ≡ true → range_of g (replaced c e) ≡ range_of h e) where
  factors-divide : (es : NetFactors) → list_all p (factor_names es) ≡ true → list_all (λ d. not (in_range (range_of h d) (pos 0))) (factor_divisors es) ≡ true
      → list_all (λ d. not (in_range (range_of g d) (pos 0))) (factor_divisors (factors_replaced c es)) ≡ true
  factors-divide no_net_factors n t = refl
  factors-divide (net_factors times e es) n t = factors-divide es (both-pass p (names_in e) (factor_names es) n).1 t
  factors-divide (net_factors divided e es) n t =
      let ns = both-pass p (names_in e) (factor_names es) n in
      and-both _ _ (ap (λ r. not (in_range r (pos 0))) (same e ns.0) ∙ and-left _ _ t) (factors-divide es ns.1 (and-right _ _ t))
  factors-divide (net_factors modulo e es) n t =
      let ns = both-pass p (names_in e) (factor_names es) n in
      and-both _ _ (ap (λ r. not (in_range r (pos 0))) (same e ns.0) ∙ and-left _ _ t) (factors-divide es ns.1 (and-right _ _ t))

  part-divides : (f : NetForm) (at : ℕ) → is_alg f ≡ false → list_all p (form_names f) ≡ true → part_divides h (net_expr f at) ≡ true → part_divides g (form_replaced c at f) ≡ true
  part-divides (n_truth b) at i n t = refl
  part-divides (n_number z) at i n t = refl
  part-divides (n_loc a k) at i n t = refl
  part-divides (n_var k) at i n t = refl
  part-divides (n_input k) at i n t = refl
  part-divides (n_alg k) at i n t = absurd cc
  part-divides n_received at i n t = refl
  part-divides (n_minus e) at i n t = refl
  part-divides (n_plus e) at i n t = refl
  part-divides (n_not e) at i n t = refl
  part-divides (n_abs e) at i n t = refl
  part-divides (n_min a b) at i n t = refl
  part-divides (n_max a b) at i n t = refl
  part-divides (n_sum e es) at i n t = refl
  part-divides (n_product e es) at i n t = factors-divide es (both-pass p (names_in e) (factor_names es) n).1 t
  part-divides (n_compare a op b) at i n t = refl
  part-divides (n_and es) at i n t = refl
  part-divides (n_or es) at i n t = refl
  part-divides (n_implies a b) at i n t = refl
  part-divides (n_iff a b) at i n t = refl
  part-divides (n_if bs e) at i n t = refl

  part-clean : (f : NetForm) (at : ℕ) → is_alg f ≡ false → list_all p (form_names f) ≡ true → is_clean h (net_expr f at) ≡ true → is_clean g (form_replaced c at f) ≡ true
  part-clean f at i n t = and-both _ _ (part-divides f at i n (and-left _ _ t)) (ap is_narrow (same (net_expr f at) n) ∙ and-right _ _ t)

  -- where what replaces algebraic variables is clean
  module _ (algs : (k : ℕ) → list_all (is_clean g) (parts (c k)) ≡ true) where
    pub all-clean : (e : NetExpr) → list_all p (names_in e) ≡ true → list_all (is_clean h) (parts e) ≡ true → list_all (is_clean g) (parts (replaced c e)) ≡ true
    all-clean = tested (is_clean g) (λ f i j. refl) c p (is_clean h) algs part-clean

-- a value for each place
module _ (g : Ranges) (i : ℕ) where
  branches-clean : (j : ℕ) (e : NetExpr) (es : List NetExpr) → list_all (λ x. list_all (is_clean g) (parts x)) (e ∷ es) ≡ true
      → (list_all (is_clean g) (branch_parts (place_branches i j e es)) ≡ true) × (list_all (is_clean g) (parts (last_of e es)) ≡ true)
  branches-clean j e [] h = (refl, and-left _ _ h)
  branches-clean j e (f ∷ fs) h =
      let rest = branches-clean (suc j) f fs (and-right _ _ h) in (
        pass-both (is_clean g) (net_expr (n_loc i j) (expr_at e) ∷ []) (parts e ++ branch_parts (place_branches i (suc j) f fs)) refl
            (pass-both (is_clean g) (parts e) (branch_parts (place_branches i (suc j) f fs)) (and-left _ _ h) rest.0),
        rest.1,
      )

  places-clean : (es : List NetExpr) → list_all (λ x. list_all (is_clean g) (parts x)) es ≡ true → is_narrow (range_of g (by_places i es)) ≡ true → list_all (is_clean g) (parts (by_places i es)) ≡ true
  places-clean [] h n = refl
  places-clean (e ∷ []) h n = and-left _ _ h
  places-clean (e ∷ f ∷ fs) h n =
      let w = branches-clean 0 e (f ∷ fs) h in
      and-both _ _ (and-both _ _ refl n) (pass-both (is_clean g) (branch_parts (place_branches i 0 e (f ∷ fs))) (parts (last_of f fs)) w.0 w.1)

-- ---- definitions

module _ (n p : Net) (net : is_net n ≡ true) (s : Settled n p) where
  -- the declared ranges of variables and inputs, where r is received
  abbrev given : Range → Ranges
  given r = record { vars = λ k. stored_range (slice_get n.vars k); inputs = λ k. stored_range (slice_get n.inputs k); algs = λ k. point (pos 0); received = r }

  stands : (a : NetAlg) → Member a n.algs → alg_stands n a ≡ true
  stands a m = all-member (alg_stands n) n.algs a (algs-stand n net) m

  -- a definition names no received value
  alg-quiet : (a : NetAlg) → alg_stands n a ≡ true → list_all (λ e. list_all not_received (names_in e)) (alg_exprs a) ≡ true
  alg-quiet =
      alg-cases (λ a. alg_stands n a ≡ true → list_all (λ e. list_all not_received (names_in e)) (alg_exprs a) ≡ true)
      (λ a e h. and-both _ _ (quiet n e (kind_of a.type_of a.literals) (and-right _ _ h)) refl)
      (λ a i es h. all-more (fits n None (kind_of a.type_of a.literals)) (λ e. list_all not_received (names_in e)) (λ e k. quiet n e (kind_of a.type_of a.literals) k) es (and-right _ _ (and-right _ _ h)))

  -- so its interval is the same whatever is received
  def-quiet : (r t : Range) (x : ℕ → Range) (a : NetAlg) → list_all (λ e. list_all not_received (names_in e)) (alg_exprs a) ≡ true → def (given r) x a ≡ def (given t) x a
  def-quiet r t x =
      alg-cases (λ a. list_all (λ e. list_all not_received (names_in e)) (alg_exprs a) ≡ true → def (given r) x a ≡ def (given t) x a)
      (λ a e h. quiet-range (with_algs (given r) x) t e (and-left _ _ h))
      (λ a i es h. ap join_all (map-same (ev (given r) x) (ev (given t) x) es (λ e m. quiet-range (with_algs (given r) x) t e (all-member (λ e. list_all not_received (names_in e)) es e h m))))

  tables-quiet : (r t : Range) (m : ℕ) → alg_ranges n (given r) m ≡ alg_ranges n (given t) m
  tables-quiet r t zero = refl
  tables-quiet r t (suc m) =
      map-same (def (given r) (at_or (point (pos 0)) (alg_ranges n (given r) m))) (def (given t) (at_or (point (pos 0)) (alg_ranges n (given t) m))) n.algs (λ a i.
      ap (λ xs. def (given r) (at_or (point (pos 0)) xs) a) (tables-quiet r t m) ∙ def-quiet r t (at_or (point (pos 0)) (alg_ranges n (given t) m)) a (alg-quiet a (stands a i)))

  expr-quiet : (r t : Range) (e : NetExpr) → list_all not_received (names_in e) ≡ true → range_of (declared_ranges n r) e ≡ range_of (declared_ranges n t) e
  expr-quiet r t e h =
      ap (λ xs. ev (given r) (at_or (point (pos 0)) xs) e) (tables-quiet r t (length n.algs))
      ∙ quiet-range (with_algs (given r) (at_or (point (pos 0)) (alg_ranges n (given t) (length n.algs)))) t e h

  -- ---- what replaces an algebraic variable

  module _ (r : Range) where
    abbrev told : ℕ → Range
    told = (declared_ranges n r).algs

    abbrev inner : (ℕ → NetExpr) → ℕ → Range
    inner c k = range_of (declared_ranges n r) (c k)

    -- the ranges of the other net are those of the net
    pub ranges-same : declared_ranges (net_replaced s.by n) r ≡ declared_ranges n r
    ranges-same = ap (with_algs (given r)) (solved.others-told (point (pos 0)) (ev (given r)) (def (given r)) (λ g h. refl) (λ g k. refl) (def-after (given r)) n p s (λ g a m. def-range (given r) g (alg_replaced s.by a)))

    pub range-same : (e : NetExpr) → range_of (declared_ranges n r) (replaced s.by e) ≡ range_of (declared_ranges n r) e
    range-same = solved.told-same (point (pos 0)) (ev (given r)) (def (given r)) (λ g h. refl) (λ g k. refl) (def-after (given r)) n p s (λ g a m. def-range (given r) g (alg_replaced s.by a)) (λ c g e. replaced-range c (with_algs (given r) g) e)

    fixed : (k : ℕ) (a : NetAlg) → slice_get n.algs k ≡ Some a → told k ≡ def (given r) told a
    fixed = solved.told-fixed (point (pos 0)) (ev (given r)) (def (given r)) (λ g h. refl) (λ g k. refl) (def-after (given r)) n p s (λ g a m. def-range (given r) g (alg_replaced s.by a))

    past : (k : ℕ) → slice_get n.algs k ≡ None → told k ≡ point (pos 0)
    past = solved.told-out (point (pos 0)) (ev (given r)) (def (given r)) (λ g h. refl) (λ g k. refl) (def-after (given r)) n p s (λ g a m. def-range (given r) g (alg_replaced s.by a))

    module _ (clean : (a : NetAlg) → Member a n.algs → list_all (λ e. list_all (is_clean (declared_ranges n truths)) (parts e)) (alg_exprs a) ≡ true) where
      expr-narrow : (e : NetExpr) → list_all not_received (names_in e) ≡ true → list_all (is_clean (declared_ranges n truths)) (parts e) ≡ true → is_narrow (range_of (declared_ranges n r) e) ≡ true
      expr-narrow e q h =
          ap is_narrow (expr-quiet r truths e q)
          ∙ whole-narrow (declared_ranges n truths) e (all-more (is_clean (declared_ranges n truths)) (λ x. is_narrow (range_of (declared_ranges n truths) x)) (λ x t. and-right _ _ t) (parts e) h)

      def-narrow : (a : NetAlg) → list_all (λ e. list_all not_received (names_in e)) (alg_exprs a) ≡ true → list_all (λ e. list_all (is_clean (declared_ranges n truths)) (parts e)) (alg_exprs a) ≡ true → is_narrow (def (given r) told a) ≡ true
      def-narrow =
          alg-cases (λ a. list_all (λ e. list_all not_received (names_in e)) (alg_exprs a) ≡ true → list_all (λ e. list_all (is_clean (declared_ranges n truths)) (parts e)) (alg_exprs a) ≡ true → is_narrow (def (given r) told a) ≡ true)
          (λ a e q h. expr-narrow e (and-left _ _ q) (and-left _ _ h))
          (λ a i es q h. joins-narrow (map (range_of (declared_ranges n r)) es) (each es q h))
        where
          each : (es : List NetExpr) → list_all (λ e. list_all not_received (names_in e)) es ≡ true → list_all (λ e. list_all (is_clean (declared_ranges n truths)) (parts e)) es ≡ true → list_all is_narrow (map (range_of (declared_ranges n r)) es) ≡ true
          each [] q h = refl
          each (e ∷ es) q h = and-both _ _ (expr-narrow e (and-left _ _ q) (and-left _ _ h)) (each es (and-right _ _ q) (and-right _ _ h))

      told-narrow : (k : ℕ) → is_narrow (told k) ≡ true
      told-narrow k = by (slice_get n.algs k) refl
        where
          by : (o : Option NetAlg) → slice_get n.algs k ≡ o → is_narrow (told k) ≡ true
          by None e = ap is_narrow (past k e)
          by (Some a) e = let m = at-member n.algs k a e in ap is_narrow (fixed k a e) ∙ def-narrow a (alg-quiet a (stands a m)) (clean a m)

      -- it has the interval of the algebraic variable, and its parts are clean
      abbrev Good : ℕ → NetExpr → Type 0
      Good k e = (range_of (declared_ranges n r) e ≡ told k) × (list_all (is_clean (declared_ranges n r)) (parts e) ≡ true)

      name-good : (k : ℕ) → Good k (net_expr (n_alg k) 0)
      name-good k = (refl, and-both _ _ (and-both _ _ refl (told-narrow k)) refl)

      module _ (c : ℕ → NetExpr) (good : (k : ℕ) → Good k (c k)) where
        inner-told : inner c ≡ told
        inner-told = fun_ext (λ k. (good k).0)

        same : (e : NetExpr) → list_all not_received (names_in e) ≡ true → range_of (declared_ranges n r) (replaced c e) ≡ range_of (declared_ranges n truths) e
        same e q = replaced-range c (declared_ranges n r) e ∙ ap (λ g. ev (given r) g e) inner-told ∙ expr-quiet r truths e q

        each-good : (es : List NetExpr) → list_all (λ e. list_all not_received (names_in e)) es ≡ true → list_all (λ e. list_all (is_clean (declared_ranges n truths)) (parts e)) es ≡ true
            → list_all (λ e. list_all (is_clean (declared_ranges n r)) (parts e)) (map (replaced c) es) ≡ true
        each-good [] q h = refl
        each-good (e ∷ es) q h =
            and-both _ _ (all-clean c (declared_ranges n r) (declared_ranges n truths) not_received same (λ k. (good k).1) e (and-left _ _ q) (and-left _ _ h)) (each-good es (and-right _ _ q) (and-right _ _ h))

        parts-good : (a : NetAlg) → list_all (λ e. list_all not_received (names_in e)) (alg_exprs a) ≡ true → list_all (λ e. list_all (is_clean (declared_ranges n truths)) (parts e)) (alg_exprs a) ≡ true
            → is_narrow (range_of (declared_ranges n r) (defined_by (alg_replaced c a))) ≡ true → list_all (is_clean (declared_ranges n r)) (parts (defined_by (alg_replaced c a))) ≡ true
        parts-good =
            alg-cases (λ a. list_all (λ e. list_all not_received (names_in e)) (alg_exprs a) ≡ true → list_all (λ e. list_all (is_clean (declared_ranges n truths)) (parts e)) (alg_exprs a) ≡ true
            → is_narrow (range_of (declared_ranges n r) (defined_by (alg_replaced c a))) ≡ true → list_all (is_clean (declared_ranges n r)) (parts (defined_by (alg_replaced c a))) ≡ true)
            (λ a e q h w. and-left _ _ (each-good (e ∷ []) q h))
            (λ a i es q h w. places-clean (declared_ranges n r) i (map (replaced c) es) (each-good es q h) w)

        definition-good : (k : ℕ) (a : NetAlg) → slice_get n.algs k ≡ Some a → Good k (defined_by (alg_replaced c a))
        definition-good k a e =
            let m = at-member n.algs k a e in
            let is : range_of (declared_ranges n r) (defined_by (alg_replaced c a)) ≡ told k =
            sym (def-range (given r) told (alg_replaced c a)) ∙ def-after (given r) c told a ∙ ap (λ g. def (given r) g a) inner-told ∙ sym (fixed k a e) in
            (is, parts-good a (alg-quiet a (stands a m)) (clean a m) (ap is_narrow is ∙ told-narrow k))

      by-good : (k : ℕ) → Good k (s.by k)
      by-good = induction.each n p s Good (λ k. net_expr (n_alg k) 0) name-good (λ k e. name-good k) definition-good

      any-read : (xs : List Read) → list_all (λ x. true) xs ≡ true
      any-read [] = refl
      any-read (x ∷ xs) = any-read xs

      -- where r is received
      pub replaced-clean : (e : NetExpr) → list_all (is_clean (declared_ranges n r)) (parts e) ≡ true → list_all (is_clean (declared_ranges n r)) (parts (replaced s.by e)) ≡ true
      replaced-clean e h = all-clean s.by (declared_ranges n r) (declared_ranges n r) (λ x. true) (λ x q. range-same x) (λ k. (by-good k).1) e (any-read (names_in e)) h
