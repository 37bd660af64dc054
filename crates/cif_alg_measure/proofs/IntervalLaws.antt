-- The rules on divisors and on 64 bits over the declared ranges of a net.
use Rattle.std.proofs.Common.{◌≡◌, ℕ, pos, Bool, true, false, not, List, [], ◌∷◌, length, slice_get, inl, inr, refl, sym, ◌∙◌, ap, subst, Result, Ok, Err, IfErr}
use Rattle.std.specs.List.{list_all}
use Rattle.std.specs.Result.{IsErrAnd}
use Rattle.cif_base.specs.Bounds.{Bounds}
use Rattle.cif_system.specs.System.{Range, in_range}
use Rattle.cif_system.specs.Words.{Member}
use Rattle.cif_system.proofs.Lists.{none-some}
use Rattle.cif_system.proofs.Distinct.{member-flat_map}
use Rattle.cif_net_model.specs.Net.{Net}
use Rattle.cif_net_model.specs.Unfolding.{at_or, unfolded}
use Rattle.cif_net_model.specs.Interval.{point, Ranges, range_of, with_algs, alg_range, alg_ranges, stored_range, declared_ranges}
use Rattle.cif_net_model.specs.Parts.{parts, own_divisors, part_divides, divides, is_narrow, is_narrow_expr}
use Rattle.cif_net_model.specs.Rules.{Needs, IsAcyclic, Evaluated, evaluated, is_plain_expr}
use Rattle.cif_net_model.specs.Reads.{names_no_alg}
use Rattle.cif_net_model.proofs.CycleLaws.{acyclic-by_rank}
use Rattle.cif_net_model.proofs.Passing.{not-true, all-member}
use Rattle.cif_net_model.proofs.PlainLaws.{never}
use Rattle.cif_alg_measure.specs.declared.error.WidthErr.{WidthErr}
use Rattle.cif_alg_measure.specs.declared.error.WidthErr.TheVariants as width
use Rattle.cif_alg_measure.specs.declared.error.IntervalErr.{IntervalErr}
use Rattle.cif_alg_measure.specs.declared.error.IntervalErr.TheVariants.{Width}
use Rattle.cif_alg_measure.specs.Faults.{HasFault}
use Rattle.cif_alg_measure.specs.Meanings.{table_range}
use Rattle.cif_alg_measure.specs.Rules.{declared_divides, declared_is_narrow, NoZeroDivisor, NoneTooWide, due}
use Rattle.cif_alg_measure.proofs.Says.{and-both}
use Rattle.cif_alg_measure.specs.Widths.{with_received, evaluated_divides, evaluated_is_narrow, SomeFault}

-- ---- ranges that are the declared ones

module _ (n : Net) (g : Ranges) (same : (r : Range) → with_received g r ≡ declared_ranges n r) where
  pub declared-divide : list_all (evaluated_divides g) (evaluated n) ≡ true → list_all (declared_divides n) (evaluated n) ≡ true
  declared-divide h = let e : list_all (evaluated_divides g) (evaluated n) ≡ list_all (declared_divides n) (evaluated n) = λ i. list_all (λ x. divides (same x.received i) x.value) (evaluated n) in sym e ∙ h

  pub declared-narrow : list_all (evaluated_is_narrow g) (evaluated n) ≡ true → list_all (declared_is_narrow n) (evaluated n) ≡ true
  declared-narrow h = let e : list_all (evaluated_is_narrow g) (evaluated n) ≡ list_all (declared_is_narrow n) (evaluated n) = λ i. list_all (λ x. is_narrow_expr (same x.received i) x.value) (evaluated n) in sym e ∙ h

  declared-fault : (x : Evaluated) (e : WidthErr) → IsAcyclic n → Member x (evaluated n) → HasFault (declared_ranges n x.received) x.value e → due n (Width e)
  declared-fault x (width.ZeroDivisor at) c m f = (c, x, f.0, m, f.1, f.2, f.3)
  declared-fault x (width.TooWide at) c m f = (c, x, f.0, m, f.1, f.2, f.3)

  pub fault-due : (e : WidthErr) → IsAcyclic n → SomeFault g (evaluated n) e → due n (Width e)
  fault-due e c f = declared-fault f.0 e c f.1 (subst (λ h. HasFault h f.0.value e) (same f.0.received) f.2)

-- ---- what passes breaks no rule

opposed : {b : Bool} → b ≡ false → b ≡ true → ⊥
opposed h k = never (sym h ∙ k)

pub none-divides : (n : Net) → list_all (declared_divides n) (evaluated n) ≡ true → NoZeroDivisor n
none-divides n h at (c, x, d, i, j, p, z) =
    let f = member-flat_map own_divisors d (parts x.value) j in
    let k : part_divides (declared_ranges n x.received) f.0 ≡ true = all-member (part_divides (declared_ranges n x.received)) (parts x.value) f.0 (all-member (declared_divides n) (evaluated n) x h i) f.1 in
    opposed (not-true _ (all-member (λ e. not (in_range (range_of (declared_ranges n x.received) e) (pos 0))) (own_divisors f.0) d k f.2)) z

pub none-wide : (n : Net) → list_all (declared_is_narrow n) (evaluated n) ≡ true → NoneTooWide n
none-wide n h at (c, x, p, i, j, q, z) =
    opposed z (all-member (λ e. is_narrow (range_of (declared_ranges n x.received) e)) (parts x.value) p (all-member (declared_is_narrow n) (evaluated n) x h i) j)

-- ---- all that a plain net asks of an expression

all-from : {A : Type 0} (p : A → Bool) (xs : List A) → ((x : A) → Member x xs → p x ≡ true) → list_all p xs ≡ true
all-from p [] h = refl
all-from p (x ∷ xs) h = and-both _ _ (h x (inl refl)) (all-from p xs (λ y m. h y (inr m)))

pub plain-all : (n : Net) → ((x : Evaluated) → Member x (evaluated n) → names_no_alg x.value ≡ true) → list_all (declared_divides n) (evaluated n) ≡ true → list_all (declared_is_narrow n) (evaluated n) ≡ true → list_all (is_plain_expr n) (evaluated n) ≡ true
plain-all n free h k =
    all-from (is_plain_expr n) (evaluated n)
    (λ x m. and-both _ _ (and-both _ _ (free x m) (all-member (declared_divides n) (evaluated n) x h m)) (all-member (declared_is_narrow n) (evaluated n) x k m))

-- ---- no algebraic variables

abbrev pub tables : (vars inputs : List Bounds) → Range → Ranges
tables vars inputs received = record { vars = table_range vars; inputs = table_range inputs; algs = table_range []; received = received }

module _ (n : Net) (none : n.algs ≡ []) where
  needs-none : (j k : ℕ) → Needs n j k → ⊥
  needs-none j k w = none-some w.0 (ap (λ xs. slice_get xs j) (sym none) ∙ w.1)

  pub acyclic : IsAcyclic n
  acyclic = acyclic-by_rank n (λ k. k) (λ j k r. absurd (needs-none j k r))

  algs-none : (g : Ranges) → alg_ranges n g (length n.algs) ≡ []
  algs-none g = ap (λ ds. unfolded (point (pos 0)) (λ algs a. alg_range (range_of (with_algs g algs)) a) ds (length ds)) none

  -- tables of the declared ranges, where there is no algebraic variable
  pub tables-declared : (vs vs' is is' : List Bounds) (t : Range) → vs ≡ vs' → is ≡ is' → ((k : ℕ) → table_range vs' k ≡ stored_range (slice_get n.vars k)) → ((k : ℕ) → table_range is' k ≡ stored_range (slice_get n.inputs k))
      → (r : Range) → with_received (tables vs is t) r ≡ declared_ranges n r
  tables-declared vs vs' is is' t p q vars inputs r =
      let g : Ranges = record { vars = λ k. stored_range (slice_get n.vars k); inputs = λ k. stored_range (slice_get n.inputs k); algs = λ k. point (pos 0); received = r } in
      let v : (k : ℕ) → table_range vs k ≡ stored_range (slice_get n.vars k) = λ k. ap (λ bs. table_range bs k) p ∙ vars k in
      let w : (k : ℕ) → table_range is k ≡ stored_range (slice_get n.inputs k) = λ k. ap (λ bs. table_range bs k) q ∙ inputs k in
      let a : (k : ℕ) → table_range [] k ≡ at_or (point (pos 0)) (alg_ranges n g (length n.algs)) k = λ k. sym (ap (λ rs. at_or (point (pos 0)) rs k) (algs-none g)) in
      λ i. record { vars = λ k. v k i; inputs = λ k. w k i; algs = λ k. a k i; received = r }

-- ---- the answer

pub fault-told : (n : Net) (r : Result (Unit {0}) IntervalErr) (x : WidthErr) → IsErrAnd r (λ e. e ≡ Width x) → due n (Width x) → IfErr r (due n)
fault-told n (Ok d) x h k = tt
fault-told n (Err e) x h k = subst (due n) (sym h) k
