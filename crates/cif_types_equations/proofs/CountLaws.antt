-- Where a tally says that a name is defined once everywhere, no number of its definitions is another.
use Rattle.std.proofs.Common.{◌≡◌, ℕ, zero, suc, ◌+◌, ◌<◌, Bool, true, false, cond, ◌⊎◌, inl, inr, List, [], ◌∷◌, length, refl, sym, ap, subst, ◌∙◌, Option, Some, None, arith}
use Rattle.std.specs.Option.{option_or}
use Rattle.std.specs.Prelude.{nat_eq, filter_map}
use Rattle.std.proofs.lemmas.Bool.Decides.{nat_tests}
use Rattle.std.specs.List.{cons_option}
use Rattle.cif_system.proofs.Lists.{some-same, none-some}
use Rattle.cif_source.specs.Source.{Text, EquationTree, LocationTree, AutomatonTree, automaton_body}
use Rattle.cif_source.specs.Components.{same_text}
use Rattle.cif_source.specs.Value.{equation_for}
use Rattle.cif_types_equations.specs.declared.tallies.Tally.{Tally}
use Rattle.cif_types_equations.specs.Tallies.{follows}
use Rattle.cif_types_equations.specs.Counts.{unless_one, equation_count, first_other, is_at, is_single, other_count}
use Rattle.cif_types_equations.proofs.TallyLaws.{placed_in, placed_from}

-- so many equations more at location k
abbrev times : ℕ → ℕ → Option ℕ → Option ℕ
times k zero p = p
times k (suc n) p = times k n (follows k p)

times-none : (k n : ℕ) → times k n None ≡ None
times-none k zero = refl
times-none k (suc n) = times-none k n

self : (k : ℕ) → nat_eq k k ≡ true
self k = grind (arith, nat_tests)

other : (j k : ℕ) → j < k → nat_eq j k ≡ false
other j k h = grind (arith, nat_tests)

follows-self : (k : ℕ) → follows k (Some k) ≡ Some (k + 1)
follows-self k = ap (λ b. cond b (Some (k + 1)) None) (self k)

follows-other : (k j : ℕ) → j < k → follows k (Some j) ≡ None
follows-other k j h = ap (λ b. cond b (Some (k + 1)) None) (other j k h)

follows-next : (k : ℕ) → follows k (Some (k + 1)) ≡ None
follows-next k = let e : nat_eq (k + 1) k ≡ false = grind (arith, nat_tests) in ap (λ b. cond b (Some (k + 1)) None) e

-- not 0
abbrev Positive : Option ℕ → Type 0
Positive None = Unit {0}
Positive (Some n) = 0 < n

module _ (y : Text) where
  abbrev counted : Bool → EquationTree → List EquationTree → ℕ
  counted b q qs = length (cons_option (cond b (Some q.value) None) (filter_map (equation_for y) qs))

  in-times : (k : ℕ) (qs : List EquationTree) (p : Option ℕ) → placed_in y k qs p ≡ times k (equation_count y qs) p
  in-times k [] p = refl
  in-times k (q ∷ qs) p = in-times k qs (cond (same_text q.name.text y) (follows k p) p) ∙ go (same_text q.name.text y)
    where
      go : (b : Bool) → times k (equation_count y qs) (cond b (follows k p) p) ≡ times k (counted b q qs) p
      go true = refl
      go false = refl

  from-none : (ls : List LocationTree) (k : ℕ) → placed_from y k ls None ≡ None
  from-none [] k = refl
  from-none (l ∷ ls) k = ap (placed_from y (k + 1) ls) (in-times k l.equations None ∙ times-none k (equation_count y l.equations)) ∙ from-none ls (k + 1)

  -- a location's part of the way, by the number of its equations
  from-step : (l : LocationTree) (ls : List LocationTree) (k n : ℕ) (p : Option ℕ) → equation_count y l.equations ≡ n → placed_from y k (l ∷ ls) p ≡ placed_from y (k + 1) ls (times k n p)
  from-step l ls k n p e = ap (placed_from y (k + 1) ls) (in-times k l.equations p ∙ ap (λ m. times k m p) e)

  never : (ls : List LocationTree) (k m : ℕ) → placed_from y k ls None ≡ Some m → ⊥
  never ls k m h = none-some m (sym (from-none ls k) ∙ h)

  -- where it lags behind, it stays so
  lags : (ls : List LocationTree) (k j m : ℕ) → j < k → placed_from y k ls (Some j) ≡ Some m → j ≡ m
  lags [] k j m h e = some-same j m e
  lags (l ∷ ls) k j m h e = go (equation_count y l.equations) refl (λ g. lags ls (k + 1) j m (omega (arith, h)) g)
    where
      go : (n : ℕ) → equation_count y l.equations ≡ n → (placed_from y (k + 1) ls (Some j) ≡ Some m → j ≡ m) → j ≡ m
      go zero c ih = ih (sym (from-step l ls k zero (Some j) c) ∙ e)
      go (suc n) c ih =
          let none : times k n (follows k (Some j)) ≡ None = ap (times k n) (follows-other k j h) ∙ times-none k n in
          absurd (never ls (k + 1) m (sym (from-step l ls k (suc n) (Some j) c ∙ ap (placed_from y (k + 1) ls) none) ∙ e))

  further : (own : ℕ) (l : LocationTree) (ls : List LocationTree) (n : ℕ) → equation_count y l.equations ≡ n → unless_one (own + n) ≡ None → first_other own y ls ≡ None → first_other own y (l ∷ ls) ≡ None
  further own l ls n c h g = ap (λ m. option_or (unless_one (own + m)) (first_other own y ls)) c ∙ ap (λ o. option_or o (first_other own y ls)) h ∙ g

  -- each location has one
  each : (ls : List LocationTree) (k m : ℕ) → placed_from y k ls (Some k) ≡ Some m → m ≡ k + length ls → first_other 0 y ls ≡ None
  each [] k m e h = refl
  each (l ∷ ls) k m e h = go (equation_count y l.equations) refl (λ g. each ls (k + 1) m g (omega (arith, h)))
    where
      go : (n : ℕ) → equation_count y l.equations ≡ n → (placed_from y (k + 1) ls (Some (k + 1)) ≡ Some m → first_other 0 y ls ≡ None) → first_other 0 y (l ∷ ls) ≡ None
      go zero c ih = let late : k ≡ m = lags ls (k + 1) k m (omega arith) (sym (from-step l ls k zero (Some k) c) ∙ e) in absurd (omega (arith, late, h))
      go (suc zero) c ih = further 0 l ls 1 c refl (ih (sym (from-step l ls k 1 (Some k) c ∙ ap (placed_from y (k + 1) ls) (follows-self k)) ∙ e))
      go (suc (suc n)) c ih =
          let none : times k n (follows k (follows k (Some k))) ≡ None = ap (λ p. times k n (follows k p)) (follows-self k) ∙ ap (times k n) (follows-next k) ∙ times-none k n in
          absurd (never ls (k + 1) m (sym (from-step l ls k (suc (suc n)) (Some k) c ∙ ap (placed_from y (k + 1) ls) none) ∙ e))

  follows-positive : (k : ℕ) (p : Option ℕ) → Positive (follows k p)
  follows-positive k None = tt
  follows-positive k (Some n) = elim (nat_eq n k) as (λ b. Positive (cond b (Some (k + 1)) None)) [ true ↦ omega arith | false ↦ tt ]

  times-positive : (k n : ℕ) (p : Option ℕ) → Positive p → Positive (times k n p)
  times-positive k zero p h = h
  times-positive k (suc n) p h = times-positive k n (follows k p) (follows-positive k p)

  from-positive : (ls : List LocationTree) (k : ℕ) (p : Option ℕ) → Positive p → Positive (placed_from y k ls p)
  from-positive [] k p h = h
  from-positive (l ∷ ls) k p h = from-positive ls (k + 1) (placed_in y k l.equations p) (subst Positive (sym (in-times k l.equations p)) (times-positive k (equation_count y l.equations) p h))

  -- no location has one
  none : (ls : List LocationTree) (k : ℕ) → placed_from y k ls (Some 0) ≡ Some 0 → first_other 1 y ls ≡ None
  none [] k e = refl
  none (l ∷ ls) k e = go (equation_count y l.equations) refl (none ls (k + 1))
    where
      zero-not : 0 < 0 → ⊥
      zero-not h = omega (arith, h)

      go : (n : ℕ) → equation_count y l.equations ≡ n → (placed_from y (k + 1) ls (Some 0) ≡ Some 0 → first_other 1 y ls ≡ None) → first_other 1 y (l ∷ ls) ≡ None
      go zero c ih = further 1 l ls 0 c refl (ih (sym (from-step l ls k zero (Some 0) c) ∙ e))
      go (suc n) c ih =
          absurd (zero-not (subst Positive (sym (from-step l ls k (suc n) (Some 0) c) ∙ e) (from-positive ls (k + 1) (times k n (follows k (Some 0))) (times-positive k n (follows k (Some 0)) (follows-positive k (Some 0))))))

  -- ---- without going through the locations

  is-at : (p : Option ℕ) (n : ℕ) → is_at p n ≡ true → p ≡ Some n
  is-at None n h = absurd cc
  is-at (Some m) n h = let e : m ≡ n = grind (arith, nat_tests) in ap Some e

  single : (own n : ℕ) (p : Option ℕ) → is_single own p n ≡ true → ((own ≡ 1) × (p ≡ Some 0)) ⊎ ((own ≡ 0) × (p ≡ Some n))
  single own n p h = go (nat_eq own 1) refl (is_at p 0) refl (nat_eq own 0) refl (is_at p n) refl
    where
      one : nat_eq own 1 ≡ true → own ≡ 1
      one e = grind (arith, nat_tests)

      zero-is : nat_eq own 0 ≡ true → own ≡ 0
      zero-is e = grind (arith, nat_tests)

      go : (a : Bool) → nat_eq own 1 ≡ a → (b : Bool) → is_at p 0 ≡ b → (c : Bool) → nat_eq own 0 ≡ c → (d : Bool) → is_at p n ≡ d → ((own ≡ 1) × (p ≡ Some 0)) ⊎ ((own ≡ 0) × (p ≡ Some n))
      go true ea true eb c ec d ed = inl (one ea, is-at p 0 eb)
      go true ea false eb true ec true ed = inr (zero-is ec, is-at p n ed)
      go false ea b eb true ec true ed = inr (zero-is ec, is-at p n ed)
      go true ea false eb true ec false ed = absurd cc
      go true ea false eb false ec d ed = absurd cc
      go false ea b eb true ec false ed = absurd cc
      go false ea b eb false ec d ed = absurd cc

  single-none : (own : ℕ) (ls : List LocationTree) (p : Option ℕ) → p ≡ placed_from y 0 ls (Some 0) → is_single own p (length ls) ≡ true → first_other own y ls ≡ None
  single-none own ls p e h =
      elim (single own (length ls) p h) [
        | inl w ↦ ap (λ n. first_other n y ls) w.0 ∙ none ls 0 (sym e ∙ w.1)
        | inr w ↦ ap (λ n. first_other n y ls) w.0 ∙ each ls 0 (length ls) (sym e ∙ w.1) (omega arith)
      ]

  pub other-is : (own : ℕ) (a : AutomatonTree) (t : Tally) → t.placed ≡ placed_from y 0 a.locs (Some 0) → other_count (automaton_body a) t own y ≡ first_other own y a.locs
  other-is own a t e = go (is_single own t.placed (length a.locs)) refl
    where
      go : (b : Bool) → is_single own t.placed (length a.locs) ≡ b → cond b None (first_other own y a.locs) ≡ first_other own y a.locs
      go true h = sym (single-none own a.locs t.placed e h)
      go false h = refl
