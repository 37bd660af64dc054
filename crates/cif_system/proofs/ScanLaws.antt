-- The exact scan is a legal one.
use Rattle.std.proofs.Common.{◌≡◌, ℕ, zero, suc, ◌<◌, ◌≤◌, ℤ, ◌⊎◌, inl, inr, List, [], ◌∷◌, ◌++◌, length, Some, None, find, refl, sym, ◌∙◌, ap, subst, arith, length-append}
use Rattle.std.specs.List.{range_with_len}
use Rattle.std.specs.Prelude.{unwrap_or, option_map, IsTrue, slice_get}
use Rattle.cif_system.specs.Words.{Member}
use Rattle.cif_system.specs.System.{Class, State, System, con, unc}
use Rattle.cif_system.specs.Step.{Run, Step, after, has_class, is_of, makes_step}
use Rattle.cif_system.specs.Choices.{choices, event_numbers, first_step}
use Rattle.cif_system.specs.Scan.{BoundedRun, ScanIsLegal, exact_scan, fire, fire_all, of_class, rounds, with_inputs}
use Rattle.cif_system.proofs.Lists.{some-same, none-some, find-passes, find-none, filter-member, filter-passes, range_with_len-member, slice_get-below}
use Rattle.cif_system.proofs.ChoiceLaws.{choices-listed, makes_step-agrees}

-- a first step is a step
pub first_step-step : (t : System) (s : State) (e : ℕ) (next : State) → first_step t s e ≡ Some next → Step t s e next
first_step-step t s e next h =
    (elim (find (makes_step t s e) (choices t e)) as (λ o. find (makes_step t s e) (choices t e) ≡ o → option_map (after t s) o ≡ Some next → Step t s e next) [
      | None ↦ λ found g. absurd (none-some next g)
      | Some ch ↦ λ found g. record { choice = ch; makes = find-passes (makes_step t s e) (choices t e) ch found; is_after = sym (some-same (after t s ch) next g) }
    ]) refl h

-- an event with no first step has none
pub first_step-none : (t : System) (s : State) (e : ℕ) → first_step t s e ≡ None → (next : State) → Step t s e next → ⊥
first_step-none t s e h next step =
    (elim (find (makes_step t s e) (choices t e)) as (λ o. find (makes_step t s e) (choices t e) ≡ o → option_map (after t s) o ≡ None → ⊥) [
      | None ↦ λ found g. find-none (makes_step t s e) (choices t e) step.choice found (choices-listed t s e step.choice (makes_step-agrees t s e step.choice step.makes)) step.makes
      | Some ch ↦ λ found g. none-some (after t s ch) (sym g)
    ]) refl h

pub run-append : (t : System) (k : Class) (s : State) (xs ys : List ℕ) (mid next : State) → Run t k s xs mid → Run t k mid ys next → Run t k s (xs ++ ys) next
run-append t k s [] ys mid next r q = subst (λ m. Run t k m ys next) r q
run-append t k s (x ∷ xs) ys mid next r q = (r.0, r.1, r.2, run-append t k r.0 xs ys mid next r.3 q)

-- what firing the events of a list in turn does: some are fired, or none can be
pub record Fired (t : System) (k : Class) (s : State) (es : List ℕ) : Type 0 where
  pub fired : List ℕ
  pub run : Run t k s fired (fire_all t s es)
  pub some : (1 ≤ length fired) ⊎ ((fire_all t s es ≡ s) × ((e : ℕ) → Member e es → first_step t s e ≡ None))

pub fire_all-fired : (t : System) (k : Class) (s : State) (es : List ℕ) → ((e : ℕ) → Member e es → IsTrue (is_of t k e)) → Fired t k s es
fire_all-fired t k s [] all = record { fired = []; run = refl; some = inr (refl, λ e m. absurd m) }
fire_all-fired t k s (e ∷ es) all =
    (elim (first_step t s e) as (λ o. first_step t s e ≡ o → Fired t k s (e ∷ es)) [
      | None ↦ λ h.
          let same : fire t s e ≡ s = ap (λ o. unwrap_or o s) h in
          let more : Fired t k (fire t s e) es = fire_all-fired t k (fire t s e) es (λ i m. all i (inr m)) in
          record {
            fired = more.fired;
            run = subst (λ m. Run t k m more.fired (fire_all t (fire t s e) es)) same more.run;
            some = elim more.some [
              | inl n ↦ inl n
              | inr b ↦ inr (b.0 ∙ same, λ i m. elim m [ inl w ↦ subst (λ j. first_step t s j ≡ None) (sym w) h | inr w ↦ subst (λ r. first_step t r i ≡ None) same (b.1 i w) ])
            ];
          }
      | Some next ↦ λ h.
          let same : fire t s e ≡ next = ap (λ o. unwrap_or o s) h in
          let more : Fired t k (fire t s e) es = fire_all-fired t k (fire t s e) es (λ i m. all i (inr m)) in
          record {
            fired = e ∷ more.fired;
            run = (fire t s e, all e (inl refl), first_step-step t s e (fire t s e) (h ∙ ap Some (sym same)), more.run);
            some = inl (omega arith);
          }
    ]) refl

pub of_class-is : (t : System) (k : Class) (e : ℕ) → Member e (of_class t k) → IsTrue (is_of t k e)
of_class-is t k e m = filter-passes (is_of t k) (event_numbers t) e m

-- an event with a class has a number
pub is_of-below : (t : System) (k : Class) (e : ℕ) → IsTrue (is_of t k e) → e < length t.events
is_of-below t k e h =
    (elim (slice_get t.events e) as (λ o. slice_get t.events e ≡ o → IsTrue (has_class k o) → e < length t.events) [
      | None ↦ λ is g. cc
      | Some d ↦ λ is g. slice_get-below t.events e d is
    ]) refl h

pub of_class-all : (t : System) (k : Class) (e : ℕ) → IsTrue (is_of t k e) → Member e (of_class t k)
of_class-all t k e h =
    filter-member (is_of t k) (event_numbers t) e (subst (λ i. Member i (event_numbers t)) (omega arith) (range_with_len-member 0 (length t.events) e (is_of-below t k e h))) h

-- a round in which nothing fires leaves the state, and so does each later one
pub rounds-still : (t : System) (k : Class) (n : ℕ) (s : State) → fire_all t s (of_class t k) ≡ s → rounds t k n s ≡ s
rounds-still t k zero s h = refl
rounds-still t k (suc n) s h = ap (rounds t k n) h ∙ rounds-still t k n s h

-- rounds fire so many events, or till none of the class is left
pub rounds-run : (t : System) (k : Class) (n : ℕ) (s : State) → BoundedRun t k n s (rounds t k n s)
rounds-run t k zero s = record { fired = []; run = refl; enough = inl (omega arith) }
rounds-run t k (suc n) s =
    let first : Fired t k s (of_class t k) = fire_all-fired t k s (of_class t k) (of_class-is t k) in
    let rest : BoundedRun t k n (fire_all t s (of_class t k)) (rounds t k n (fire_all t s (of_class t k))) = rounds-run t k n (fire_all t s (of_class t k)) in
    elim first.some [
      | inl more ↦ record {
        fired = first.fired ++ rest.fired;
        run = run-append t k s first.fired rest.fired (fire_all t s (of_class t k)) (rounds t k n (fire_all t s (of_class t k))) first.run rest.run;
        enough = elim rest.enough [ inl m ↦ inl (omega (arith, length-append first.fired rest.fired, more, m)) | inr x ↦ inr x ];
      }
      | inr still ↦
          let same : rounds t k n (fire_all t s (of_class t k)) ≡ s = rounds-still t k (suc n) s still.0 in
          record {
            fired = [];
            run = same;
            enough = inr (λ e next c step. first_step-none t s e (still.1 e (of_class-all t k e c)) next (subst (λ r. Step t r e next) same step));
          }
    ]

-- the exact scan is a legal one
pub exact_scan-legal : (t : System) (s : State) (row : List ℤ) (U C : ℕ) → ScanIsLegal t s row (exact_scan t s row U C) U C
exact_scan-legal t s row U C = record {
  middle = rounds t unc U (with_inputs s row);
  uncontrollable = rounds-run t unc U (with_inputs s row);
  controllable = rounds-run t con C (rounds t unc U (with_inputs s row));
}
