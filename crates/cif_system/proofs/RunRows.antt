-- Worked examples of what is no run, no legal scan and no state.
use Rattle.std.proofs.Common.{◌≡◌, ℕ, zero, suc, ◌≤◌, pos, List, [], ◌∷◌, length, ◌⊎◌, inl, inr, refl, sym, ◌∙◌, ap, subst, arith}
use Rattle.std.specs.Prelude.{IsTrue}
use Rattle.cif_system.specs.Words.{Member}
use Rattle.cif_system.specs.System.{State, IsState, unc, con, initial}
use Rattle.cif_system.specs.Step.{Choice, Run, Step, Exhausted, after, is_of}
use Rattle.cif_system.specs.Choices.{choices}
use Rattle.cif_system.specs.Scan.{ScanIsLegal}
use Rattle.cif_system.proofs.Lists.{false-true}
use Rattle.cif_system.proofs.ChoiceLaws.{choices-listed, makes_step-agrees}
use Rattle.cif_system.proofs.ScanLaws.{first_step-step}
use Rattle.cif_system.proofs.Makers.{at_places, place_at}
use Rattle.cif_system.proofs.Rows.{two_classes, swapping, with_values}
use Rattle.cif_system.proofs.ScanRows.{twice, reading_input, with_input}

-- event 1 is controllable
no_run_of_another_class : (next : State) → Run two_classes unc (at_places (1 ∷ [])) (1 ∷ []) next → ⊥
no_run_of_another_class next r = false-true refl r.1

-- two_classes has the events 0 and 1
no_run_of_an_event_past_the_last : (next : State) → Run two_classes unc (at_places (0 ∷ [])) (2 ∷ []) next → ⊥
no_run_of_an_event_past_the_last next r = false-true refl r.1

-- from place 0 event 0 can fire
event_with_a_step_is_left : Exhausted twice unc (initial twice) → ⊥
event_with_a_step_is_left none = none 0 (at_places (1 ∷ [])) refl (first_step-step twice (initial twice) 0 (at_places (1 ∷ [])) refl)

-- each uncontrollable step of twice leads to place 1 or 2
forward : (s : State) (e : ℕ) (next : State) → IsTrue (is_of twice unc e) → Step twice s e next → place_at 0 next ≡ 0 → ⊥
forward s (suc e) next is step at = false-true refl is
forward s zero next is step at = listed step.choice (choices-listed twice s 0 step.choice (makes_step-agrees twice s 0 step.choice step.makes)) (sym (ap (place_at 0) step.is_after) ∙ at)
  where
    listed : (ch : Choice) → Member ch (choices twice 0) → place_at 0 (after twice s ch) ≡ 0 → ⊥
    listed ch m p = elim m [
      | inl w ↦ let one : place_at 0 (after twice s ch) ≡ 1 = ap (λ c. place_at 0 (after twice s c)) w in omega (arith, one, p)
      | inr v ↦ elim v [
        | inl w ↦ let two : place_at 0 (after twice s ch) ≡ 2 = ap (λ c. place_at 0 (after twice s c)) w in omega (arith, two, p)
        | inr u ↦ u
      ]
    ]

run_forward : (s : State) (e : ℕ) (es : List ℕ) (next : State) → Run twice unc s (e ∷ es) next → place_at 0 next ≡ 0 → ⊥
run_forward s e [] next r at = forward s e r.0 r.1 r.2 (sym (ap (place_at 0) r.3) ∙ at)
run_forward s e (f ∷ es) next r at = run_forward r.0 f es next r.3 at

-- twice has no controllable event
no_controllable_run : (s : State) (es : List ℕ) (next : State) → Run twice con s es next → next ≡ s
no_controllable_run s [] next r = r
no_controllable_run s (zero ∷ es) next r = absurd (false-true refl r.1)
no_controllable_run s (suc e ∷ es) next r = absurd (false-true refl r.1)

-- a scan that fires nothing, where one event is to fire and can
no_scan_that_stops_early : ScanIsLegal twice (initial twice) [] (initial twice) 1 0 → ⊥
no_scan_that_stops_early scan =
    fires scan.uncontrollable.fired scan.middle scan.uncontrollable.run scan.uncontrollable.enough (no_controllable_run scan.middle scan.controllable.fired (initial twice) scan.controllable.run)
  where
    fires : (es : List ℕ) (middle : State) → Run twice unc (initial twice) es middle → (1 ≤ length es) ⊎ Exhausted twice unc middle → initial twice ≡ middle → ⊥
    fires [] middle r enough same = elim enough [ inl n ↦ omega (arith, n) | inr none ↦ event_with_a_step_is_left (subst (Exhausted twice unc) (sym same) none) ]
    fires (e ∷ es) middle r enough same = run_forward (initial twice) e es middle r (ap (place_at 0) (sym same))

-- two places, 0 and 1
no_place_past_the_last : IsState two_classes (at_places (2 ∷ [])) → ⊥
no_place_past_the_last h = omega (arith, h.places.0)

no_automaton_without_a_place : IsState two_classes (at_places []) → ⊥
no_automaton_without_a_place h = h.places

-- the range is 0 to 2
no_value_out_of_range : IsState swapping (with_values (pos 0 ∷ pos 3 ∷ [])) → ⊥
no_value_out_of_range h = false-true refl h.values.1.0

no_input_out_of_range : IsState reading_input (with_input 0 (pos 3)) → ⊥
no_input_out_of_range h = false-true refl h.inputs.0
