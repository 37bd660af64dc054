-- The steps of runs are steps of the system, and scripts end or stop.
use Rattle.std.proofs.Common.{◌≡◌, ℕ, zero, suc, ◌+◌, cond, ◌<◌, ◌≤◌, ◌⊎◌, inl, inr, true, false, List, [], ◌∷◌, length, Option, Some, None, find, refl, sym, ap, subst, arith}
use Rattle.std.specs.Prelude.{is_some, unwrap_or, if◌then◌else◌}
use Rattle.std.specs.List.{range_with_len}
use Rattle.grammar.specs.Pieces.{Text}
use Rattle.cif_system.specs.Words.{Member}
use Rattle.cif_system.specs.System.{State, System, initial}
use Rattle.cif_system.specs.Step.{Step}
use Rattle.cif_system.specs.Choices.{event_numbers, first_step}
use Rattle.cif_system.specs.Scan.{fire}
use Rattle.cif_system.proofs.Lists.{some-same, none-some, find-none, range_with_len-member}
use Rattle.cif_system.proofs.ScanLaws.{first_step-step, first_step-none}
use Rattle.cif_sim_model.specs.Names.{Names}
use Rattle.cif_sim_model.specs.Script.{Action, idle, sets, fires, script_lines, read_line}
use Rattle.cif_sim_model.specs.Runs.{Moment, input_fits, with_input, next_by, moments_by, end_of, first_event, first_moments}
use Rattle.cif_sim_model.specs.Simulation.{StopCause, out_of_range, not_enabled, bad_line, FirstStop, actions_of, script_moments}
use Rattle.cif_sim_model.specs.Steps.{LeadsTo, IsRun, IsDeadlocked, IsFirstRun, RunsFirst, EndsOrStops}

module _ (m : System) where
  -- ---- scripts

  leads : (a : Action) (s next : State) → next_by m s a ≡ Some next → LeadsTo m a s next
  leads idle s next h = sym (some-same s next h)
  leads (sets input z) s next h =
      (elim (input_fits m input z) as (λ b. input_fits m input z ≡ b → (if b then Some (with_input s input z) else None) ≡ Some next → LeadsTo m (sets input z) s next) [
        | true ↦ λ e g. (e, sym (some-same (with_input s input z) next g))
        | false ↦ λ e g. absurd (none-some next g)
      ]) refl h
  leads (fires e) s next h = (first_step-step m s e next h, h)

  moments-run : (s : State) (as' : List Action) → IsRun m s (moments_by m s as')
  moments-run s [] = tt
  moments-run s (a ∷ as') =
      (elim (next_by m s a) as (λ o. next_by m s a ≡ o → IsRun m s (elim o [ None ↦ [] | Some next ↦ record { action = a; before = s; after = next } ∷ moments_by m next as' ])) [
        | None ↦ λ e. tt
        | Some next ↦ λ e. (refl, leads a s next e, moments-run next as')
      ]) refl

  module _ (names : Names) where
    -- what is made of lines from a state on
    abbrev made : State → List Text → List Moment
    made s ls = moments_by m s (actions_of names ls)

    abbrev Ends : State → List Text → Type 0
    Ends s ls = (length (made s ls) ≡ length ls) ⊎ ((why : StopCause) × FirstStop names m s ls (suc (length (made s ls))) why)

    -- an action that can't be made is a cause
    stuck : (s : State) (l : Text) (ls : List Text) (a : Action) → read_line names l ≡ Some a → next_by m s a ≡ None → (why : StopCause) × FirstStop names m s (l ∷ ls) 1 why
    stuck s l ls idle r h = absurd (none-some s (sym h))
    stuck s l ls (sets input z) r h =
        (elim (input_fits m input z) as (λ b. input_fits m input z ≡ b → (if b then Some (with_input s input z) else None) ≡ None → (why : StopCause) × FirstStop names m s (l ∷ ls) 1 why) [
          | true ↦ λ e g. absurd (none-some (with_input s input z) (sym g))
          | false ↦ λ e g. (out_of_range z, (input, r, e))
        ]) refl h
    stuck s l ls (fires e) r h = (not_enabled, (e, r, first_step-none m s e h))

    -- what the first line leads to, and the lines after it where there is a state for them
    abbrev on_with : State → List Text → Action → Option State → List Moment
    on_with s ls a o = elim o [ None ↦ [] | Some next ↦ record { action = a; before = s; after = next } ∷ made next ls ]

    abbrev read_with : State → List Text → Option Action → List Moment
    read_with s ls o = moments_by m s (elim o [ None ↦ [] | Some a ↦ a ∷ actions_of names ls ])

    abbrev EndsBy : State → Text → List Text → List Moment → Type 0
    EndsBy s l ls hs = (length hs ≡ suc (length ls)) ⊎ ((why : StopCause) × FirstStop names m s (l ∷ ls) (suc (length hs)) why)

    further : (s : State) (l : Text) (ls : List Text) (a : Action) (next : State) → read_line names l ≡ Some a → next_by m s a ≡ Some next → Ends next ls
        → EndsBy s l ls (record { action = a; before = s; after = next } ∷ made next ls)
    further s l ls a next r h (inl e) = inl (ap suc e)
    further s l ls a next r h (inr w) = inr (w.0, (a, next, r, h, w.1))

    ends : (s : State) (ls : List Text) → Ends s ls
    ends s [] = inl refl
    ends s (l ∷ ls) =
        (elim (read_line names l) as (λ o. read_line names l ≡ o → EndsBy s l ls (read_with s ls o)) [
          | None ↦ λ r. inr (bad_line, r)
          | Some a ↦ λ r.
              (elim (next_by m s a) as (λ o. next_by m s a ≡ o → EndsBy s l ls (on_with s ls a o)) [
                | None ↦ λ h. inr (stuck s l ls a r h)
                | Some next ↦ λ h. further s l ls a next r h (ends next ls)
              ]) refl
        ]) refl

  -- ---- the first event that has a step

  none-step : (s : State) (e : ℕ) → is_some (first_step m s e) ≡ false → (next : State) → Step m s e next → ⊥
  none-step s e h =
      (elim (first_step m s e) as (λ o. first_step m s e ≡ o → is_some o ≡ false → (next : State) → Step m s e next → ⊥) [
        | None ↦ λ g f. first_step-none m s e g
        | Some next ↦ λ g f. absurd cc
      ]) refl h

  -- what is found among n numbers from k on is the lowest
  record Lowest (s : State) (k n e : ℕ) : Type 0 where
    below : e < k + n
    has : is_some (first_step m s e) ≡ true
    none : (j : ℕ) → k ≤ j → j < e → is_some (first_step m s j) ≡ false

  at-first : (s : State) (k n e : ℕ) → is_some (first_step m s k) ≡ true → k ≡ e → Lowest s k (suc n) e
  at-first s k n e g same = record {
    below = omega (arith, same);
    has = subst (λ i. is_some (first_step m s i) ≡ true) same g;
    none = λ j low high. absurd (omega (arith, same, low, high));
  }

  later : (s : State) (k n e : ℕ) → is_some (first_step m s k) ≡ false → Lowest s (k + 1) n e → Lowest s k (suc n) e
  later s k n e g rest = record {
    below = let b = rest.below in omega (arith, b);
    has = rest.has;
    none = λ j low high. elim (split k j low) [ inl is ↦ subst (λ i. is_some (first_step m s i) ≡ false) is g | inr more ↦ rest.none j more high ];
  }
    where
      split : (k j : ℕ) → k ≤ j → (k ≡ j) ⊎ (k + 1 ≤ j)
      split zero zero h = inl refl
      split zero (suc j) h = inr (omega arith)
      split (suc k) zero h = absurd (omega (arith, h))
      split (suc k) (suc j) h = elim (split k j (omega (arith, h))) [ inl e ↦ inl (ap suc e) | inr w ↦ inr (omega (arith, w)) ]

  found-low : (s : State) (k n e : ℕ) → find (λ j. is_some (first_step m s j)) (range_with_len k n) ≡ Some e → Lowest s k n e
  found-low s k zero e h = absurd (none-some e h)
  found-low s k (suc n) e h =
      (elim (is_some (first_step m s k)) as (λ b. is_some (first_step m s k) ≡ b → cond b (Some k) (find (λ j. is_some (first_step m s j)) (range_with_len (k + 1) n)) ≡ Some e → Lowest s k (suc n) e) [
        | true ↦ λ g f. at-first s k n e g (some-same k e f)
        | false ↦ λ g f. later s k n e g (found-low s (k + 1) n e f)
      ]) refl h

  event-low : (s : State) (e : ℕ) → first_event m s ≡ Some e → Lowest s 0 (length m.events) e
  event-low s e h = found-low s 0 (length m.events) e h

  no-event : (s : State) → first_event m s ≡ None → IsDeadlocked m s
  no-event s h e b next step =
      (elim (is_some (first_step m s e)) as (λ o. is_some (first_step m s e) ≡ o → ⊥) [
        | true ↦ λ g. find-none (λ j. is_some (first_step m s j)) (event_numbers m) e h (subst (λ i. Member i (event_numbers m)) (omega arith) (range_with_len-member 0 (length m.events) e b)) g
        | false ↦ λ g. none-step s e g next step
      ]) refl

  fired : (s : State) (e : ℕ) → is_some (first_step m s e) ≡ true → first_step m s e ≡ Some (fire m s e)
  fired s e h =
      (elim (first_step m s e) as (λ o. is_some o ≡ true → o ≡ Some (unwrap_or o s)) [
        | None ↦ λ g. absurd cc
        | Some next ↦ λ g. refl
      ]) h

  -- ---- runs by it

  abbrev by_event : State → (n : ℕ) → Option ℕ → List Moment
  by_event s n o = elim o [ None ↦ [] | Some e ↦ record { action = fires e; before = s; after = fire m s e } ∷ first_moments m (fire m s e) n ]

  record FirstRuns (s : State) (n : ℕ) (hs : List Moment) : Type 0 where
    run : IsRun m s hs
    first : IsFirstRun m s hs
    within : length hs ≤ n
    ended : length hs < n → IsDeadlocked m (end_of s hs)

  one-more : (s : State) (n e : ℕ) → Lowest s 0 (length m.events) e → FirstRuns (fire m s e) n (first_moments m (fire m s e) n)
      → FirstRuns s (suc n) (record { action = fires e; before = s; after = fire m s e } ∷ first_moments m (fire m s e) n)
  one-more s n e low rest = record {
    run = (refl, (first_step-step m s e (fire m s e) (fired s e low.has), fired s e low.has), rest.run);
    first = (e, refl, (let b = low.below in omega (arith, b)), (λ k b. none-step s k (low.none k (omega arith) b)), rest.first);
    within = let w = rest.within in omega (arith, w);
    ended = λ h. rest.ended (omega (arith, h));
  }

  runs-first : (s : State) (n : ℕ) → FirstRuns s n (first_moments m s n)
  runs-first s zero = record { run = tt; first = tt; within = omega arith; ended = λ h. absurd (omega (arith, h)) }
  runs-first s (suc n) =
      (elim (first_event m s) as (λ o. first_event m s ≡ o → FirstRuns s (suc n) (by_event s n o)) [
        | None ↦ λ e. record { run = tt; first = tt; within = omega arith; ended = λ h. no-event s e }
        | Some e ↦ λ h. one-more s n e (event-low s e h) (runs-first (fire m s e) n)
      ]) refl

pub scripts-make : (names : Names) (m : System) (script : Text) → IsRun m (initial m) (script_moments names m script)
scripts-make names m script = moments-run m (initial m) (actions_of names (script_lines script))

pub ends-or-stops : (names : Names) (m : System) (script : Text) → EndsOrStops names m script
ends-or-stops names m script = ends m names (initial m) (script_lines script)

pub first-runs : (m : System) (s : State) (n : ℕ) → RunsFirst m s n
first-runs m s n = let all = runs-first m s n in record { run = all.run; first = all.first; within = all.within; ended = all.ended }
