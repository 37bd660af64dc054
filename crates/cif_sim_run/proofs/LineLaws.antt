-- The text of the lines of a script, line by line, and where they stop.
use Rattle.std.proofs.Common.{◌≡◌, ℕ, zero, suc, ◌+◌, List, [], ◌∷◌, ◌++◌, Some, None, false, refl, sym, ◌∙◌, ap, subst, append_assoc, arith}
use Rattle.std.proofs.lemmas.List.{append-nil}
use Rattle.std.specs.Prelude.{if◌then◌else◌}
use Rattle.grammar.specs.Pieces.{Text}
use Rattle.cif_system.specs.System.{State, System}
use Rattle.cif_system.specs.Choices.{first_step}
use Rattle.cif_system.proofs.Lists.{some-same, none-some}
use Rattle.cif_system.proofs.ScanLaws.{first_step-step, first_step-none}
use Rattle.cif_sim_model.specs.Names.{Names}
use Rattle.cif_sim_model.specs.Script.{Action, idle, sets, fires, read_line}
use Rattle.cif_sim_model.specs.Runs.{Moment, input_fits, with_input, next_by, moments_by, end_of}
use Rattle.cif_sim_model.specs.Simulation.{StopCause, out_of_range, not_enabled, bad_line, Meets, FirstStop, actions_of, moment_text, steps_after, moments_text}
use Rattle.cif_sim_run.specs.Left.{moments_of, text_left, state_left, NoStop, Prevents, Followed}

abbrev moment : Action → State → State → Moment
moment a s next = record { action = a; before = s; after = next }

module _ (names : Names) (m : System) where
  -- ---- the first line

  read-none : (s : State) (l : Text) (ls : List Text) → read_line names l ≡ None → moments_of names m s (l ∷ ls) ≡ []
  read-none s l ls r = ap (λ o. moments_by m s (elim o [ None ↦ [] | Some a ↦ a ∷ actions_of names ls ])) r

  read-some : (s : State) (l : Text) (ls : List Text) (a : Action) → read_line names l ≡ Some a → moments_of names m s (l ∷ ls) ≡ moments_by m s (a ∷ actions_of names ls)
  read-some s l ls a r = ap (λ o. moments_by m s (elim o [ None ↦ [] | Some b ↦ b ∷ actions_of names ls ])) r

  act-none : (s : State) (l : Text) (ls : List Text) (a : Action) → read_line names l ≡ Some a → next_by m s a ≡ None → moments_of names m s (l ∷ ls) ≡ []
  act-none s l ls a r h =
      read-some s l ls a r
      ∙ ap (λ o. elim o [ None ↦ [] | Some next ↦ moment a s next ∷ moments_by m next (actions_of names ls) ]) h

  act-some : (s next : State) (l : Text) (ls : List Text) (a : Action) → read_line names l ≡ Some a → next_by m s a ≡ Some next
      → moments_of names m s (l ∷ ls) ≡ moment a s next ∷ moments_of names m next ls
  act-some s next l ls a r h =
      read-some s l ls a r
      ∙ ap (λ o. elim o [ None ↦ [] | Some n ↦ moment a s n ∷ moments_by m n (actions_of names ls) ]) h

  -- ---- a line that meets a cause

  prevents-none : (s : State) (a : Action) (why : StopCause) → Prevents m s a why → next_by m s a ≡ None
  prevents-none s idle why h = absurd h
  prevents-none s (sets input z) (out_of_range y) h = ap (λ b. if b then Some (with_input s input z) else None) h.1
  prevents-none s (sets input z) not_enabled h = absurd h
  prevents-none s (sets input z) bad_line h = absurd h
  prevents-none s (fires e) (out_of_range y) h = absurd h
  prevents-none s (fires e) not_enabled h = h
  prevents-none s (fires e) bad_line h = absurd h

  pub prevents-meets : (s : State) (l : Text) (a : Action) (why : StopCause) → read_line names l ≡ Some a → Prevents m s a why → Meets names m s l why
  prevents-meets s l idle why r h = absurd h
  prevents-meets s l (sets input z) (out_of_range y) r h = (input, subst (λ x. read_line names l ≡ Some (sets input x)) (sym h.0) r, subst (λ x. input_fits m input x ≡ false) (sym h.0) h.1)
  prevents-meets s l (sets input z) not_enabled r h = absurd h
  prevents-meets s l (sets input z) bad_line r h = absurd h
  prevents-meets s l (fires e) (out_of_range y) r h = absurd h
  prevents-meets s l (fires e) not_enabled r h = (e, r, first_step-none m s e h)
  prevents-meets s l (fires e) bad_line r h = absurd h

  -- such a line can't be followed
  blocked : (s next : State) (l : Text) (why : StopCause) (a : Action) → Meets names m s l why → read_line names l ≡ Some a → next_by m s a ≡ Some next → ⊥
  blocked s next l (out_of_range z) a h r n =
      let same : a ≡ sets h.0 z = some-same a (sets h.0 z) (sym r ∙ h.1) in
      let none : next_by m s (sets h.0 z) ≡ None = ap (λ b. if b then Some (with_input s h.0 z) else None) h.2 in
      none-some next (sym none ∙ ap (next_by m s) (sym same) ∙ n)
  blocked s next l not_enabled a h r n =
      let same : a ≡ fires h.0 = some-same a (fires h.0) (sym r ∙ h.1) in
      h.2 next (first_step-step m s h.0 next (ap (next_by m s) (sym same) ∙ n))
  blocked s next l bad_line a h r n = none-some a (sym h ∙ r)

  meets-none : (s : State) (l : Text) (ls : List Text) (why : StopCause) → Meets names m s l why → moments_of names m s (l ∷ ls) ≡ []
  meets-none s l ls (out_of_range z) h = act-none s l ls (sets h.0 z) h.1 (ap (λ b. if b then Some (with_input s h.0 z) else None) h.2)
  meets-none s l ls not_enabled h =
      (elim (first_step m s h.0) as (λ o. first_step m s h.0 ≡ o → moments_of names m s (l ∷ ls) ≡ []) [
        | None ↦ λ e. act-none s l ls (fires h.0) h.1 e
        | Some next ↦ λ e. absurd (h.2 next (first_step-step m s h.0 next e))
      ]) refl
  meets-none s l ls bad_line h = read-none s l ls h

  -- ---- lines that are left

  -- a line that can be followed doesn't stop those behind it
  runs-on : (s next : State) (l : Text) (ls : List Text) (a : Action) → read_line names l ≡ Some a → next_by m s a ≡ Some next
      → NoStop names m next ls → NoStop names m s (l ∷ ls)
  runs-on s next l ls a r h none zero why f = f
  runs-on s next l ls a r h none (suc zero) why f = blocked s next l why a f r h
  runs-on s next l ls a r h none (suc (suc k)) why f =
      let same : f.0 ≡ a = some-same f.0 a (sym f.2 ∙ r) in
      let on : f.1 ≡ next = some-same f.1 next (sym f.3 ∙ ap (next_by m s) same ∙ h) in
      none (suc k) why (subst (λ n. FirstStop names m n ls (suc k) why) on f.4)

  pub at-start : (s : State) (k : ℕ) (ls : List Text) → Followed names m s k ls 0 [] s k ls
  at-start s k ls = record {
    text = refl;
    state = refl;
    counted = omega arith;
    stop = λ j why f. subst (λ i. FirstStop names m s ls (suc i) why) (omega arith) f;
    runs = λ none. none;
  }

  module _ (start : State) (made : ℕ) (all : List Text) where
    pub one-more : (count : ℕ) (done : Text) (s next : State) (k : ℕ) (l : Text) (ls : List Text) (a : Action)
        → read_line names l ≡ Some a → next_by m s a ≡ Some next → Followed names m start made all count done s k (l ∷ ls)
        → Followed names m start made all (count + 1) (done ++ moment_text names k (moment a s next)) next (steps_after k a) ls
    one-more count done s next k l ls a r h so_far = record {
      text =
          so_far.text ∙ ap (λ hs. done ++ moments_text names k hs) (act-some s next l ls a r h)
          ∙ sym (append_assoc done (moment_text names k (moment a s next)) (text_left names m next (steps_after k a) ls));
      state = so_far.state ∙ ap (λ hs. end_of s hs) (act-some s next l ls a r h);
      counted = (let c = so_far.counted in omega (arith, c));
      stop = λ j why f. subst (λ i. FirstStop names m start all (suc i) why) (omega arith) (so_far.stop (suc j) why (a, next, r, h, f));
      runs = λ none. so_far.runs (runs-on s next l ls a r h none);
    }

    -- at a line that meets a cause
    pub record AtStop (count : ℕ) (done : Text) (s : State) (why : StopCause) : Type 0 where
      pub stop : FirstStop names m start all (count + 1) why
      pub text : text_left names m start made all ≡ done
      pub state : state_left names m start all ≡ s

    pub at-stop : (count : ℕ) (done : Text) (s : State) (k : ℕ) (l : Text) (ls : List Text) (why : StopCause)
        → Meets names m s l why → Followed names m start made all count done s k (l ∷ ls) → AtStop count done s why
    at-stop count done s k l ls why h so_far =
        let none = meets-none s l ls why h in
        record {
          stop = subst (λ i. FirstStop names m start all i why) (omega arith) (so_far.stop 0 why h);
          text = so_far.text ∙ ap (λ hs. done ++ moments_text names k hs) none ∙ append-nil done;
          state = so_far.state ∙ ap (λ hs. end_of s hs) none;
        }

    -- behind the last line
    pub record AtEnd (done : Text) (s : State) : Type 0 where
      pub runs : NoStop names m start all
      pub text : text_left names m start made all ≡ done
      pub state : state_left names m start all ≡ s

    pub at-end : (count : ℕ) (done : Text) (s : State) (k : ℕ) → Followed names m start made all count done s k [] → AtEnd done s
    at-end count done s k so_far = record {
      runs = so_far.runs (λ j why f. f);
      text = so_far.text ∙ append-nil done;
      state = so_far.state;
    }
