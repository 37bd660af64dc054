-- A run by the lines of a script, from one line to the next.
use Rattle.std.proofs.Common.{◌≡◌, ℕ, ◌+◌, ◌≤◌, List, [], ◌∷◌, ◌++◌, length, Bool, true, false, ℤ, Option, None, Some, refl, sym, ap, subst, ◌∙◌, append_assoc, arith}
use Rattle.std.specs.Prelude.{if◌then◌else◌}
use Rattle.grammar.specs.Pieces.{Text}
use Rattle.cif_io.specs.Written.{grown}
use Rattle.cif_system.specs.System.{State, System, initial}
use Rattle.cif_sim_model.specs.Names.{Names}
use Rattle.cif_sim_model.specs.Script.{Action, idle, sets, fires, read_line, script_lines}
use Rattle.cif_sim_model.specs.Runs.{input_fits, next_by, with_input}
use Rattle.cif_sim_model.specs.Simulation.{StopCause, Meets, FirstStop, Runs, StopsAt, moment_text, moments_text, script_moments, state_reached, steps_after}
use Rattle.cif_system.proofs.Lists.{map-length, some-same, none-some}
use Rattle.std.specs.Prelude.{◌==◌}
use Rattle.std.specs.List.{slice_split}
use Rattle.std.specs.Str.Lines.{strip_carriage_return}
use Rattle.std.proofs.lemmas.List.Splits.{length-slice_split}
use Rattle.std.proofs.lemmas.List.Sums.{count_by-le-length}
use Rattle.cif_sim_run.specs.Halts.{GrewByPart}
use Rattle.cif_sim_run.specs.Left.{Followed, IsSized, IsUpToDate, NoStop, Running, Shows, state_left, text_left}
use Rattle.cif_sim_run.proofs.Growing.{grown-nothing, part-behind, whole-behind}
use Rattle.cif_sim_run.proofs.LineLaws.{at-end, at-start, at-stop, one-more}
use Rattle.cif_sim_run.proofs.Sizes.{next-sized}
use Rattle.cif_sim_run.proofs.Telling.{told-alike}

-- ---- what is shown after an action

set-shown : (m : System) (s next : State) (input : ℕ) (z : ℤ) (b : Bool) → (if b then Some (with_input s input z) else None) ≡ Some next → Shows s next
set-shown m s next input z true h = subst (Shows s) (some-same (with_input s input z) next h) (refl, refl)
set-shown m s next input z false h = absurd (none-some next h)

pub shown-next : (m : System) (s next before after : State) (a : Action) → next_by m s a ≡ Some next → Shows before s → IsUpToDate a before after next → Shows after next
shown-next m s next before after idle h shown kept =
    subst (Shows after) (some-same s next h) (subst (λ b. Shows b s) (sym kept) shown)
shown-next m s next before after (sets input z) h shown kept =
    let same = set-shown m s next input z (input_fits m input z) h in
    subst (λ b. Shows b next) (sym kept) (shown.0 ∙ same.0, shown.1 ∙ same.1)
shown-next m s next before after (fires e) h shown new = new

module _ (names : Names) (m : System) (start : State) (all : List Text) (old : Option Text) where
  abbrev Run : (number : ℕ) (now : Option Text) (s : State) (k : ℕ) (before : State) (ls : List Text) → Type 0
  Run number now s k before ls = Running names m start all number old now s k before ls

  abbrev line_of : (k : ℕ) → Action → State → State → Text
  line_of k a s next = moment_text names k (record { action = a; before = s; after = next })

  -- before the first line
  pub at-first : (k : ℕ) (before : State) (ls : List Text) → k ≡ 0 → ls ≡ all → Shows before start → IsSized m start → Run 0 old start k before ls
  at-first k before ls none same shown sized = record {
    done = [];
    followed = subst (λ i. Followed names m start 0 all 0 [] start i ls) (sym none) (subst (λ xs. Followed names m start 0 all 0 [] start 0 xs) (sym same) (at-start names m start 0 all));
    written = sym (grown-nothing old);
    shown = shown;
    sized = sized;
    steps = omega (arith, none);
  }

  module _ (number : ℕ) (now : Option Text) (s : State) (k : ℕ) (before : State) (l : Text) (ls : List Text) (so_far : Run number now s k before (l ∷ ls)) where
    -- the line with this number was written
    pub next-line : (a : Action) (next after : State) (k' : ℕ) (now' : Option Text) → read_line names l ≡ Some a → next_by m s a ≡ Some next
        → IsUpToDate a before after next → k' ≡ steps_after k a → now' ≡ grown now (line_of k a before next)
        → Run (number + 1) now' next k' after ls
    next-line a next after k' now' r h kept steps grew =
        let line : line_of k a before next ≡ line_of k a s next = told-alike names k a before s next so_far.shown in
        record {
          done = so_far.done ++ line_of k a s next;
          followed = subst (λ i. Followed names m start 0 all (number + 1) (so_far.done ++ line_of k a s next) next i ls) (sym steps) (one-more names m start 0 all number so_far.done s next k l ls a r h so_far.followed);
          written = whole-behind so_far.done (line_of k a s next) old now now' so_far.written (grew ∙ ap (grown now) line);
          shown = shown-next m s next before after a h so_far.shown kept;
          sized = next-sized m s next a h so_far.sized;
          steps = few a steps;
        }
      where
        few : (a : Action) → k' ≡ steps_after k a → k' ≤ number + 1
        few idle h = let w = so_far.steps in omega (arith, w, h)
        few (sets input z) h = let w = so_far.steps in omega (arith, w, h)
        few (fires e) h = let w = so_far.steps in omega (arith, w, h)

    -- the sizes of what is compared
    pub sizes : (a : Action) (next after : State) → next_by m s a ≡ Some next → after ≡ next → (length before.locs ≡ length after.locs) × (length before.vals ≡ length after.vals)
    sizes a next after h same =
        let old_sized = so_far.sized in
        let new_sized = subst (IsSized m) (sym same) (next-sized m s next a h old_sized) in
        (ap length so_far.shown.0 ∙ old_sized.0 ∙ sym new_sized.0, ap length so_far.shown.1 ∙ old_sized.1 ∙ sym new_sized.1)

    -- a part of it was written
    pub part-of-line : (a : Action) (next : State) (new : Option Text) → read_line names l ≡ Some a → next_by m s a ≡ Some next
        → GrewByPart (line_of k a before next) now new → GrewByPart (text_left names m start 0 all) old new
    part-of-line a next new r h part =
        let line : line_of k a before next ≡ line_of k a s next = told-alike names k a before s next so_far.shown in
        let more = one-more names m start 0 all number so_far.done s next k l ls a r h so_far.followed in
        part-behind (text_left names m start 0 all) so_far.done (line_of k a s next) (text_left names m next (steps_after k a) ls) old now new
        (more.text ∙ append_assoc so_far.done (line_of k a s next) (text_left names m next (steps_after k a) ls)) so_far.written
        (subst (λ t. GrewByPart t now new) line part)

    -- the line can't be followed
    pub stopped : (why : StopCause) → Meets names m s l why → FirstStop names m start all (number + 1) why × (now ≡ grown old (text_left names m start 0 all))
    stopped why h =
        let at = at-stop names m start 0 all number so_far.done s k l ls why h so_far.followed in
        (at.stop, so_far.written ∙ ap (grown old) (sym at.text))

  pub all-run : (number : ℕ) (now : Option Text) (s : State) (k : ℕ) (before : State) → Run number now s k before []
      → NoStop names m start all × (now ≡ grown old (text_left names m start 0 all))
  all-run number now s k before so_far =
      let at = at-end names m start 0 all number so_far.done s k so_far.followed in
      (at.runs, so_far.written ∙ ap (grown old) (sym at.text))

-- ---- the lines of a script

-- no more than its bytes, and one more
pub few-lines : (t : Text) → length (script_lines t) ≤ length t + 1
few-lines t =
    let parts = slice_split (λ b. b == 10) t in
    let same : length (script_lines t) ≡ length parts = map-length strip_carriage_return parts in
    omega (arith, same, length-slice_split (λ b. b == 10) t, count_by-le-length (λ b. b == 10) t)

-- ---- the whole of a run

module _ (names names' : Names) (m m' : System) (s : State) (t : Text) (en : names' ≡ names) (em : m' ≡ m) (es : s ≡ initial m) where
  pub whole-stops : (j : ℕ) (why : StopCause) → FirstStop names' m' s (script_lines t) j why → StopsAt names m t j why
  whole-stops j why h =
      subst (λ x. FirstStop names m x (script_lines t) j why) es (subst (λ y. FirstStop names y s (script_lines t) j why) em (subst (λ n. FirstStop n m' s (script_lines t) j why) en h))

  pub whole-runs : NoStop names' m' s (script_lines t) → Runs names m t
  whole-runs h = subst (λ x. NoStop names m x (script_lines t)) es (subst (λ y. NoStop names y s (script_lines t)) em (subst (λ n. NoStop n m' s (script_lines t)) en h))

  pub whole-text : text_left names' m' s 0 (script_lines t) ≡ moments_text names 0 (script_moments names m t)
  whole-text =
      ap (λ n. text_left n m' s 0 (script_lines t)) en ∙ ap (λ y. text_left names y s 0 (script_lines t)) em ∙ ap (λ x. text_left names m x 0 (script_lines t)) es

  pub whole-state : state_left names' m' s (script_lines t) ≡ state_reached names m t
  whole-state =
      ap (λ n. state_left n m' s (script_lines t)) en ∙ ap (λ y. state_left names y s (script_lines t)) em ∙ ap (λ x. state_left names m x (script_lines t)) es
