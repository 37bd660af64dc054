-- A run by the first event that has a step, from one step to the next.
use Rattle.std.proofs.Common.{◌≡◌, ◌<◌, ℕ, suc, ◌-◌, ◌≤◌, [], ◌++◌, length, Option, None, Some, sym, ap, subst, ◌∙◌, append_assoc, arith}
use Rattle.std.proofs.lemmas.List.{append-nil}
use Rattle.grammar.specs.Pieces.{Text}
use Rattle.cif_io.specs.Written.{grown}
use Rattle.cif_system.specs.System.{State, System}
use Rattle.cif_system.specs.Scan.{fire}
use Rattle.cif_sim_model.specs.Names.{Names}
use Rattle.cif_sim_model.specs.Texts.{deadlock_line}
use Rattle.cif_sim_model.specs.Script.{fires}
use Rattle.cif_sim_model.specs.Runs.{first_event}
use Rattle.cif_sim_model.specs.Simulation.{moment_text}
use Rattle.cif_sim_run.specs.Halts.{GrewByPart}
use Rattle.cif_sim_run.specs.Left.{FirstRunning, IsSized, Shows, first_left}
use Rattle.cif_sim_run.proofs.FirstLaws.{first-fires, no-event, one-step}
use Rattle.cif_sim_run.proofs.Growing.{grown-nothing, part-behind, whole-behind}
use Rattle.cif_sim_run.proofs.Sizes.{next-sized}
use Rattle.cif_sim_run.proofs.Telling.{told-alike}

module _ (names : Names) (m : System) (start : State) (n : ℕ) (old : Option Text) where
  abbrev whole : Text
  whole = first_left names m start 0 n

  abbrev line_of : (k e : ℕ) → State → State → Text
  line_of k e s next = moment_text names k (record { action = fires e; before = s; after = next })

  -- before the first step
  pub at-first-step : (k : ℕ) (before : State) → k ≡ 0 → Shows before start → IsSized m start → FirstRunning names m start n old old start k before
  at-first-step k before none shown sized = record {
    left = n;
    done = [];
    count = omega (arith, none);
    text = ap (λ i. first_left names m start i n) (sym none);
    written = sym (grown-nothing old);
    shown = shown;
    sized = sized;
  }

  module _ (now : Option Text) (s : State) (k : ℕ) (before : State) (so_far : FirstRunning names m start n old now s k before) (more : k < n) where
    abbrev rest : ℕ
    rest = so_far.left - 1

    one-left : so_far.left ≡ suc rest
    one-left = let c = so_far.count in omega (arith, c)

    text-on : whole ≡ so_far.done ++ first_left names m s k (suc rest)
    text-on = so_far.text ∙ ap (λ j. so_far.done ++ first_left names m s k j) one-left

    text-behind : (e : ℕ) → first_event m s ≡ Some e
        → whole ≡ so_far.done ++ (line_of k e s (fire m s e) ++ first_left names m (fire m s e) (suc k) rest)
    text-behind e h = text-on ∙ ap (λ t. so_far.done ++ t) (one-step m names s k rest e h)

    line-alike : (e : ℕ) → line_of k e before (fire m s e) ≡ line_of k e s (fire m s e)
    line-alike e = told-alike names k (fires e) before s (fire m s e) so_far.shown

    -- the sizes of what is compared
    pub step-sizes : (e : ℕ) (after : State) → first_event m s ≡ Some e → after ≡ fire m s e → (length before.locs ≡ length after.locs) × (length before.vals ≡ length after.vals)
    step-sizes e after h same =
        let old_sized = so_far.sized in
        let new_sized = subst (IsSized m) (sym same) (next-sized m s (fire m s e) (fires e) (first-fires m s e h).leads old_sized) in
        (ap length so_far.shown.0 ∙ old_sized.0 ∙ sym new_sized.0, ap length so_far.shown.1 ∙ old_sized.1 ∙ sym new_sized.1)

    -- a step more was written
    pub next-step : (e : ℕ) (after : State) (k' : ℕ) (now' : Option Text) → first_event m s ≡ Some e → Shows after (fire m s e) → k' ≡ suc k
        → now' ≡ grown now (line_of k e before (fire m s e)) → FirstRunning names m start n old now' (fire m s e) k' after
    next-step e after k' now' h shown steps grew =
        let line = line_of k e s (fire m s e) in
        record {
          left = rest;
          done = so_far.done ++ line;
          count = (let c = so_far.count in omega (arith, c, one-left, steps));
          text =
              text-behind e h ∙ sym (append_assoc so_far.done line (first_left names m (fire m s e) (suc k) rest))
              ∙ ap (λ i. (so_far.done ++ line) ++ first_left names m (fire m s e) i rest) (sym steps);
          written = whole-behind so_far.done line old now now' so_far.written (grew ∙ ap (grown now) (line-alike e));
          shown = shown;
          sized = next-sized m s (fire m s e) (fires e) (first-fires m s e h).leads so_far.sized;
        }

    -- a part of a step was written
    pub part-of-step : (e : ℕ) (new : Option Text) → first_event m s ≡ Some e → GrewByPart (line_of k e before (fire m s e)) now new → GrewByPart whole old new
    part-of-step e new h part =
        part-behind whole so_far.done (line_of k e s (fire m s e)) (first_left names m (fire m s e) (suc k) rest) old now new
        (text-behind e h) so_far.written (subst (λ t. GrewByPart t now new) (line-alike e) part)

    -- no event has a step
    text-dead : first_event m s ≡ None → whole ≡ so_far.done ++ (deadlock_line ++ [])
    text-dead h = text-on ∙ ap (λ t. so_far.done ++ t) (no-event m names s k rest h ∙ sym (append-nil deadlock_line))

    pub dead : (new : Option Text) → first_event m s ≡ None → new ≡ grown now deadlock_line → new ≡ grown old whole
    dead new h grew =
        whole-behind so_far.done deadlock_line old now new so_far.written grew
        ∙ ap (grown old) (ap (λ t. so_far.done ++ t) (sym (append-nil deadlock_line)) ∙ sym (text-dead h))

    pub part-of-dead : (new : Option Text) → first_event m s ≡ None → GrewByPart deadlock_line now new → GrewByPart whole old new
    part-of-dead new h part = part-behind whole so_far.done deadlock_line [] old now new (text-dead h) so_far.written part

  -- all steps were made
  pub all-made : (now : Option Text) (s : State) (k : ℕ) (before : State) → FirstRunning names m start n old now s k before → n ≤ k → now ≡ grown old whole
  all-made now s k before so_far end =
      let none : so_far.left ≡ 0 = (let c = so_far.count in omega (arith, c)) in
      so_far.written ∙ ap (grown old) (sym (so_far.text ∙ ap (λ j. so_far.done ++ first_left names m s k j) none ∙ append-nil so_far.done))
