-- A state that is reached has a place for each automaton and a value for each variable.
use Rattle.std.proofs.Common.{◌≡◌, ℕ, suc, Bool, true, false, List, [], ◌∷◌, length, map, Some, None, refl, sym, subst, ◌∙◌, arith}
use Rattle.std.specs.Prelude.{ℤ, if◌then◌else◌}
use Rattle.std.proofs.lemmas.Slice.Zip.{length-zip}
use Rattle.cif_system.specs.System.{Automaton, Stored, State, System, initial}
use Rattle.cif_system.specs.Step.{Step, assigned, moves, new_place, new_values, numbered}
use Rattle.cif_system.proofs.Lists.{some-same, none-some, map-length}
use Rattle.cif_system.proofs.ChoiceLaws.{agrees-parts, enumerate_from-length, makes_step-agrees}
use Rattle.cif_system.proofs.ScanLaws.{first_step-step}
use Rattle.cif_sim_model.specs.Script.{Action, idle, sets, fires}
use Rattle.cif_sim_model.specs.Runs.{input_fits, next_by, with_input}
use Rattle.cif_sim_run.specs.Left.{IsSized}

new_values-length : (ws : List (ℕ × ℤ)) (v : ℕ) (zs : List ℤ) → length (new_values ws v zs) ≡ length zs
new_values-length ws v [] = refl
new_values-length ws v (z ∷ zs) = omega (arith, new_values-length ws (suc v) zs)

module _ (m : System) where
  pub initial-sized : IsSized m (initial m)
  initial-sized = (map-length (λ (a : Automaton). a.first) m.automata, map-length (λ (v : Stored). v.first) m.variables)

  step-sized : (s next : State) (e : ℕ) → Step m s e next → IsSized m s → IsSized m next
  step-sized s next e step sized =
      let ch = step.choice in
      let one : length ch ≡ length m.automata = (agrees-parts m s e ch (makes_step-agrees m s e ch step.makes)).one_each in
      let all : length (numbered m) ≡ length m.automata = enumerate_from-length 0 m.automata in
      let places : length (map (new_place s) (moves m ch)) ≡ length m.automata = map-length (new_place s) (moves m ch) ∙ omega (arith, length-zip (numbered m) ch, one, all) in
      let values : length (new_values (assigned m s ch) 0 s.vals) ≡ length m.variables = new_values-length (assigned m s ch) 0 s.vals ∙ sized.1 in
      subst (IsSized m) (sym step.is_after) (places, values)

  set-sized : (s next : State) (input : ℕ) (z : ℤ) (b : Bool) → (if b then Some (with_input s input z) else None) ≡ Some next → IsSized m s → IsSized m next
  set-sized s next input z true h sized = subst (IsSized m) (some-same (with_input s input z) next h) sized
  set-sized s next input z false h sized = absurd (none-some next h)

  pub next-sized : (s next : State) (a : Action) → next_by m s a ≡ Some next → IsSized m s → IsSized m next
  next-sized s next idle h sized = subst (IsSized m) (some-same s next h) sized
  next-sized s next (sets input z) h sized = set-sized s next input z (input_fits m input z) h sized
  next-sized s next (fires e) h sized = step-sized s next e (first_step-step m s e next h) sized
