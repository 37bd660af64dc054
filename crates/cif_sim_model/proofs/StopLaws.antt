-- A script stops at one line at most, for one cause.
use Rattle.std.proofs.Common.{◌≡◌, ℕ, zero, suc, ℤ, pos, List, [], ◌∷◌, Some, None, refl, sym, ◌∙◌, ap, subst}
use Rattle.std.specs.Prelude.{if◌then◌else◌}
use Rattle.grammar.specs.Pieces.{Text}
use Rattle.cif_system.specs.System.{State, System, initial}
use Rattle.cif_system.proofs.Lists.{some-same, none-some}
use Rattle.cif_system.proofs.ScanLaws.{first_step-step}
use Rattle.cif_sim_model.specs.Names.{Names}
use Rattle.cif_sim_model.specs.Script.{Action, sets, fires, script_lines, read_line}
use Rattle.cif_sim_model.specs.Runs.{with_input, next_by}
use Rattle.cif_sim_model.specs.Simulation.{StopCause, out_of_range, not_enabled, bad_line, Meets, FirstStop, StopsAt}

abbrev value-set : Action → ℤ
value-set (sets input z) = z
value-set _ = pos 0

sets-fires : {i e : ℕ} {z : ℤ} → sets i z ≡ fires e → ⊥
sets-fires h = cc

module _ (names : Names) (m : System) where
  -- a line that meets a cause can't be followed
  blocked : (s next : State) (l : Text) (why : StopCause) (a : Action) → Meets names m s l why → read_line names l ≡ Some a → next_by m s a ≡ Some next → ⊥
  blocked s next l (out_of_range z) a h r n =
      let same : a ≡ sets h.0 z = some-same a (sets h.0 z) (sym r ∙ h.1) in
      let none : next_by m s (sets h.0 z) ≡ None = ap (λ b. if b then Some (with_input s h.0 z) else None) h.2 in
      none-some next (sym none ∙ ap (next_by m s) (sym same) ∙ n)
  blocked s next l not_enabled a h r n =
      let same : a ≡ fires h.0 = some-same a (fires h.0) (sym r ∙ h.1) in
      h.2 next (first_step-step m s h.0 next (ap (next_by m s) (sym same) ∙ n))
  blocked s next l bad_line a h r n = none-some a (sym h ∙ r)

  one-cause : (s : State) (l : Text) (why other : StopCause) → Meets names m s l why → Meets names m s l other → why ≡ other
  one-cause s l (out_of_range z) (out_of_range y) h g = ap (λ a. out_of_range (value-set a)) (some-same (sets h.0 z) (sets g.0 y) (sym h.1 ∙ g.1))
  one-cause s l (out_of_range z) not_enabled h g = absurd (sets-fires (some-same (sets h.0 z) (fires g.0) (sym h.1 ∙ g.1)))
  one-cause s l (out_of_range z) bad_line h g = absurd (none-some (sets h.0 z) (sym g ∙ h.1))
  one-cause s l not_enabled (out_of_range y) h g = absurd (sets-fires (some-same (sets g.0 y) (fires h.0) (sym g.1 ∙ h.1)))
  one-cause s l not_enabled not_enabled h g = refl
  one-cause s l not_enabled bad_line h g = absurd (none-some (fires h.0) (sym g ∙ h.1))
  one-cause s l bad_line (out_of_range y) h g = absurd (none-some (sets g.0 y) (sym h ∙ g.1))
  one-cause s l bad_line not_enabled h g = absurd (none-some (fires g.0) (sym h ∙ g.1))
  one-cause s l bad_line bad_line h g = refl

  once : (s : State) (ls : List Text) (j k : ℕ) (why other : StopCause) → FirstStop names m s ls j why → FirstStop names m s ls k other → (j ≡ k) × (why ≡ other)
  once s [] j k why other h g = absurd h
  once s (l ∷ ls) zero k why other h g = absurd h
  once s (l ∷ ls) (suc zero) zero why other h g = absurd g
  once s (l ∷ ls) (suc zero) (suc zero) why other h g = (refl, one-cause s l why other h g)
  once s (l ∷ ls) (suc zero) (suc (suc k)) why other h g = absurd (blocked s g.1 l why g.0 h g.2 g.3)
  once s (l ∷ ls) (suc (suc j)) zero why other h g = absurd g
  once s (l ∷ ls) (suc (suc j)) (suc zero) why other h g = absurd (blocked s h.1 l other h.0 g h.2 h.3)
  once s (l ∷ ls) (suc (suc j)) (suc (suc k)) why other h g =
      let same : h.0 ≡ g.0 = some-same h.0 g.0 (sym h.2 ∙ g.2) in
      let next : h.1 ≡ g.1 = some-same h.1 g.1 (sym h.3 ∙ ap (next_by m s) same ∙ g.3) in
      let rest = once g.1 ls (suc j) (suc k) why other (subst (λ n. FirstStop names m n ls (suc j) why) next h.4) g.4 in
      (ap suc rest.0, rest.1)

pub stops-once : (names : Names) (m : System) (script : Text) (j k : ℕ) (why other : StopCause) → StopsAt names m script j why → StopsAt names m script k other → (j ≡ k) × (why ≡ other)
stops-once names m script = once names m (initial m) (script_lines script)
