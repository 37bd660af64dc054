-- Events whose mark is off are passed over.
use Rattle.std.proofs.Common.{◌≡◌, ℕ, ◌-◌, ◌<◌, ◌≤◌, Bool, true, false, ◌&&◌, List, length, find, refl, arith}
use Rattle.std.specs.List.{range_with_len}
use Rattle.cif_system.specs.System.{Class, State}
use Rattle.cif_system.specs.Step.{is_of}
use Rattle.cif_net.specs.declared.guarded.Guarded.{Guarded}
use Rattle.cif_eval.specs.Choices.{system_of}
use Rattle.cif_sim.specs.Marks.{is_on}
use Rattle.cif_sim.specs.Tried.{has_step, has_step_in}
use Rattle.cif_sim.specs.Waking.{AreIdle}
use Rattle.cif_sim.proofs.Events.{find-past}
use Rattle.cif_sim.proofs.Watching.{none-has}

and-none : (a b : Bool) → b ≡ false → (a && b) ≡ false
and-none true b h = h
and-none false b h = refl

module _ (g : Guarded) (s : State) (marks : List Bool) (idle : AreIdle g s marks) (from to n : ℕ) (up : from ≤ to) (within : to ≤ length marks) (count : n ≡ length g.plain.net.events)
    (passed : (k : ℕ) → from ≤ k → k < to → is_on marks k ≡ false) where
  none-passed : (k : ℕ) → from ≤ k → k < to → has_step g s k ≡ false
  none-passed k low high = none-has g s k (idle.none k (omega (arith, high, within, idle.long)) (passed k low high))

  none-passed-in : (c : Class) (k : ℕ) → from ≤ k → k < to → has_step_in g c s k ≡ false
  unfolding has_step_in
  none-passed-in c k low high = and-none (is_of (system_of g) c k) (has_step g s k) (none-passed k low high)

  pub past : find (has_step g s) (range_with_len to (n - to)) ≡ find (has_step g s) (range_with_len from (n - from))
  past = find-past (has_step g s) from to n up (omega (arith, within, idle.long, count)) none-passed

  pub past-in : (c : Class) → find (has_step_in g c s) (range_with_len to (n - to)) ≡ find (has_step_in g c s) (range_with_len from (n - from))
  past-in c = find-past (has_step_in g c s) from to n up (omega (arith, within, idle.long, count)) (none-passed-in c)
