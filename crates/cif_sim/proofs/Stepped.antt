-- The first choice of an event that makes a step leads to its first step.
use Rattle.std.proofs.Common.{◌≡◌, ℕ, suc, ◌+◌, ◌<◌, ◌≤◌, List, Option, Some, None, sym, ap, subst, ◌∙◌, arith}
use Rattle.std.specs.Prelude.{IfSome, length, option_map, slice_get, slice_index_or}
use Rattle.std.proofs.lemmas.Option.{get_or_from_slice_get}
use Rattle.cif_system.specs.System.{State}
use Rattle.cif_system.specs.Choices.{first_step}
use Rattle.cif_net.specs.declared.guarded.Guarded.{Guarded}
use Rattle.cif_eval.specs.Choices.{choice_at, system_of}
use Rattle.cif_eval.specs.declared.scratch.Scratch.{Scratch}
use Rattle.cif_sim.specs.Ready.{IsReady}
use Rattle.cif_sim.specs.Starts.{choices_below}
use Rattle.cif_sim.specs.Tried.{IsFirst, Makes, after_at, makes_at}
use Rattle.cif_sim.proofs.Firsts.{first-makes, none-makes}
use Rattle.cif_sim.proofs.Listed.{all-segments, all_of, below-all, event-of, events-count, rest, rest-is}

module _ (g : Guarded) (s : State) (e : ℕ) (inside : e < length g.plain.net.events) where
  pub first-found : (o : Option ℕ) → IsFirst g s (choices_below (system_of g) e) (choices_below (system_of g) (suc e)) o → option_map (after_at g s) o ≡ first_step (system_of g) s e
  unfolding makes_at after_at
  first-found None h = sym (none-makes (system_of g) s e (rest g e inside) (all_of g) (all-segments g (e + suc (rest g e inside)) (rest-is g e inside)) h)
  first-found (Some k) h =
      sym (first-makes (system_of g) s e (rest g e inside) (all_of g) (all-segments g (e + suc (rest g e inside)) (rest-is g e inside)) k h.0 h.1 h.2 h.3)

  pub found-makes : (k : ℕ) → IsFirst g s (choices_below (system_of g) e) (choices_below (system_of g) (suc e)) (Some k) → Makes g s k
  found-makes k h = record { listed = omega (arith, h.1, below-all g (suc e) inside); step = h.2 }

-- by the table of beginnings
module _ (g : Guarded) (events : ℕ) (starts : List ℕ) (scratch : Scratch) (ready : IsReady g events starts scratch) (xs : List ℕ) (are : xs ≡ starts) (e : ℕ) (inside : e < length g.plain.net.events) where
  start-at : (k : ℕ) → k ≤ length g.plain.net.events → slice_index_or xs k 0 ≡ choices_below (system_of g) k
  start-at k h = get_or_from_slice_get xs k (choices_below (system_of g) k) 0 (ap (λ ys. slice_get ys k) are ∙ ready.begun.at k (omega (arith, h, events-count g)))

  begin-at : slice_index_or xs e 0 ≡ choices_below (system_of g) e
  begin-at = start-at e (omega (arith, inside))

  end-at : slice_index_or xs (e + 1) 0 ≡ choices_below (system_of g) (suc e)
  end-at = start-at (e + 1) (omega (arith, inside)) ∙ ap (choices_below (system_of g)) (let q : e + 1 ≡ suc e = omega arith in q)

  pub ends-inside : slice_index_or xs (e + 1) 0 ≤ length g.choices
  ends-inside = omega (arith, end-at, below-all g (suc e) inside)

  module _ (s : State) (o : Option ℕ) (first : IsFirst g s (slice_index_or xs e 0) (slice_index_or xs (e + 1) 0) o) where
    is-first : IsFirst g s (choices_below (system_of g) e) (choices_below (system_of g) (suc e)) o
    is-first = subst (λ k. IsFirst g s k (choices_below (system_of g) (suc e)) o) begin-at (subst (λ k. IsFirst g s (slice_index_or xs e 0) k o) end-at first)

    pub leads-to : option_map (after_at g s) o ≡ first_step (system_of g) s e
    leads-to = first-found g s e inside o is-first

    pub makes-one : IfSome o (Makes g s)
    makes-one = made o is-first
      where
        made : (o : Option ℕ) → IsFirst g s (choices_below (system_of g) e) (choices_below (system_of g) (suc e)) o → IfSome o (Makes g s)
        made None h = tt
        made (Some k) h = found-makes g s e inside k h

    pub of-one-event : IfSome o (λ k. (choice_at g k).0 ≡ e)
    of-one-event = found o is-first
      where
        found : (o : Option ℕ) → IsFirst g s (choices_below (system_of g) e) (choices_below (system_of g) (suc e)) o → IfSome o (λ k. (choice_at g k).0 ≡ e)
        found None h = tt
        found (Some k) h = event-of g e inside k h.0 h.1
