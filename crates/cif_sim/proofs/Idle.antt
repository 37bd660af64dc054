-- An event without a step has none in a state that is the same at what its choices and the state invariants name.
use Rattle.std.proofs.Common.{◌≡◌, ℕ, suc, ◌+◌, ◌<◌, Bool, true, false, length, map, Option, Some, None, find, refl, sym, ap, ◌∙◌}
use Rattle.std.specs.Prelude.{option_map, slice_get}
use Rattle.std.specs.List.{AllByRecursion}
use Rattle.cif_system.specs.System.{IsState, State}
use Rattle.cif_system.specs.Step.{Choice, after, makes_step}
use Rattle.cif_system.specs.Choices.{choices, first_step}
use Rattle.cif_system.proofs.Lists.{find-none, slice_get-below}
use Rattle.cif_system.proofs.Picks.{at-member, map-at}
use Rattle.cif_net_model.specs.Listing.{full_choice}
use Rattle.cif_net.specs.View.{choice_tree, net_tree}
use Rattle.cif_net.specs.declared.guarded.Guarded.{Guarded}
use Rattle.cif_net.specs.declared.listing.Choice as listing
use Rattle.cif_net_laws.proofs.Steps.{guarded-steps}
use Rattle.cif_eval.specs.Choices.{system_of}
use Rattle.cif_eval.proofs.Chosen.{Chosen, chosen-of}
use Rattle.cif_eval.proofs.Reading.{at_mapped}
use Rattle.cif_sim.specs.Starts.{items_below}
use Rattle.cif_sim.proofs.Firsts.{find-no}
use Rattle.cif_sim.proofs.Listed.{all-segments, all_of, rest, rest-is}
use Rattle.cif_sim.proofs.Segments.{at-segment}
use Rattle.cif_sim.specs.Named.{SameAt, choice_names, invariant_names}
use Rattle.cif_sim.proofs.Alike.{makes-alike}

no-step : {A B : Type 0} (f : A → B) (o : Option A) → option_map f o ≡ None → o ≡ None
no-step f None h = refl
no-step f (Some x) h = absurd cc

is-false : (b : Bool) → (b ≡ true → ⊥) → b ≡ false
is-false true h = absurd (h refl)
is-false false h = refl

module _ (g : Guarded) (s t : State) (e : ℕ) (of_s : IsState (system_of g) s) (of_t : IsState (system_of g) t) (inside : e < length g.plain.net.events)
    (names : (k : ℕ) (c : listing.Choice) → slice_get g.choices k ≡ Some c → c.event ≡ e → AllByRecursion (SameAt s t) (choice_names (choice_tree c)))
    (kept : AllByRecursion (SameAt s t) (invariant_names (net_tree g.plain.net))) where
  choice-same : (j : ℕ) (x : Choice) → slice_get (choices (system_of g) e) j ≡ Some x → makes_step (system_of g) s e x ≡ makes_step (system_of g) t e x
  choice-same j x at =
      let k : ℕ = items_below (choices (system_of g)) e + j in
      let here : slice_get (all_of g) k ≡ Some (e, x) =
      ap (λ xs. slice_get xs k) (all-segments g (e + suc (rest g e inside)) (rest-is g e inside))
      ∙ at-segment (choices (system_of g)) e (rest g e inside) j (slice_get-below (choices (system_of g) e) j x at)
      ∙ ap (option_map (λ y. (e, y))) at in
      let a = map-at (full_choice (net_tree g.plain.net)) (map choice_tree g.choices) k (e, x) here in
      let b = map-at choice_tree g.choices k a.0 a.1 in
      let is : (e, x) ≡ full_choice (net_tree g.plain.net) (choice_tree b.0) = a.2 ∙ ap (full_choice (net_tree g.plain.net)) b.2 in
      let stands : slice_get (map choice_tree g.choices) k ≡ Some (choice_tree b.0) = at_mapped choice_tree g.choices k ∙ ap (option_map choice_tree) b.1 in
      let v : Chosen (net_tree g.plain.net) (choice_tree b.0) s = chosen-of (net_tree g.plain.net) (map choice_tree g.choices) g.plain.plain (guarded-steps g) k (choice_tree b.0) stands s of_s in
      let w : Chosen (net_tree g.plain.net) (choice_tree b.0) t = chosen-of (net_tree g.plain.net) (map choice_tree g.choices) g.plain.plain (guarded-steps g) k (choice_tree b.0) stands t of_t in
      ap (λ (p : ℕ × Choice). makes_step (system_of g) s p.0 p.1) is
      ∙ makes-alike (net_tree g.plain.net) (choice_tree b.0) s t v w (names k b.0 b.1 (sym (ap (λ (p : ℕ × Choice). p.0) is))) kept
      ∙ ap (λ (p : ℕ × Choice). makes_step (system_of g) t p.0 p.1) (sym is)

  pub stays-idle : first_step (system_of g) s e ≡ None → first_step (system_of g) t e ≡ None
  stays-idle h =
      let none : find (makes_step (system_of g) s e) (choices (system_of g) e) ≡ None = no-step (after (system_of g) s) (find (makes_step (system_of g) s e) (choices (system_of g) e)) h in
      ap (option_map (after (system_of g) t))
      (find-no (makes_step (system_of g) t e) (choices (system_of g) e)
      (λ j x at. sym (choice-same j x at) ∙ is-false (makes_step (system_of g) s e x) (find-none (makes_step (system_of g) s e) (choices (system_of g) e) x none (at-member (choices (system_of g) e) j x at))))
