-- What the calls on a choice compute tells whether it makes a step, and the state after it.
use Rattle.std.proofs.Common.{◌≡◌, ℕ, ℤ, pos, Bool, true, false, ◌&&◌, List, [], map, Option, Some, inl, inr, refl, sym, ap, subst, ◌∙◌}
use Rattle.std.specs.Prelude.{option_map, option_to_list, slice_get, unwrap_or}
use Rattle.std.specs.List.{AllByRecursion, list_all}
use Rattle.std.proofs.lemmas.Option.{get_or_from_slice_get}
use Rattle.cif_system.specs.System as system
use Rattle.cif_system.specs.System.{IsState}
use Rattle.cif_system.specs.Step as step
use Rattle.cif_system.specs.Step.{after, agrees, assigned_fits, fits_channel, fits_variable, is_permitted, makes_step, meets_invariants, sent_fits}
use Rattle.cif_net_expr.specs.View.{view, view_updates}
use Rattle.cif_net_model.specs.Net.{Net}
use Rattle.cif_net_model.specs.Listing.{NetChoice, full_choice}
use Rattle.cif_net_model.specs.Meaning.{event_in, stored_in, system_of_net}
use Rattle.cif_net_model.specs.Value.{is_true}
use Rattle.cif_net.specs.View.{choice_tree, event_tree, net_tree, state_tree, var_tree}
use Rattle.cif_net.specs.declared.guarded.Guarded.{Guarded}
use Rattle.cif_net.specs.declared.listing.Choice.{Choice}
use Rattle.cif_net.specs.declared.state.State.{State}
use Rattle.cif_net_laws.proofs.Steps.{guarded-steps}
use Rattle.cif_net_model.specs.Safe.{IsSafe, value_at}
use Rattle.cif_eval.specs.Choices.{choice_at, system_of}
use Rattle.cif_eval.specs.Updates.{AreSafeInvariants, AreSafeUpdates, invariants_hold}
use Rattle.cif_eval.specs.Within.{within}
use Rattle.cif_eval.specs.Writes.{IsWorked, assigned_all, worked, written}
use Rattle.cif_eval.proofs.Chosen as law
use Rattle.cif_eval.proofs.Chosen.{Chosen, chosen-of}
use Rattle.cif_eval.proofs.Moves.{written-state}
use Rattle.cif_eval.proofs.Reading.{at_both, at_mapped}
use Rattle.cif_eval.proofs.Worked.{copied-is_state, invariants-safe, invariants-same}

-- ---- tests in their order

test-first : (a s w p m : Bool) → (a && p) ≡ false → false ≡ (a && s && w && p && m)
test-first false s w p m h = refl
test-first true false w p m h = refl
test-first true true false p m h = refl
test-first true true true false m h = refl
test-first true true true true m h = absurd cc

sent-second : (a s w p m : Bool) → s ≡ false → false ≡ (a && s && w && p && m)
sent-second false s w p m h = refl
sent-second true false w p m h = refl
sent-second true true w p m h = absurd cc

pairs-third : (a s w p m : Bool) → w ≡ false → false ≡ (a && s && w && p && m)
pairs-third false s w p m h = refl
pairs-third true false w p m h = refl
pairs-third true true false p m h = refl
pairs-third true true true p m h = absurd cc

invariants-last : (a s w p m : Bool) → (a && p) ≡ true → s ≡ true → w ≡ true → m ≡ (a && s && w && p && m)
invariants-last true true true true m h g k = refl
invariants-last false s w p m h g k = absurd cc
invariants-last true false w p m h g k = absurd cc
invariants-last true true false p m h g k = absurd cc
invariants-last true true true false m h g k = absurd cc

all-made : (a s w p m : Bool) → (a && s && w && p && m) ≡ true → ((a && p) ≡ true) × (s ≡ true)
all-made true true true true true h = (refl, refl)
all-made false s w p m h = absurd cc
all-made true false w p m h = absurd cc
all-made true true false p m h = absurd cc
all-made true true true false m h = absurd cc
all-made true true true true false h = absurd cc

-- ---- a choice

module _ (g : Guarded) (k : ℕ) (c : Choice) (at : slice_get g.choices k ≡ Some c) (s : State) (state : IsState (system_of g) (state_tree s)) where
  abbrev n : Net
  n = net_tree g.plain.net

  abbrev ch : NetChoice
  ch = choice_tree c

  abbrev t : system.State
  t = state_tree s

  stands : Chosen (net_tree g.plain.net) (choice_tree c) (state_tree s)
  stands = chosen-of n (map choice_tree g.choices) g.plain.plain (guarded-steps g) k ch (at_mapped choice_tree g.choices k ∙ ap (option_map choice_tree) at) t state

  choice-is : choice_at g k ≡ full_choice (net_tree g.plain.net) (choice_tree c)
  choice-is = get_or_from_slice_get (map (full_choice n) (map choice_tree g.choices)) k (full_choice n ch) (0, []) (at_both (full_choice n) choice_tree g.choices k ∙ ap (option_map (λ x. full_choice n (choice_tree x))) at)

  abbrev makes : ℕ × step.Choice → Bool
  makes p = makes_step (system_of_net n) t p.0 p.1

  abbrev here : ℕ × step.Choice
  here = full_choice n ch

  abbrev agreed : Bool
  agreed = agrees (system_of_net n) t here.0 here.1

  abbrev permitted : Bool
  permitted = is_permitted (system_of_net n) here.0 t

  abbrev sent_in : Bool
  sent_in = sent_fits (system_of_net n) t here.0 here.1

  abbrev written_in : Bool
  written_in = assigned_fits (system_of_net n) t here.1

  abbrev kept : Bool
  kept = meets_invariants (system_of_net n) (after (system_of_net n) t here.1)

  -- the test
  pub test-ok : IsSafe (within (state_tree s) (pos 0)) (view c.test)
  test-ok = law.test-safe n ch t stands

  pub test-fails : (b : Bool) → b ≡ is_true (value_at (within (state_tree s) (pos 0)) (view c.test)) → b ≡ false → false ≡ makes_step (system_of g) (state_tree s) (choice_at g k).0 (choice_at g k).1
  test-fails b is fails = test-first agreed sent_in written_in permitted kept (sym (law.test-is n ch t stands) ∙ sym is ∙ fails) ∙ ap makes (sym choice-is)

  -- the sent value
  pub sent-ok : AllByRecursion (IsSafe (within (state_tree s) (pos 0))) (option_to_list (option_map view c.sent))
  sent-ok = law.sent-safe n ch t stands

  module _ (b : Bool) (b_is : b ≡ is_true (value_at (within (state_tree s) (pos 0)) (view c.test))) (b_holds : b ≡ true)
      (o : Option ℤ) (o_is : o ≡ option_map (value_at (within (state_tree s) (pos 0))) (option_map view c.sent))
      (d : Bool) (d_is : d ≡ list_all (fits_channel (slice_get (map event_in (map event_tree g.plain.net.events)) c.event)) (option_to_list o)) where
    sent-are : d ≡ sent_fits (system_of_net (net_tree g.plain.net)) (state_tree s) c.event (full_choice (net_tree g.plain.net) (choice_tree c)).1
    sent-are = d_is ∙ ap (λ v. list_all (fits_channel (slice_get (map event_in (map event_tree g.plain.net.events)) c.event)) (option_to_list v)) o_is ∙ law.sent-fits n ch t stands

    pub sent-fails : d ≡ false → false ≡ makes_step (system_of g) (state_tree s) (choice_at g k).0 (choice_at g k).1
    sent-fails fails = sent-second agreed sent_in written_in permitted kept (sym sent-are ∙ fails) ∙ ap makes (sym choice-is)

    module _ (d_holds : d ≡ true) where
      -- the updates
      pub updates-ok : AreSafeUpdates (within (state_tree s) (unwrap_or o (pos 0))) (view_updates c.writes)
      updates-ok =
          subst (λ v. AreSafeUpdates (within t (unwrap_or v (pos 0))) (view_updates c.writes)) (sym o_is)
          (law.updates-safe n ch t stands (sym b_is ∙ b_holds) (ap (λ v. list_all (fits_channel (slice_get (map event_in (map event_tree g.plain.net.events)) c.event)) (option_to_list v)) (sym o_is) ∙ sym d_is ∙ d_holds))

      module _ (ws : List (ℕ × ℤ)) (ws_are : ws ≡ assigned_all (state_tree s) (unwrap_or o (pos 0)) (view_updates c.writes))
          (e : Bool) (e_is : e ≡ list_all (λ (w : ℕ × ℤ). fits_variable (slice_get (map stored_in (map var_tree g.plain.net.vars)) w.0) w.1) ws) where
        pairs-are : ws ≡ step.assigned (system_of_net (net_tree g.plain.net)) (state_tree s) (full_choice (net_tree g.plain.net) (choice_tree c)).1
        pairs-are = ws_are ∙ ap (λ v. assigned_all t (unwrap_or v (pos 0)) (view_updates c.writes)) o_is ∙ law.assigned-are n ch t stands

        written-are : e ≡ assigned_fits (system_of_net (net_tree g.plain.net)) (state_tree s) (full_choice (net_tree g.plain.net) (choice_tree c)).1
        written-are = e_is ∙ ap (list_all (λ (w : ℕ × ℤ). fits_variable (slice_get (map stored_in (map var_tree g.plain.net.vars)) w.0) w.1)) pairs-are

        pub pairs-fail : e ≡ false → false ≡ makes_step (system_of g) (state_tree s) (choice_at g k).0 (choice_at g k).1
        pairs-fail fails = pairs-third agreed sent_in written_in permitted kept (sym written-are ∙ fails) ∙ ap makes (sym choice-is)

        module _ (e_holds : e ≡ true) (next : State) (of_next : IsState (system_of g) (state_tree next)) where
          pub worked-state : IsState (system_of g) (worked (net_tree g.plain.net) (choice_tree c) ws (state_tree s) (state_tree next))
          worked-state = written-state n (law.net n ch t stands) ch.moves ws _ (sym e_is ∙ e_holds) (copied-is_state n g.plain.plain ch.invariants t (state_tree next) state of_next)

          -- the state invariants
          pub invariants-ok : AreSafeInvariants (within (worked (net_tree g.plain.net) (choice_tree c) ws (state_tree s) (state_tree next)) (pos 0)) (net_tree g.plain.net).invariants c.invariants
          invariants-ok = invariants-safe n g.plain.plain ch.invariants _ worked-state

          pub next-state : (u : State) → IsWorked (net_tree g.plain.net) (choice_tree c) ws (state_tree s) (state_tree next) (state_tree u) → IsState (system_of g) (state_tree u)
          next-state u (inl is) = subst (IsState (system_of g)) (sym is) worked-state
          next-state u (inr is) = subst (IsState (system_of g)) (sym is) of_next

          pub all-tested : (r : Bool) → r ≡ invariants_hold (within (worked (net_tree g.plain.net) (choice_tree c) ws (state_tree s) (state_tree next)) (pos 0)) (net_tree g.plain.net).invariants c.invariants
              → r ≡ makes_step (system_of g) (state_tree s) (choice_at g k).0 (choice_at g k).1
          all-tested r is =
              is
              ∙ invariants-same n g.plain.plain ch.invariants stands.all ch.moves ws t (state_tree next) state of_next
              ∙ ap (λ v. meets_invariants (system_of_net n) (written n.autos ch.moves v t)) ws_are
              ∙ ap (λ v. meets_invariants (system_of_net n) (written n.autos ch.moves (assigned_all t (unwrap_or v (pos 0)) (view_updates c.writes)) t)) o_is
              ∙ ap (meets_invariants (system_of_net n)) (law.after-written n ch t stands)
              ∙ invariants-last agreed sent_in written_in permitted kept (sym (law.test-is n ch t stands) ∙ sym b_is ∙ b_holds) (sym sent-are ∙ d_holds) (sym written-are ∙ e_holds)
              ∙ ap makes (sym choice-is)

  -- ---- where it makes a step

  module _ (makes_one : makes_step (system_of g) (state_tree s) (choice_at g k).0 (choice_at g k).1 ≡ true) where
    made : makes_step (system_of_net (net_tree g.plain.net)) (state_tree s) (full_choice (net_tree g.plain.net) (choice_tree c)).0 (full_choice (net_tree g.plain.net) (choice_tree c)).1 ≡ true
    made = sym (ap makes choice-is) ∙ makes_one

    module _ (o : Option ℤ) (o_is : o ≡ option_map (value_at (within (state_tree s) (pos 0))) (option_map view c.sent)) where
      pub made-updates-ok : AreSafeUpdates (within (state_tree s) (unwrap_or o (pos 0))) (view_updates c.writes)
      made-updates-ok =
          let q = all-made agreed sent_in written_in permitted kept made in
          updates-ok (is_true (value_at (within t (pos 0)) (view c.test))) refl (law.test-is n ch t stands ∙ q.0) o o_is
          (list_all (fits_channel (slice_get (map event_in (map event_tree g.plain.net.events)) c.event)) (option_to_list o)) refl
          (ap (λ v. list_all (fits_channel (slice_get (map event_in (map event_tree g.plain.net.events)) c.event)) (option_to_list v)) o_is ∙ law.sent-fits n ch t stands ∙ q.1)

      pub after-made : (ws : List (ℕ × ℤ)) → ws ≡ assigned_all (state_tree s) (unwrap_or o (pos 0)) (view_updates c.writes) → (u : system.State)
          → u ≡ written (net_tree g.plain.net).autos (choice_tree c).moves ws (state_tree s) → u ≡ after (system_of g) (state_tree s) (choice_at g k).1
      after-made ws ws_are u is =
          is
          ∙ ap (λ v. written n.autos ch.moves v t) ws_are
          ∙ ap (λ v. written n.autos ch.moves (assigned_all t (unwrap_or v (pos 0)) (view_updates c.writes)) t) o_is
          ∙ law.after-written n ch t stands
          ∙ ap (λ (p : ℕ × step.Choice). after (system_of_net n) t p.1) (sym choice-is)

    pub state-made : (u : system.State) → u ≡ after (system_of g) (state_tree s) (choice_at g k).1 → IsState (system_of g) u
    state-made u is = subst (IsState (system_of g)) (sym (is ∙ ap (λ (p : ℕ × step.Choice). after (system_of_net n) t p.1) choice-is)) (law.after-state n ch t stands made)
