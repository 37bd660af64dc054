-- The tests of the exclusions of an event hold where they permit it.
use Rattle.std.proofs.Common.{◌≡◌, ℕ, Bool, true, false, not, ◌&&◌, ◌||◌, List, [], ◌∷◌, ◌++◌, map, filter, refl, sym, ◌∙◌}
use Rattle.std.specs.Prelude.{nat_eq, if◌then◌else◌}
use Rattle.std.specs.List.{list_all}
use Rattle.std.proofs.lemmas.List.Folds.{list_all-append}
use Rattle.cif_system.specs.System.{Exclusion, State}
use Rattle.cif_system.specs.Step.{Choice, agrees, is_permitted}
use Rattle.cif_net_model.specs.Net.{NetExclusion, Net}
use Rattle.cif_net_model.specs.Value.{is_true, of_bool}
use Rattle.cif_net_model.specs.Meaning.{exclusion_in, true_in, system_of_net}
use Rattle.cif_net_model.specs.Listing.{all_hold, choice_test, event_test, exclusion_test, fails}
use Rattle.cif_net_model.proofs.TestLaws.{all-exprs}
use Rattle.cif_net_model.proofs.ValueLaws.{ap-two}
use Rattle.cif_net_laws.proofs.Picked.{Picked}
use Rattle.cif_net_laws.proofs.Agreeing.{agreement-tested}

module _ (n : Net) (s : State) (e : ℕ) where
  exclusion-tested : (x : NetExclusion) → true_in n s (exclusion_test x) ≡ (if x.allows then true_in n s x.pred else not (true_in n s x.pred))
  exclusion-tested x = by x.allows
    where
      denied : (b : Bool) → is_true (of_bool (not b)) ≡ not b
      denied true = refl
      denied false = refl

      by : (b : Bool) → true_in n s (if b then x.pred else fails x.pred) ≡ (if b then true_in n s x.pred else not (true_in n s x.pred))
      by true = refl
      by false = denied (true_in n s x.pred)

  exclusions-tested : (xs : List NetExclusion) → list_all (true_in n s) (map exclusion_test (filter (λ (x : NetExclusion). nat_eq x.event e) xs))
      ≡ list_all (λ (x : Exclusion). not (nat_eq x.event e) || x.permits s) (map (exclusion_in n) xs)
  exclusions-tested [] = refl
  exclusions-tested (x ∷ xs) = by (nat_eq x.event e) (exclusions-tested xs)
    where
      by : (b : Bool) → list_all (true_in n s) (map exclusion_test (filter (λ (y : NetExclusion). nat_eq y.event e) xs)) ≡ list_all (λ (y : Exclusion). not (nat_eq y.event e) || y.permits s) (map (exclusion_in n) xs)
          → list_all (true_in n s) (map exclusion_test (if b then x ∷ filter (λ (y : NetExclusion). nat_eq y.event e) xs else filter (λ (y : NetExclusion). nat_eq y.event e) xs))
          ≡ ((not b || (if x.allows then true_in n s x.pred else not (true_in n s x.pred))) && list_all (λ (y : Exclusion). not (nat_eq y.event e) || y.permits s) (map (exclusion_in n) xs))
      by true h = ap-two (λ b c. b && c) (exclusion-tested x) h
      by false h = h

  -- with the exclusions the test holds where the choice agrees and they permit the event
  pub all-tested : (ch : Choice) → Picked n e ch → true_in n s (all_hold (choice_test n e ch ++ event_test n e)) ≡ (agrees (system_of_net n) s e ch && is_permitted (system_of_net n) e s)
  all-tested ch p =
      all-exprs n s (choice_test n e ch ++ event_test n e)
      ∙ list_all-append (true_in n s) (choice_test n e ch) (event_test n e)
      ∙ ap-two (λ b c. b && c) (sym (all-exprs n s (choice_test n e ch)) ∙ agreement-tested n s e ch p) (exclusions-tested n.exclusions)
