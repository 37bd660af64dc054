-- The choices of a plain net, alone and with its exclusions and state invariants, are tables as `IsLinear` and `IsGuarded`
-- say.
use Rattle.std.proofs.Common.{◌≡◌, ℕ, true, ◌&&◌, List, [], ◌++◌, length, map, Some, sym, ◌∙◌, ap, subst}
use Rattle.std.specs.Prelude.{slice_get}
use Rattle.std.specs.List.{range_with_len}
use Rattle.cif_system.specs.Words.{Member}
use Rattle.cif_system.specs.System.{State}
use Rattle.cif_system.specs.Step.{Choice, agrees, assigned, is_permitted, sent}
use Rattle.cif_system.specs.Choices.{choices, event_numbers}
use Rattle.cif_system.proofs.Distinct.{member-flat_map, member-map}
use Rattle.cif_system.proofs.Lists.{some-same}
use Rattle.cif_system.proofs.Picks.{at-member, map-at}
use Rattle.cif_net_expr.specs.Tree.{NetExpr}
use Rattle.cif_net_model.specs.Net.{Net}
use Rattle.cif_net_model.specs.Meaning.{system_of_net, true_in}
use Rattle.cif_net_model.specs.Rules.{is_plain}
use Rattle.cif_net_model.specs.Listing.{NetChoice, choice_test, choice_with, edges_taken, event_test, full_choice, full_choices, guarded_choice, guarded_of, linear_choice, linear_of, listed, moves_of, sent_by, writes_of}
use Rattle.cif_net_model.specs.Table.{IsGuarded, IsLinear, HasUpdatesOfEdges, MovesParties, SendsAndAssigns, agrees_in, choice_stands, permitted_in}
use Rattle.cif_net_model.proofs.ListingLaws.{guarded-each, linear-each}
use Rattle.cif_net_laws.proofs.Picked.{Picked, picked}
use Rattle.cif_net_laws.proofs.Agreeing.{agreement-tested}
use Rattle.cif_net_laws.proofs.Permitting.{all-tested}
use Rattle.cif_net_laws.proofs.Valuing.{assigned-same, sent-same}
use Rattle.cif_net_laws.proofs.Sound.{net-of}
use Rattle.cif_net_laws.proofs.StandingChoices.{guarded-choice-stands, linear-choice-stands}

-- the choice that a row of a table stands for
record Row (n : Net) (f : ℕ × Choice → NetChoice) (c : NetChoice) : Type 0 where
  event : ℕ
  choice : Choice
  is : c ≡ f (event, choice)
  whole : full_choice n (f (event, choice)) ≡ (event, choice)
  made : Picked n event choice

module _ (n : Net) (h : is_plain n ≡ true) where
  listed-picked : (c : ℕ × Choice) → Member c (listed (system_of_net n)) → Picked n c.0 c.1
  listed-picked c m =
      let r = member-flat_map (λ e. map (λ ch. (e, ch)) (choices (system_of_net n) e)) c (event_numbers (system_of_net n)) m in
      let t = member-map (λ ch. (r.0, ch)) c (choices (system_of_net n) r.0) r.2 in
      subst (λ (d : ℕ × Choice). Picked n d.0 d.1) (sym t.2) (picked n r.0 (net-of n h) t.0 t.1)

  row : (f : ℕ × Choice → NetChoice) → full_choices n (map f (listed (system_of_net n))) ≡ listed (system_of_net n) → (k : ℕ) (c : NetChoice) → slice_get (map f (listed (system_of_net n))) k ≡ Some c → Row n f c
  row f each k c g =
      let r = map-at f (listed (system_of_net n)) k c g in
      let t = map-at (full_choice n) (map f (listed (system_of_net n))) k r.0 (ap (λ cs. slice_get cs k) each ∙ r.1) in
      let same : t.0 ≡ f r.0 = some-same t.0 c (sym t.1 ∙ g) ∙ r.2 in
      record {
        event = r.0.0;
        choice = r.0.1;
        is = r.2;
        whole = sym (t.2 ∙ ap (full_choice n) same);
        made = listed-picked r.0 (at-member (listed (system_of_net n)) k r.0 r.1);
      }

  guarded-row : (k : ℕ) (c : NetChoice) → slice_get (guarded_of n) k ≡ Some c → Row n (guarded_choice n) c
  guarded-row k c g = row (guarded_choice n) (guarded-each n) k c g

  linear-row : (k : ℕ) (c : NetChoice) → slice_get (linear_of n) k ≡ Some c → Row n (linear_choice n) c
  linear-row k c g = row (linear_choice n) (linear-each n) k c g

  -- what a row keeps, whatever it tests and asks
  module _ (e : ℕ) (ch : Choice) (tests : List NetExpr) (invariants : List ℕ) (whole : full_choice n (choice_with n e ch tests invariants) ≡ (e, ch)) where
    abbrev built : NetChoice
    built = choice_with n e ch tests invariants

    own : ch ≡ (full_choice n built).1
    own = sym (ap (λ (d : ℕ × Choice). d.1) whole)

    parties-so : MovesParties n built
    parties-so = ap (moves_of n e) own

    written-so : HasUpdatesOfEdges n built
    written-so = (ap (λ d. sent_by (edges_taken n d)) own, ap (λ d. writes_of (edges_taken n d)) own)

    values-so : (s : State) → Picked n e ch → SendsAndAssigns n s built
    values-so s p = (sent-same n s (net-of n h) e ch p ∙ ap (sent (system_of_net n) s) own, assigned-same n s (net-of n h) e ch p ∙ ap (assigned (system_of_net n) s) own)

    agrees-so : (s : State) → agrees (system_of_net n) s e ch ≡ agrees_in n s built
    agrees-so s = ap (agrees (system_of_net n) s e) own

  abbrev guarded_tests : ℕ → Choice → List NetExpr
  guarded_tests e ch = choice_test n e ch ++ event_test n e

  abbrev all_invariants : List ℕ
  all_invariants = range_with_len 0 (length n.invariants)

  pub guarded-stands : IsGuarded n (guarded_of n)
  guarded-stands = record {
    each = guarded-each n;
    parties = λ k c g. let r = guarded-row k c g in subst (MovesParties n) (sym r.is) (parties-so r.event r.choice (guarded_tests r.event r.choice) all_invariants r.whole);
    stands = λ k c g. let r = guarded-row k c g in subst (λ d. choice_stands n d ≡ true) (sym r.is) (guarded-choice-stands n r.event h r.choice r.made);
    tests = λ k c s g.
        let r = guarded-row k c g in
        subst (λ d. true_in n s d.test ≡ (agrees_in n s d && permitted_in n s d)) (sym r.is)
        (all-tested n s r.event r.choice r.made ∙ ap (λ b. b && is_permitted (system_of_net n) r.event s) (agrees-so r.event r.choice (guarded_tests r.event r.choice) all_invariants r.whole s));
    written = λ k c g. let r = guarded-row k c g in subst (HasUpdatesOfEdges n) (sym r.is) (written-so r.event r.choice (guarded_tests r.event r.choice) all_invariants r.whole);
    values = λ k c s g. let r = guarded-row k c g in subst (SendsAndAssigns n s) (sym r.is) (values-so r.event r.choice (guarded_tests r.event r.choice) all_invariants r.whole s r.made);
    all = λ k c g. let r = guarded-row k c g in ap (λ (d : NetChoice). d.invariants) r.is;
  }

  pub linear-stands : IsLinear n (linear_of n)
  linear-stands = record {
    each = linear-each n;
    parties = λ k c g. let r = linear-row k c g in subst (MovesParties n) (sym r.is) (parties-so r.event r.choice (choice_test n r.event r.choice) [] r.whole);
    stands = λ k c g. let r = linear-row k c g in subst (λ d. choice_stands n d ≡ true) (sym r.is) (linear-choice-stands n r.event h r.choice r.made);
    tests = λ k c s g.
        let r = linear-row k c g in
        subst (λ d. true_in n s d.test ≡ agrees_in n s d) (sym r.is)
        (agreement-tested n s r.event r.choice r.made ∙ agrees-so r.event r.choice (choice_test n r.event r.choice) [] r.whole s);
    written = λ k c g. let r = linear-row k c g in subst (HasUpdatesOfEdges n) (sym r.is) (written-so r.event r.choice (choice_test n r.event r.choice) [] r.whole);
    values = λ k c s g. let r = linear-row k c g in subst (SendsAndAssigns n s) (sym r.is) (values-so r.event r.choice (choice_test n r.event r.choice) [] r.whole s r.made);
    none = λ k c g. let r = linear-row k c g in ap (λ (d : NetChoice). d.invariants) r.is;
  }
