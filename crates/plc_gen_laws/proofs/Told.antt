-- What is told of each choice: its test, what it sends, its updates and the test of the state invariants that are asked have
-- their kinds, name no algebraic variable, and are no deeper than a table allows.
use Rattle.std.proofs.Common.{◌≡◌, ℕ, ◌≤◌, max, true, List, [], ◌∷◌, map, Some, None, arith}
use Rattle.std.specs.Prelude.{nat_le, option_to_list}
use Rattle.std.specs.List.{AllByRecursion, list_all}
use Rattle.std.proofs.lemmas.Bool.Decides.{nat_tests}
use Rattle.cif_system.specs.System.{Range}
use Rattle.cif_net_expr.specs.Tree.{NetExpr}
use Rattle.cif_base.specs.declared.types.Ty.{Ty}
use Rattle.cif_net_model.specs.Net.{Net}
use Rattle.cif_net_model.specs.Counts.{all_beside, measure}
use Rattle.cif_net_model.specs.Exprs.{updates_exprs}
use Rattle.cif_net_model.specs.Facts.{channel_of, is_net, is_type, updates_stand}
use Rattle.cif_net_model.specs.Kinds.{bool_kind, fits}
use Rattle.cif_net_model.specs.Listing.{NetChoice, all_hold}
use Rattle.cif_net_model.specs.Reads.{names_no_alg}
use Rattle.cif_net_model.specs.Rules.{is_plain, is_plain_expr}
use Rattle.cif_net_model.specs.Shown.{channel_range}
use Rattle.cif_net_model.specs.Table.{IsGuarded, carried_type, choice_exprs, choice_stands, sent_stands}
use Rattle.cif_net_model.proofs.Passing.{and-left, and-right}
use Rattle.cif_net_model.proofs.ValueLaws.{all-parts}
use Rattle.plc_frame.proofs.Choosing.{all-of}
use Rattle.plc_event_model.specs.Keeps.{asked}
use Rattle.plc_event_model.proofs.Whole.{carried-stands, events-stand}
use Rattle.plc_event_model.proofs.Asked.{kept-sound}

-- the expression names no algebraic variable, and is no deeper than a test may be
abbrev pub NamesNone : NetExpr → Type 0
NamesNone e = names_no_alg e ≡ true

abbrev pub IsLow : Net → NetExpr → Type 0
IsLow n e = (measure n e).depth ≤ 103

pub record Told (n : Net) (c : NetChoice) : Type 0 where
  pub test : fits n None bool_kind c.test ≡ true
  pub test_names : NamesNone c.test
  pub test_low : IsLow n c.test
  pub carried : (t : Ty) → carried_type n c ≡ Some t → is_type t ≡ true
  pub sent : sent_stands n (carried_type n c) c.sent ≡ true
  pub sent_names : AllByRecursion NamesNone (option_to_list c.sent)
  pub sent_low : AllByRecursion (IsLow n) (option_to_list c.sent)
  pub writes : updates_stand n (carried_type n c) c.writes ≡ true
  pub writes_names : AllByRecursion NamesNone (updates_exprs c.writes)
  pub writes_low : AllByRecursion (IsLow n) (updates_exprs c.writes)
  pub kept : fits n None bool_kind (all_hold (asked n c)) ≡ true
  pub kept_names : NamesNone (all_hold (asked n c))
  pub kept_low : IsLow n (all_hold (asked n c))

-- ---- expressions

all-named : (n : Net) (r : Range) (es : List NetExpr) → list_all (is_plain_expr n) (map (λ e. record { value = e; received = r }) es) ≡ true → AllByRecursion NamesNone es
all-named n r [] h = tt
all-named n r (e ∷ es) h = (and-left _ _ (and-left _ _ (and-left _ _ h)), all-named n r es (and-right _ _ h))

all-low : (n : Net) (es : List NetExpr) → (all_beside (map (measure n) es)).depth ≤ 103 → AllByRecursion (IsLow n) es
all-low n [] h = tt
all-low n (e ∷ es) h =
    let top : max (measure n e).depth (all_beside (map (measure n) es)).depth ≤ 103 = h in
    (omega (arith, top), all-low n es (omega (arith, top)))

pub told : (n : Net) → is_plain n ≡ true → (c : NetChoice) → choice_stands n c ≡ true → Told n c
told n plain c stands =
    let net : is_net n ≡ true = and-left _ _ (and-left _ _ (and-left _ _ plain)) in
    let names = all-named n (channel_range (channel_of n c.event)) (choice_exprs c) (and-right _ _ (and-left _ _ stands)) in
    let deep : nat_le (all_beside (map (measure n) (choice_exprs c))).depth 103 ≡ true = and-right _ _ stands in
    let low = all-low n (choice_exprs c) (below _ deep) in
    let named = all-parts NamesNone (option_to_list c.sent) (updates_exprs c.writes) names.1 in
    let deep_enough = all-parts (IsLow n) (option_to_list c.sent) (updates_exprs c.writes) low.1 in
    let kept = kept-sound n plain c in
    let few = kept.deep in
    record {
      test = and-left _ _ (and-left _ _ (and-left _ _ (and-left _ _ stands)));
      test_names = names.0;
      test_low = low.0;
      carried = λ t is. carried-stands n.events c.event t (events-stand n net) is;
      sent = and-right _ _ (and-left _ _ (and-left _ _ (and-left _ _ stands)));
      sent_names = named.0;
      sent_low = deep_enough.0;
      writes = and-right _ _ (and-left _ _ (and-left _ _ stands));
      writes_names = named.1;
      writes_low = deep_enough.1;
      kept = kept.kind;
      kept_names = and-left _ _ (and-left _ _ kept.plain);
      kept_low = omega (arith, few);
    }
  where
    below : (d : ℕ) → nat_le d 103 ≡ true → d ≤ 103
    below d h = grind (arith, nat_tests)

pub all-told : (n : Net) (cs : List NetChoice) → is_plain n ≡ true → IsGuarded n cs → AllByRecursion (Told n) cs
all-told n cs plain guarded = all-of (Told n) cs (λ k c at. told n plain c (guarded.stands k c at))
