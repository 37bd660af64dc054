-- A choice of a guarded net in one of its states: its expressions are safe in the order in which they are evaluated, and their
-- values tell whether it makes a step.
use Rattle.std.proofs.Common.{◌≡◌, ℕ, zero, suc, ℤ, pos, Bool, true, false, ◌&&◌, ◌||◌, List, [], ◌∷◌, ◌++◌, length, map, Option, Some, None, refl, sym, ap, subst, ◌∙◌, if◌then◌else◌}
use Rattle.std.specs.Prelude.{IsTrue, is_some, option_map, option_to_list, slice_get, unwrap_or}
use Rattle.std.specs.List.{AllByRecursion, list_all, list_any, range_with_len}
use Rattle.cif_base.specs.declared.types.Ty.{Ty}
use Rattle.cif_system.specs.System.{Class, IsState, Range, State, in_range}
use Rattle.cif_system.specs.Step.{agrees, after, assigned, fits_channel, is_permitted, makes_step, sent_fits}
use Rattle.cif_system.proofs.Lists.{none-some, some-same}
use Rattle.cif_system.proofs.StateLaws.{step-state}
use Rattle.cif_net_expr.specs.Tree.{NetExpr, NetUpdate, net_set, net_choose, NetUpdates, no_net_updates, net_updates, NetUpdateBranches, no_net_update_branches, net_update_branches}
use Rattle.cif_net_model.specs.Net.{NetChan, no_net_chan, void_net_chan, net_chan_of, NetEvent, Net}
use Rattle.cif_net_model.specs.Exprs.{updates_exprs, update_exprs, branches_exprs}
use Rattle.cif_net_model.specs.Facts.{assigns_kind, branches_stand, channel_of, is_net, update_stands, updates_stand, var_kind}
use Rattle.cif_net_model.specs.Interval.{truths}
use Rattle.cif_net_model.specs.Kinds.{Kind, bool_kind, fits, has_type, kinds_in}
use Rattle.cif_net_model.specs.Listing.{NetChoice, full_choice}
use Rattle.cif_net_model.specs.Meaning.{alg_values, channel_in, event_in, net_assigned_all, net_assigned_by, net_assigned_in, system_of_net, true_in, type_range, value_in}
use Rattle.cif_net_model.specs.Reads.{names_no_alg}
use Rattle.cif_net_model.specs.Rules.{is_plain, is_plain_expr}
use Rattle.cif_net_model.specs.Shown.{channel_range, channel_type}
use Rattle.cif_net_model.specs.Table.{HasUpdatesOfEdges, IsGuarded, MovesParties, SendsAndAssigns, agrees_in, carried_type, choice_stands, permitted_in, sent_stands}
use Rattle.cif_net_model.specs.Unfolding.{at_or}
use Rattle.cif_net_model.specs.Value.{is_true}
use Rattle.cif_net_model.proofs.Passing.{and-left, and-right}
use Rattle.cif_net_model.proofs.PartLaws.{all-append}
use Rattle.cif_net_model.proofs.PlainLaws.{never}
use Rattle.cif_net_model.proofs.ValueLaws.{all-parts, ap-two, value-alone}
use Rattle.cif_net_laws.proofs.RangingChoices.{plain-any}
use Rattle.cif_net_model.specs.Safe.{IsSafe, Setting, value_at}
use Rattle.cif_net_model.proofs.Plain.{net-safe}
use Rattle.cif_eval.specs.Updates.{AreSafeChoices, AreSafeUpdates, IsSafeUpdate}
use Rattle.cif_eval.specs.Within.{within}
use Rattle.cif_eval.specs.Writes.{assigned_all, nothing, written}
use Rattle.cif_eval.proofs.Carried.{sends-carried}
use Rattle.cif_eval.proofs.Facts.{ends-inside, map-passes, net-of-plain}
use Rattle.cif_eval.proofs.Moves.{after-is}

-- what is known of a choice in a state of its net
pub record Chosen (n : Net) (c : NetChoice) (s : State) : Type 0 where
  pub plain : is_plain n ≡ true
  pub state : IsState (system_of_net n) s
  pub parties : MovesParties n c
  pub stands : choice_stands n c ≡ true
  pub tests : true_in n s c.test ≡ (agrees_in n s c && permitted_in n s c)
  pub written : HasUpdatesOfEdges n c
  pub values : SendsAndAssigns n s c
  pub all : c.invariants ≡ range_with_len 0 (length n.invariants)

pub chosen-of : (n : Net) (cs : List NetChoice) → is_plain n ≡ true → IsGuarded n cs → (k : ℕ) (c : NetChoice) → slice_get cs k ≡ Some c → (s : State) → IsState (system_of_net n) s → Chosen n c s
chosen-of n cs plain g k c at s state = record {
  plain = plain;
  state = state;
  parties = g.parties k c at;
  stands = g.stands k c at;
  tests = g.tests k c s at;
  written = g.written k c at;
  values = g.values k c s at;
  all = g.all k c at;
}

-- ---- values without algebraic variables

value-same : (n : Net) (s : State) (r : ℤ) (e : NetExpr) → names_no_alg e ≡ true → value_at (within s r) e ≡ value_in n s r e
value-same n s r e h = value-alone (λ k. pos 0) (at_or (pos 0) (alg_values n s r (length n.algs))) s r e h

both : (xs ys : List NetExpr) → list_all names_no_alg (xs ++ ys) ≡ true → (list_all names_no_alg xs ≡ true) × (list_all names_no_alg ys ≡ true)
both [] ys h = (refl, h)
both (x ∷ xs) ys h = let q = both xs ys (and-right _ _ h) in (go (names_no_alg x) (and-left _ _ h) q.0, q.1)
  where
    go : (b : Bool) → b ≡ true → list_all names_no_alg xs ≡ true → (b && list_all names_no_alg xs) ≡ true
    go true g k = k
    go false g k = absurd cc

module _ (n : Net) (s : State) (r : ℤ) where
  mutual
    all-assigned : (us : NetUpdates) → list_all names_no_alg (updates_exprs us) ≡ true → assigned_all s r us ≡ net_assigned_all n s r us
    all-assigned no_net_updates h = refl
    all-assigned (net_updates u us) h = let q = both (update_exprs u) (updates_exprs us) h in ap-two (λ xs ys. xs ++ ys) (one-assigned u q.0) (all-assigned us q.1)

    one-assigned : (u : NetUpdate) → list_all names_no_alg (update_exprs u) ≡ true → net_assigned_by nothing s r u ≡ net_assigned_by n s r u
    one-assigned (net_set v e) h = ap (λ z. (v, z) ∷ []) (value-same n s r e (and-left _ _ h))
    one-assigned (net_choose bs us) h = let q = both (branches_exprs bs) (updates_exprs us) h in first-assigned bs q.0 _ _ (all-assigned us q.1)

    first-assigned : (bs : NetUpdateBranches) → list_all names_no_alg (branches_exprs bs) ≡ true → (xs ys : List (ℕ × ℤ)) → xs ≡ ys → net_assigned_in nothing s r xs bs ≡ net_assigned_in n s r ys bs
    first-assigned no_net_update_branches h xs ys same = same
    first-assigned (net_update_branches c us bs) h xs ys same =
        let q = both (updates_exprs us) (branches_exprs bs) (and-right _ _ h) in
        ap (λ z. if is_true z then assigned_all s r us else net_assigned_in nothing s r xs bs) (value-same n s r c (and-left _ _ h))
        ∙ ap-two (λ ws vs. if is_true (value_in n s r c) then ws else vs) (all-assigned us q.0) (first-assigned bs q.1 xs ys same)

-- ---- kinds of updates

module _ (n : Net) (r : Option Ty) where
  abbrev HasKind : NetExpr → Type 0
  HasKind e = (k : Kind) × (fits n r k e ≡ true)

  assigned-kind : (o : Option Kind) (e : NetExpr) → assigns_kind n r o e ≡ true → HasKind e
  assigned-kind None e h = never h
  assigned-kind (Some k) e h = (k, h)

  mutual
    -- each condition and each value has a kind
    updates-kinds : (us : NetUpdates) → updates_stand n r us ≡ true → AllByRecursion HasKind (updates_exprs us)
    updates-kinds no_net_updates h = tt
    updates-kinds (net_updates u us) h = all-append HasKind (update_exprs u) (updates_exprs us) (update-kinds u (and-left _ _ (and-left _ _ h))) (updates-kinds us (and-right _ _ h))

    update-kinds : (u : NetUpdate) → update_stands n r u ≡ true → AllByRecursion HasKind (update_exprs u)
    update-kinds (net_set v e) h = (assigned-kind (var_kind (slice_get n.vars v)) e h, tt)
    update-kinds (net_choose bs us) h = all-append HasKind (branches_exprs bs) (updates_exprs us) (branches-kinds bs (and-left _ _ h)) (updates-kinds us (and-right _ _ h))

    branches-kinds : (bs : NetUpdateBranches) → branches_stand n r bs ≡ true → AllByRecursion HasKind (branches_exprs bs)
    branches-kinds no_net_update_branches h = tt
    branches-kinds (net_update_branches c us bs) h =
        ((bool_kind, and-left _ _ (and-left _ _ h)), all-append HasKind (updates_exprs us) (branches_exprs bs) (updates-kinds us (and-right _ _ (and-left _ _ h))) (branches-kinds bs (and-right _ _ h)))

some-kind : (p : Kind → Bool) (ks : List Kind) → list_any p ks ≡ true → (k : Kind) × (p k ≡ true)
some-kind p [] h = never h
some-kind p (k ∷ ks) h = go (p k) refl (some-kind p ks) h
  where
    go : (b : Bool) → p k ≡ b → (list_any p ks ≡ true → (j : Kind) × (p j ≡ true)) → (b || list_any p ks) ≡ true → (j : Kind) × (p j ≡ true)
    go true e rest g = (k, e)
    go false e rest g = rest g

-- updates are safe where their conditions and right sides are
module _ (x : Setting) where
  mutual
    updates-are-safe : (us : NetUpdates) → AllByRecursion (IsSafe x) (updates_exprs us) → AreSafeUpdates x us
    updates-are-safe no_net_updates h = tt
    updates-are-safe (net_updates u us) h = let q = all-parts (IsSafe x) (update_exprs u) (updates_exprs us) h in (update-is-safe u q.0, updates-are-safe us q.1)

    update-is-safe : (u : NetUpdate) → AllByRecursion (IsSafe x) (update_exprs u) → IsSafeUpdate x u
    update-is-safe (net_set v e) h = h.0
    update-is-safe (net_choose bs us) h = let q = all-parts (IsSafe x) (branches_exprs bs) (updates_exprs us) h in (choices-are-safe bs q.0, updates-are-safe us q.1)

    choices-are-safe : (bs : NetUpdateBranches) → AllByRecursion (IsSafe x) (branches_exprs bs) → AreSafeChoices x bs
    choices-are-safe no_net_update_branches h = tt
    choices-are-safe (net_update_branches c us bs) h = let q = all-parts (IsSafe x) (updates_exprs us) (branches_exprs bs) h.1 in (h.0, updates-are-safe us q.0, choices-are-safe bs q.1)

-- ---- what a channel carries

abbrev in_channel : NetChan → ℤ → Bool
in_channel k z = elim k [ net_chan_of t ↦ in_range (type_range t) z | _ ↦ true ]

event-carries : (evs : List NetEvent) (e : ℕ) (z : ℤ) → fits_channel (slice_get (map event_in evs) e) z ≡ in_channel (elim (slice_get evs e) [ None ↦ no_net_chan | Some x ↦ x.chan ]) z
event-carries [] e z = refl
event-carries (x ∷ evs) zero z = go x.class x.chan
  where
    go : (p : Class) (k : NetChan) → fits_channel (Some (record { class = p; channel = channel_in k })) z ≡ in_channel k z
    go p no_net_chan = refl
    go p void_net_chan = refl
    go p (net_chan_of t) = refl
event-carries (x ∷ evs) (suc e) z = event-carries evs e z

-- what is received is in the range of the channel
module _ (f : NetExpr → ℤ) where
  received-within : (k : NetChan) (e : Option NetExpr) → is_some e ≡ is_some (channel_type k) → list_all (in_channel k) (option_to_list (option_map f e)) ≡ true
      → IsTrue (in_range (channel_range k) (unwrap_or (option_map f e) (pos 0)))
  received-within no_net_chan None same fit = refl
  received-within no_net_chan (Some e) same fit = never (sym same)
  received-within void_net_chan None same fit = refl
  received-within void_net_chan (Some e) same fit = never (sym same)
  received-within (net_chan_of t) None same fit = never same
  received-within (net_chan_of t) (Some e) same fit = and-left _ _ fit

  received-typed : (k : NetChan) (e : Option NetExpr) → is_some e ≡ is_some (channel_type k) → list_all (in_channel k) (option_to_list (option_map f e)) ≡ true
      → (u : Ty) → channel_type k ≡ Some u → in_range (type_range u) (unwrap_or (option_map f e) (pos 0)) ≡ true
  received-typed no_net_chan e same fit u is = absurd (none-some u is)
  received-typed void_net_chan e same fit u is = absurd (none-some u is)
  received-typed (net_chan_of t) None same fit u is = never same
  received-typed (net_chan_of t) (Some e) same fit u is = subst (λ v. in_range (type_range v) (f e) ≡ true) (some-same t u is) (and-left _ _ fit)

-- ---- a choice

module _ (n : Net) (c : NetChoice) (s : State) (v : Chosen n c s) where
  pub net : is_net n ≡ true
  net = net-of-plain n v.plain

  abbrev range : Range
  range = channel_range (channel_of n c.event)

  exprs-plain : list_all (is_plain_expr n) (map (λ e. record { value = e; received = channel_range (channel_of n c.event) }) (c.test ∷ (option_to_list c.sent ++ updates_exprs c.writes))) ≡ true
  exprs-plain = and-right _ _ (and-left _ _ v.stands)

  parts-plain : (list_all (is_plain_expr n) (map (λ e. record { value = e; received = channel_range (channel_of n c.event) }) (option_to_list c.sent)) ≡ true)
      × (list_all (is_plain_expr n) (map (λ e. record { value = e; received = channel_range (channel_of n c.event) }) (updates_exprs c.writes)) ≡ true)
  parts-plain = map-passes (is_plain_expr n) (λ e. record { value = e; received = range }) (option_to_list c.sent) (updates_exprs c.writes) (and-right _ _ exprs-plain)

  -- one that names nothing received, whatever the range of the channel
  unreceived-safe : (k : Kind) (e : NetExpr) → is_plain_expr n (record { value = e; received = channel_range (channel_of n c.event) }) ≡ true → fits n None k e ≡ true → IsSafe (within s (pos 0)) e
  unreceived-safe k e plain fit = net-safe n (λ i. pos 0) s (record { value = e; received = truths }) (pos 0) None k net (plain-any n k e range truths fit plain) v.state refl (λ u h. absurd (none-some u h)) fit

  names-of : (e : NetExpr) → is_plain_expr n (record { value = e; received = channel_range (channel_of n c.event) }) ≡ true → names_no_alg e ≡ true
  names-of e h = and-left _ _ (and-left _ _ h)

  -- ---- the test

  pub test-safe : IsSafe (within s (pos 0)) c.test
  test-safe = unreceived-safe bool_kind c.test (and-left _ _ exprs-plain) (and-left _ _ (and-left _ _ (and-left _ _ (and-left _ _ v.stands))))

  pub test-is : is_true (value_at (within s (pos 0)) c.test) ≡ (agrees (system_of_net n) s c.event (full_choice n c).1 && is_permitted (system_of_net n) c.event s)
  test-is = ap is_true (value-same n s (pos 0) c.test (names-of c.test (and-left _ _ exprs-plain))) ∙ v.tests

  -- ---- the sent value

  abbrev value : NetExpr → ℤ
  value e = value_at (within s (pos 0)) e

  pub sent-safe : AllByRecursion (IsSafe (within s (pos 0))) (option_to_list c.sent)
  sent-safe = go (carried_type n c) c.sent (and-right _ _ (and-left _ _ (and-left _ _ (and-left _ _ v.stands)))) parts-plain.0
    where
      go : (t : Option Ty) (o : Option NetExpr) → sent_stands n t o ≡ true → list_all (is_plain_expr n) (map (λ e. record { value = e; received = channel_range (channel_of n c.event) }) (option_to_list o)) ≡ true
          → AllByRecursion (IsSafe (within s (pos 0))) (option_to_list o)
      go t None h plain = tt
      go None (Some e) h plain = never h
      go (Some t) (Some e) h plain = let q = some-kind (λ k. has_type t k && fits n None k e) (kinds_in n) h in (unreceived-safe q.0 e (and-left _ _ plain) (and-right _ _ q.1), tt)

  sent-value : option_map (value_at (within s (pos 0))) c.sent ≡ option_map (value_in n s (pos 0)) c.sent
  sent-value = go c.sent parts-plain.0
    where
      go : (o : Option NetExpr) → list_all (is_plain_expr n) (map (λ e. record { value = e; received = channel_range (channel_of n c.event) }) (option_to_list o)) ≡ true → option_map (value_at (within s (pos 0))) o ≡ option_map (value_in n s (pos 0)) o
      go None h = refl
      go (Some e) h = ap Some (value-same n s (pos 0) e (names-of e (and-left _ _ h)))

  pub sent-fits : list_all (fits_channel (slice_get (map event_in n.events) c.event)) (option_to_list (option_map (value_at (within s (pos 0))) c.sent)) ≡ sent_fits (system_of_net n) s c.event (full_choice n c).1
  sent-fits = ap (list_all (fits_channel (slice_get (map event_in n.events) c.event))) (ap option_to_list sent-value ∙ v.values.0)

  -- ---- the updates

  abbrev received : ℤ
  received = unwrap_or (option_map (value_at (within s (pos 0))) c.sent) (pos 0)

  in-range : list_all (fits_channel (slice_get (map event_in n.events) c.event)) (option_to_list (option_map (value_at (within s (pos 0))) c.sent)) ≡ true
      → list_all (in_channel (channel_of n c.event)) (option_to_list (option_map (value_at (within s (pos 0))) c.sent)) ≡ true
  in-range = go (option_map (value_at (within s (pos 0))) c.sent)
    where
      go : (o : Option ℤ) → list_all (fits_channel (slice_get (map event_in n.events) c.event)) (option_to_list o) ≡ true → list_all (in_channel (channel_of n c.event)) (option_to_list o) ≡ true
      go None h = refl
      go (Some z) h = sym (ap (λ b. b && true) (event-carries n.events c.event z)) ∙ h

  all-safe : (z : ℤ) → IsTrue (in_range (channel_range (channel_of n c.event)) z) → ((u : Ty) → carried_type n c ≡ Some u → in_range (type_range u) z ≡ true) → (es : List NetExpr)
      → list_all (is_plain_expr n) (map (λ e. record { value = e; received = channel_range (channel_of n c.event) }) es) ≡ true → AllByRecursion (λ e. (k : Kind) × (fits n (carried_type n c) k e ≡ true)) es
      → AllByRecursion (IsSafe (within s z)) es
  all-safe z inside typed [] plain kinds = tt
  all-safe z inside typed (e ∷ es) plain kinds =
      (net-safe n (λ i. pos 0) s (record { value = e; received = range }) z (carried_type n c) kinds.0.0 net (and-left _ _ plain) v.state inside typed kinds.0.1, all-safe z inside typed es (and-right _ _ plain) kinds.1)

  pub updates-safe : is_true (value_at (within s (pos 0)) c.test) ≡ true → list_all (fits_channel (slice_get (map event_in n.events) c.event)) (option_to_list (option_map (value_at (within s (pos 0))) c.sent)) ≡ true
      → AreSafeUpdates (within s (unwrap_or (option_map (value_at (within s (pos 0))) c.sent) (pos 0))) c.writes
  updates-safe test fit =
      let holds : true_in n s c.test ≡ true = sym (ap is_true (value-same n s (pos 0) c.test (names-of c.test (and-left _ _ exprs-plain)))) ∙ test in
      let same : is_some c.sent ≡ is_some (carried_type n c) = sends-carried n c s net v.stands v.written v.tests holds in
      updates-are-safe (within s received) c.writes
      (all-safe received (received-within (value_at (within s (pos 0))) (channel_of n c.event) c.sent same (in-range fit)) (received-typed (value_at (within s (pos 0))) (channel_of n c.event) c.sent same (in-range fit))
      (updates_exprs c.writes) parts-plain.1 (updates-kinds n (carried_type n c) c.writes (and-right _ _ (and-left _ _ (and-left _ _ v.stands)))))

  no-algs : (es : List NetExpr) → list_all (is_plain_expr n) (map (λ e. record { value = e; received = channel_range (channel_of n c.event) }) es) ≡ true → list_all names_no_alg es ≡ true
  no-algs [] h = refl
  no-algs (e ∷ es) h = go (names_no_alg e) (names-of e (and-left _ _ h)) (no-algs es (and-right _ _ h))
    where
      go : (b : Bool) → b ≡ true → list_all names_no_alg es ≡ true → (b && list_all names_no_alg es) ≡ true
      go true g k = k
      go false g k = absurd cc

  pub assigned-are : assigned_all s (unwrap_or (option_map (value_at (within s (pos 0))) c.sent) (pos 0)) c.writes ≡ assigned (system_of_net n) s (full_choice n c).1
  assigned-are =
      ap (λ o. assigned_all s (unwrap_or o (pos 0)) c.writes) sent-value
      ∙ go (option_map (value_in n s (pos 0)) c.sent)
      ∙ v.values.1
    where
      go : (o : Option ℤ) → assigned_all s (unwrap_or o (pos 0)) c.writes ≡ net_assigned_all n s (elim o [ None ↦ pos 0 | Some z ↦ z ]) c.writes
      go None = all-assigned n s (pos 0) c.writes (no-algs (updates_exprs c.writes) parts-plain.1)
      go (Some z) = all-assigned n s z c.writes (no-algs (updates_exprs c.writes) parts-plain.1)

  -- ---- the state after the choice

  pub after-written : written n.autos c.moves (assigned_all s (unwrap_or (option_map (value_at (within s (pos 0))) c.sent) (pos 0)) c.writes) s ≡ after (system_of_net n) s (full_choice n c).1
  after-written = ap (λ ws. written n.autos c.moves ws s) assigned-are ∙ after-is n c s v.state v.parties

  pub after-state : makes_step (system_of_net n) s c.event (full_choice n c).1 ≡ true → IsState (system_of_net n) (after (system_of_net n) s (full_choice n c).1)
  after-state makes = step-state (system_of_net n) (ends-inside n net) s c.event (after (system_of_net n) s (full_choice n c).1) v.state (record { choice = (full_choice n c).1; makes = makes; is_after = refl })
