-- The expressions of the choices of a table, and the state invariants that these ask, are safe in each state: each has a kind,
-- and stays in 64 bits. Where nothing is received they are so whatever the channel carries, and the updates where what they
-- receive is in its range.
use Rattle.std.proofs.Common.{◌≡◌, ℕ, zero, suc, ℤ, pos, Bool, true, false, List, [], ◌∷◌, ◌++◌, map, Option, Some, None, refl, sym, subst, slice_get, ◌&&◌, arith}
use Rattle.std.specs.Prelude.{IsTrue, is_some, option_map, option_to_list}
use Rattle.std.specs.List.{list_all, AllByRecursion}
use Rattle.std.proofs.lemmas.Int.{ints}
use Rattle.cif_base.specs.declared.types.Ty.{Ty}
use Rattle.cif_system.specs.System.{Range, State, IsState, in_range}
use Rattle.cif_system.proofs.Lists.{none-some, some-same}
use Rattle.cif_net_expr.specs.Tree.{NetExpr, NetUpdate, net_set, net_choose, NetUpdates, no_net_updates, net_updates, NetUpdateBranches, no_net_update_branches, net_update_branches}
use Rattle.cif_net_model.specs.Net.{NetChan, no_net_chan, void_net_chan, net_chan_of, NetStored, Net}
use Rattle.cif_net_model.specs.Exprs.{updates_exprs, update_exprs, branches_exprs}
use Rattle.cif_net_model.specs.Facts.{assigns_kind, branches_stand, channel_of, is_net, literals_fit, stored_stands, update_stands, updates_stand, var_kind}
use Rattle.cif_net_model.specs.Interval.{declared_ranges, range_of, truths}
use Rattle.cif_net_model.specs.Kinds.{Kind, bool_kind, fits, has_type, kinds_in}
use Rattle.cif_net_model.specs.Listing.{NetChoice}
use Rattle.cif_net_model.specs.Meaning.{system_of_net, true_in, type_range, value_in}
use Rattle.cif_net_model.specs.Counts.{most_depth}
use Rattle.cif_net_model.specs.Parts.{divides, parts, is_narrow}
use Rattle.cif_net_model.specs.Reads.{names_no_alg}
use Rattle.cif_net_model.specs.Rules.{is_plain, is_plain_expr}
use Rattle.cif_net_model.specs.Shown.{channel_range, channel_type}
use Rattle.cif_net_model.specs.Table.{carried_type, choice_stands, sent_stands}
use Rattle.cif_net_model.proofs.Orders.{Lies, lies-from_test}
use Rattle.cif_net_model.proofs.Passing.{and-left, and-right}
use Rattle.cif_net_model.proofs.PartLaws.{all-append, parts_hold}
use Rattle.cif_net_model.proofs.PlainLaws.{fit-at, never}
use Rattle.cif_net_laws.proofs.RangingChoices.{plain-any}
use Rattle.cif_net_laws.proofs.Sound.{AllSound}
use Rattle.plc_frame.proofs.Facts.{Standing, standing}
use Rattle.cif_net_model.specs.Safe.{HasBits, IsSafe, Setting, value_at}
use Rattle.cif_net_model.proofs.Plain.{safe}
use Rattle.plc_event_model.specs.Asked.{setting_of}
use Rattle.plc_event_model.specs.Keeps.{asked}
use Rattle.plc_event_model.specs.Ready.{IsSafeChoice}
use Rattle.plc_event_model.specs.Sends.{carries, received_in}
use Rattle.plc_event_model.proofs.Keeping.{some-kind}
use Rattle.plc_event_model.proofs.Asked.{asked-sound}

-- ---- one expression

literals-at : (vs : List NetStored) → list_all stored_stands vs ≡ true → (k : ℕ) (w : NetStored) → slice_get vs k ≡ Some w → literals_fit w.type_of w.literals ≡ true
literals-at [] h k w e = absurd cc
literals-at (u ∷ us) h zero w e = subst (λ (t : NetStored). literals_fit t.type_of t.literals ≡ true) (some-same u w e) (and-right _ _ (and-left _ _ (and-left _ _ h)))
literals-at (u ∷ us) h (suc k) w e = literals-at us (and-right _ _ h) k w e

narrow-bits : (r : Range) (z : ℤ) → is_narrow r ≡ true → Lies r z → HasBits z
narrow-bits r z h l = grind (arith, ints)

all-bits : (f : NetExpr → Range) (x : Setting) (ps : List NetExpr) → AllByRecursion (λ p. Lies (f p) (value_at x p)) ps → list_all (λ p. is_narrow (f p)) ps ≡ true → AllByRecursion (λ p. HasBits (value_at x p)) ps
all-bits f x [] l h = tt
all-bits f x (p ∷ ps) l h = (narrow-bits (f p) (value_at x p) (and-left _ _ h) l.0, all-bits f x ps l.1 (and-right _ _ h))

module _ (n : Net) (net : is_net n ≡ true) (s : State) (is_state : IsState (system_of_net n) s) (r : Range) (z : ℤ) (received : IsTrue (in_range r z)) (t : Option Ty) (typed : (u : Ty) → t ≡ Some u → in_range (type_range u) z ≡ true) where
  facts : Standing n
  facts = standing n net

  abbrev x : Setting
  x = setting_of n s z

  -- it names no algebraic variable, divides by no 0, and stays in 64 bits
  pub expr-safe : (k : Kind) (e : NetExpr) → is_plain_expr n (record { value = e; received = r }) ≡ true → fits n t k e ≡ true → IsSafe (setting_of n s z) e
  expr-safe k e plain fit =
      let no_alg : names_no_alg e ≡ true = and-left _ _ (and-left _ _ plain) in
      let no_zero : divides (declared_ranges n r) e ≡ true = and-right _ _ (and-left _ _ plain) in
      let lies : Lies r z = lies-from_test r z received in
      safe n r x t (λ i. fit-at n.vars s.vals i is_state.values) (λ i. fit-at n.inputs s.ins i is_state.inputs) lies (λ u h. lies-from_test (type_range u) z (typed u h)) (literals-at n.vars facts.vars) (literals-at n.inputs facts.inputs)
      k e no_alg no_zero
      (all-bits (range_of (declared_ranges n r)) x (parts e)
      (parts_hold (declared_ranges n r) x.algs s z (λ i. false) (λ i. fit-at n.vars s.vals i is_state.values) (λ i. fit-at n.inputs s.ins i is_state.inputs) (λ i h. never h) lies e no_alg no_zero)
      (and-right _ _ plain)) fit

  pub all-safe : (es : List NetExpr) → list_all (is_plain_expr n) (map (λ e. record { value = e; received = r }) es) ≡ true → AllByRecursion (λ e. (k : Kind) × (fits n t k e ≡ true)) es → AllByRecursion (IsSafe (setting_of n s z)) es
  all-safe [] plain kinds = tt
  all-safe (e ∷ es) plain kinds = (expr-safe kinds.0.0 e (and-left _ _ plain) kinds.0.1, all-safe es (and-right _ _ plain) kinds.1)

-- ---- updates

module _ (n : Net) (r : Option Ty) where
  abbrev HasKind : NetExpr → Type 0
  HasKind e = (k : Kind) × (fits n r k e ≡ true)

  assigned-kind : (o : Option Kind) (e : NetExpr) → assigns_kind n r o e ≡ true → HasKind e
  assigned-kind None e h = never h
  assigned-kind (Some k) e h = (k, h)

  mutual
    -- each condition and each value has a kind
    pub updates-kinds : (us : NetUpdates) → updates_stand n r us ≡ true → AllByRecursion (λ e. (k : Kind) × (fits n r k e ≡ true)) (updates_exprs us)
    updates-kinds no_net_updates h = tt
    updates-kinds (net_updates u us) h = all-append HasKind (update_exprs u) (updates_exprs us) (update-kinds u (and-left _ _ (and-left _ _ h))) (updates-kinds us (and-right _ _ h))

    update-kinds : (u : NetUpdate) → update_stands n r u ≡ true → AllByRecursion HasKind (update_exprs u)
    update-kinds (net_set v e) h = (assigned-kind (var_kind (slice_get n.vars v)) e h, tt)
    update-kinds (net_choose bs us) h = all-append HasKind (branches_exprs bs) (updates_exprs us) (branches-kinds bs (and-left _ _ h)) (updates-kinds us (and-right _ _ h))

    branches-kinds : (bs : NetUpdateBranches) → branches_stand n r bs ≡ true → AllByRecursion HasKind (branches_exprs bs)
    branches-kinds no_net_update_branches h = tt
    branches-kinds (net_update_branches c us bs) h =
        ((bool_kind, and-left _ _ (and-left _ _ h)), all-append HasKind (updates_exprs us) (branches_exprs bs) (updates-kinds us (and-right _ _ (and-left _ _ h))) (branches-kinds bs (and-right _ _ h)))

-- ---- choices

plain-left : {A : Type 0} (p : A → Bool) (f : NetExpr → A) (xs ys : List NetExpr) → list_all p (map f (xs ++ ys)) ≡ true → list_all p (map f xs) ≡ true
plain-left p f [] ys h = refl
plain-left p f (e ∷ xs) ys h = and-both (p (f e)) (list_all p (map f xs)) (and-left _ _ h) (plain-left p f xs ys (and-right _ _ h))
  where
    and-both : (a b : Bool) → a ≡ true → b ≡ true → (a && b) ≡ true
    and-both true b g h = h
    and-both false b g h = never g

plain-parts : {A : Type 0} (p : A → Bool) (f : NetExpr → A) (xs ys : List NetExpr) → list_all p (map f (xs ++ ys)) ≡ true → list_all p (map f ys) ≡ true
plain-parts p f [] ys h = h
plain-parts p f (e ∷ xs) ys h = plain-parts p f xs ys (and-right _ _ h)

module _ (n : Net) (net : is_net n ≡ true) (s : State) (is_state : IsState (system_of_net n) s) where
  none-typed : (u : Ty) → None ≡ Some u → in_range (type_range u) (pos 0) ≡ true
  none-typed u h = absurd (none-some u h)

  -- one that names nothing received, whatever the range of the channel
  unreceived-safe : (r : Range) (k : Kind) (e : NetExpr) → is_plain_expr n (record { value = e; received = r }) ≡ true → fits n None k e ≡ true → IsSafe (setting_of n s (pos 0)) e
  unreceived-safe r k e plain fit = expr-safe n net s is_state truths (pos 0) refl None none-typed k e (plain-any n k e r truths fit plain) fit

  sent-safe : (r : Range) (t : Option Ty) (e : Option NetExpr) → sent_stands n t e ≡ true → list_all (is_plain_expr n) (map (λ d. record { value = d; received = r }) (option_to_list e)) ≡ true
      → AllByRecursion (IsSafe (setting_of n s (pos 0))) (option_to_list e)
  sent-safe r t None stands plain = tt
  sent-safe r None (Some e) stands plain = never stands
  sent-safe r (Some t) (Some e) stands plain =
      let q = some-kind (λ k. has_type t k && fits n None k e) (kinds_in n) stands in (unreceived-safe r q.0 e (and-left _ _ plain) (and-right _ _ q.1), tt)

  sound-safe : (es : List NetExpr) → AllSound n truths most_depth es → AllByRecursion (IsSafe (setting_of n s (pos 0))) es
  sound-safe [] h = tt
  sound-safe (e ∷ es) h = (unreceived-safe truths bool_kind e h.0.plain h.0.kind, sound-safe es h.1)

-- what is received where it is in the range of the channel
module _ (n : Net) (c : NetChoice) (f : NetExpr → ℤ) where
  abbrev received_by : Option NetExpr → ℤ
  received_by e = elim (option_map f e) [ None ↦ pos 0 | Some z ↦ z ]

  received-within : (k : NetChan) (e : Option NetExpr) → is_some e ≡ is_some (channel_type k) → carries (channel_type k) (option_map f e) ≡ true → IsTrue (in_range (channel_range k) (received_by e))
  received-within no_net_chan None same fit = refl
  received-within no_net_chan (Some e) same fit = never (sym same)
  received-within void_net_chan None same fit = refl
  received-within void_net_chan (Some e) same fit = never (sym same)
  received-within (net_chan_of t) None same fit = never same
  received-within (net_chan_of t) (Some e) same fit = fit

  received-typed : (k : NetChan) (e : Option NetExpr) → is_some e ≡ is_some (channel_type k) → carries (channel_type k) (option_map f e) ≡ true
      → (u : Ty) → channel_type k ≡ Some u → in_range (type_range u) (received_by e) ≡ true
  received-typed no_net_chan e same fit u is = absurd (none-some u is)
  received-typed void_net_chan e same fit u is = absurd (none-some u is)
  received-typed (net_chan_of t) None same fit u is = never same
  received-typed (net_chan_of t) (Some e) same fit u is = subst (λ v. in_range (type_range v) (f e) ≡ true) (some-same t u is) fit

pub choice-safe : (n : Net) (c : NetChoice) → is_plain n ≡ true → choice_stands n c ≡ true
    → ((s : State) → IsState (system_of_net n) s → true_in n s c.test ≡ true → is_some c.sent ≡ is_some (carried_type n c)) → IsSafeChoice n c
choice-safe n c is stands sends s is_state =
    let net : is_net n ≡ true = and-left _ _ (and-left _ _ (and-left _ _ is)) in
    let r : Range = channel_range (channel_of n c.event) in
    let plain = and-right _ _ (and-left _ _ stands) in
    let up : updates_stand n (carried_type n c) c.writes ≡ true = and-right _ _ (and-left _ _ (and-left _ _ stands)) in
    let sent : sent_stands n (carried_type n c) c.sent ≡ true = and-right _ _ (and-left _ _ (and-left _ _ (and-left _ _ stands))) in
    record {
      test = unreceived-safe n net s is_state r bool_kind c.test (and-left _ _ plain) (and-left _ _ (and-left _ _ (and-left _ _ (and-left _ _ stands))));
      sends = sends s is_state;
      sent = λ h. sent-safe n net s is_state r (carried_type n c) c.sent sent (plain-left (is_plain_expr n) (λ e. record { value = e; received = r }) (option_to_list c.sent) (updates_exprs c.writes) (and-right _ _ plain));
      updates = λ h fit.
          all-safe n net s is_state r (received_in n s c) (received-within n c (value_in n s (pos 0)) (channel_of n c.event) c.sent (sends s is_state h) fit)
          (carried_type n c) (received-typed n c (value_in n s (pos 0)) (channel_of n c.event) c.sent (sends s is_state h) fit) (updates_exprs c.writes)
          (plain-parts (is_plain_expr n) (λ e. record { value = e; received = r }) (option_to_list c.sent) (updates_exprs c.writes) (and-right _ _ plain))
          (updates-kinds n (carried_type n c) c.writes up);
      keeps = sound-safe n net s is_state (asked n c) (asked-sound n is c);
    }
