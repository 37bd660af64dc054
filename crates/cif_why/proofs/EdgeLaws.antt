-- The updates of an edge that is taken in a choice are evaluated without a fault, where the event carries what is sent.
use Rattle.std.proofs.Common.{◌≡◌, inl, inr, ℕ, zero, suc, ℤ, pos, Bool, true, false, ◌&&◌, ◌||◌, List, [], ◌∷◌, length, map, Option, Some, None, refl, sym, ap, subst, ◌∙◌, if◌then◌else◌}
use Rattle.std.specs.Prelude.{IsTrue, is_some, option_map, option_to_list, slice_get, unwrap_or}
use Rattle.std.specs.List.{AllByRecursion, list_all, list_any}
use Rattle.cif_base.specs.declared.types.Ty.{Ty}
use Rattle.cif_system.specs.System.{Class, IsState, Range, State, in_range}
use Rattle.cif_system.specs.Step.{fits_channel}
use Rattle.cif_system.proofs.Lists.{none-some, some-same}
use Rattle.cif_net_expr.specs.Tree.{NetExpr, NetUpdate, net_set, net_choose, NetUpdates, no_net_updates, net_updates, NetUpdateBranches, no_net_update_branches, net_update_branches}
use Rattle.cif_net_model.specs.Net.{NetChan, no_net_chan, void_net_chan, net_chan_of, NetEvent, Net}
use Rattle.cif_net_model.specs.Exprs.{updates_exprs, update_exprs, branches_exprs}
use Rattle.cif_net_model.specs.Facts.{assigns_kind, branches_stand, channel_of, is_net, update_stands, updates_stand, var_kind}
use Rattle.cif_net_model.specs.Kinds.{Kind, bool_kind, fits, has_type, kinds_in}
use Rattle.cif_net_model.specs.Listing.{NetChoice, full_choice}
use Rattle.cif_net_model.specs.Meaning.{channel_in, event_in, system_of_net, type_range}
use Rattle.cif_net_model.specs.Rules.{is_plain, is_plain_expr}
use Rattle.cif_net_model.specs.Shown.{channel_range, channel_type}
use Rattle.cif_net_model.specs.Table.{agrees_in, carried_type}
use Rattle.cif_net_model.proofs.Passing.{and-left, and-right}
use Rattle.cif_net_model.proofs.PartLaws.{all-append}
use Rattle.cif_net_model.proofs.PlainLaws.{never}
use Rattle.cif_net_model.proofs.ValueLaws.{all-parts}
use Rattle.cif_net_model.specs.Safe.{IsSafe, Setting, value_at}
use Rattle.cif_net_model.proofs.Plain.{net-safe}
use Rattle.cif_eval.specs.Updates.{AreSafeChoices, AreSafeUpdates, IsSafeUpdate}
use Rattle.cif_eval.specs.Within.{within}
use Rattle.cif_system.specs.System.{Role, receiving, sending, syncing}
use Rattle.cif_system.specs.Words.{Member}
use Rattle.cif_system.proofs.Picks.{append-right}
use Rattle.cif_net_model.specs.Facts.{received_type}
use Rattle.cif_net_model.specs.Net.{NetAuto, NetEdge}
use Rattle.cif_net_laws.proofs.Received.{and-true}
use Rattle.cif_net_laws.proofs.Sound.{kept, net-of}
use Rattle.std.proofs.Common.{◌+◌, ◌<◌, ◌^◌, filter_map, zip, arith, length-append, eqb-true}
use Rattle.std.specs.Prelude.{nat_lt, option_and_then}
use Rattle.std.specs.List.{cons_option, enumerate_from}
use Rattle.std.proofs.lemmas.Bool.Decides.{nat_tests}
use Rattle.cif_system.specs.Step.{Choice}
use Rattle.cif_system.proofs.ChoiceLaws.{choices-listed}
use Rattle.cif_system.proofs.Lists.{map-length}
use Rattle.cif_system.proofs.Picks.{append-left}
use Rattle.cif_net_model.specs.Exprs.{Written, edge_values, writes_all}
use Rattle.cif_net_model.specs.Facts.{edge_stands, role_stands}
use Rattle.cif_net_model.specs.Listing.{move_if, syncs_on}
use Rattle.cif_net_laws.proofs.Parties.{Parts}
use Rattle.cif_net_laws.proofs.Picked.{picked}
use Rattle.cif_eval.proofs.Chosen.{Chosen}
use Rattle.cif_eval.specs.Updates.{most_pairs}
use Rattle.cif_why.specs.Leaving.{IsSafeEdge, IsSafeMove, Sending, is_carried, sending_of}
use Rattle.cif_why.proofs.Carrying.{sends-carried}
use Rattle.cif_why.proofs.Guards.{told-of}
use Rattle.cif_why.proofs.NumberLaws.{count-all}

-- ---- kinds of updates

module _ (n : Net) (r : Option Ty) where
  abbrev HasKind : NetExpr → Type 0
  HasKind e = (k : Kind) × (fits n r k e ≡ true)

  assigned-kind : (o : Option Kind) (e : NetExpr) → assigns_kind n r o e ≡ true → HasKind e
  assigned-kind None e h = never h
  assigned-kind (Some k) e h = (k, h)

  mutual
    -- each condition and each value has a kind
    updates-kinds : (us : NetUpdates) → updates_stand n r us ≡ true → AllByRecursion HasKind (updates_exprs us)
    updates-kinds no_net_updates h = tt
    updates-kinds (net_updates u us) h = all-append HasKind (update_exprs u) (updates_exprs us) (update-kinds u (and-left _ _ (and-left _ _ h))) (updates-kinds us (and-right _ _ h))

    update-kinds : (u : NetUpdate) → update_stands n r u ≡ true → AllByRecursion HasKind (update_exprs u)
    update-kinds (net_set v e) h = (assigned-kind (var_kind (slice_get n.vars v)) e h, tt)
    update-kinds (net_choose bs us) h = all-append HasKind (branches_exprs bs) (updates_exprs us) (branches-kinds bs (and-left _ _ h)) (updates-kinds us (and-right _ _ h))

    branches-kinds : (bs : NetUpdateBranches) → branches_stand n r bs ≡ true → AllByRecursion HasKind (branches_exprs bs)
    branches-kinds no_net_update_branches h = tt
    branches-kinds (net_update_branches c us bs) h =
        ((bool_kind, and-left _ _ (and-left _ _ h)), all-append HasKind (updates_exprs us) (branches_exprs bs) (updates-kinds us (and-right _ _ (and-left _ _ h))) (branches-kinds bs (and-right _ _ h)))

some-kind : (p : Kind → Bool) (ks : List Kind) → list_any p ks ≡ true → (k : Kind) × (p k ≡ true)
some-kind p [] h = never h
some-kind p (k ∷ ks) h = go (p k) refl (some-kind p ks) h
  where
    go : (b : Bool) → p k ≡ b → (list_any p ks ≡ true → (j : Kind) × (p j ≡ true)) → (b || list_any p ks) ≡ true → (j : Kind) × (p j ≡ true)
    go true e rest g = (k, e)
    go false e rest g = rest g

-- updates are safe where their conditions and right sides are
module _ (x : Setting) where
  mutual
    updates-are-safe : (us : NetUpdates) → AllByRecursion (IsSafe x) (updates_exprs us) → AreSafeUpdates x us
    updates-are-safe no_net_updates h = tt
    updates-are-safe (net_updates u us) h = let q = all-parts (IsSafe x) (update_exprs u) (updates_exprs us) h in (update-is-safe u q.0, updates-are-safe us q.1)

    update-is-safe : (u : NetUpdate) → AllByRecursion (IsSafe x) (update_exprs u) → IsSafeUpdate x u
    update-is-safe (net_set v e) h = h.0
    update-is-safe (net_choose bs us) h = let q = all-parts (IsSafe x) (branches_exprs bs) (updates_exprs us) h in (choices-are-safe bs q.0, updates-are-safe us q.1)

    choices-are-safe : (bs : NetUpdateBranches) → AllByRecursion (IsSafe x) (branches_exprs bs) → AreSafeChoices x bs
    choices-are-safe no_net_update_branches h = tt
    choices-are-safe (net_update_branches c us bs) h = let q = all-parts (IsSafe x) (updates_exprs us) (branches_exprs bs) h.1 in (h.0, updates-are-safe us q.0, choices-are-safe bs q.1)

-- ---- what a channel carries

abbrev in_channel : NetChan → ℤ → Bool
in_channel k z = elim k [ net_chan_of t ↦ in_range (type_range t) z | _ ↦ true ]

event-carries : (evs : List NetEvent) (e : ℕ) (z : ℤ) → fits_channel (slice_get (map event_in evs) e) z ≡ in_channel (elim (slice_get evs e) [ None ↦ no_net_chan | Some x ↦ x.chan ]) z
event-carries [] e z = refl
event-carries (x ∷ evs) zero z = go x.class x.chan
  where
    go : (p : Class) (k : NetChan) → fits_channel (Some (record { class = p; channel = channel_in k })) z ≡ in_channel k z
    go p no_net_chan = refl
    go p void_net_chan = refl
    go p (net_chan_of t) = refl
event-carries (x ∷ evs) (suc e) z = event-carries evs e z

-- what is received is in the range of the channel
module _ (f : NetExpr → ℤ) where
  received-within : (k : NetChan) (e : Option NetExpr) → is_some e ≡ is_some (channel_type k) → list_all (in_channel k) (option_to_list (option_map f e)) ≡ true
      → IsTrue (in_range (channel_range k) (unwrap_or (option_map f e) (pos 0)))
  received-within no_net_chan None same fit = refl
  received-within no_net_chan (Some e) same fit = never (sym same)
  received-within void_net_chan None same fit = refl
  received-within void_net_chan (Some e) same fit = never (sym same)
  received-within (net_chan_of t) None same fit = never same
  received-within (net_chan_of t) (Some e) same fit = and-left _ _ fit

  received-typed : (k : NetChan) (e : Option NetExpr) → is_some e ≡ is_some (channel_type k) → list_all (in_channel k) (option_to_list (option_map f e)) ≡ true
      → (u : Ty) → channel_type k ≡ Some u → in_range (type_range u) (unwrap_or (option_map f e) (pos 0)) ≡ true
  received-typed no_net_chan e same fit u is = absurd (none-some u is)
  received-typed void_net_chan e same fit u is = absurd (none-some u is)
  received-typed (net_chan_of t) None same fit u is = never same
  received-typed (net_chan_of t) (Some e) same fit u is = subst (λ v. in_range (type_range v) (f e) ≡ true) (some-same t u is) (and-left _ _ fit)

-- ---- an edge

module _ (n : Net) (s : State) (plain : is_plain n ≡ true) (state : IsState (system_of_net n) s) where
  -- what is received lies in the range of its channel and is of its type
  pub record Received (e : ℕ) (z : ℤ) : Type 0 where
    pub inside : IsTrue (in_range (channel_range (channel_of n e)) z)
    pub typed : (u : Ty) → channel_type (channel_of n e) ≡ Some u → in_range (type_range u) z ≡ true

  net : is_net n ≡ true
  net = net-of n plain

  safe-each : (e : ℕ) (z : ℤ) (r : Option Ty) → Received e z → ((u : Ty) → r ≡ Some u → channel_type (channel_of n e) ≡ Some u) → (es : List NetExpr)
      → list_all (is_plain_expr n) (map (λ f. record { value = f; received = channel_range (channel_of n e) }) es) ≡ true → AllByRecursion (λ f. (k : Kind) × (fits n r k f ≡ true)) es → AllByRecursion (IsSafe (within s z)) es
  safe-each e z r w only [] h kinds = tt
  safe-each e z r w only (f ∷ es) h kinds = (
    net-safe n (λ i. pos 0) s (record { value = f; received = channel_range (channel_of n e) }) z r kinds.0.0 net (and-left _ _ h) state w.inside (λ u is. w.typed u (only u is)) kinds.0.1,
    safe-each e z r w only es (and-right _ _ h) kinds.1,
  )

  plain-each : (r : Range) (es : List NetExpr) → ((f : NetExpr) → Member f es → is_plain_expr n (record { value = f; received = r }) ≡ true) → list_all (is_plain_expr n) (map (λ f. record { value = f; received = r }) es) ≡ true
  plain-each r [] h = refl
  plain-each r (f ∷ es) h = and-true (h f (inl refl)) (plain-each r es (λ g m. h g (inr m)))

  received-only : (y : NetEdge) (u : Ty) → received_type n y ≡ Some u → channel_type (channel_of n y.event) ≡ Some u
  received-only y u is = by y.role (channel_of n y.event) is
    where
      by : (p : Role) (k : NetChan) → (elim p [ receiving ↦ elim k [ net_chan_of t ↦ Some t | _ ↦ None ] | _ ↦ None ]) ≡ Some u → channel_type k ≡ Some u
      by syncing k h = absurd (none-some u h)
      by sending k h = absurd (none-some u h)
      by receiving no_net_chan h = absurd (none-some u h)
      by receiving void_net_chan h = absurd (none-some u h)
      by receiving (net_chan_of t) h = h

  -- the updates of an edge
  pub updates-told : (k : ℕ) (a : NetAuto) (j : ℕ) (y : NetEdge) (z : ℤ) → slice_get n.autos k ≡ Some a → slice_get a.edges j ≡ Some y → Received y.event z → AreSafeUpdates (within s z) y.updates
  updates-told k a j y z p q w =
      let kept = kept n plain k a j y p q in
      updates-are-safe (within s z) y.updates
      (safe-each y.event z (received_type n y) w (received-only y) (updates_exprs y.updates)
      (plain-each (channel_range (channel_of n y.event)) (updates_exprs y.updates) (λ f m. kept.plain f (inr (append-right f (option_to_list y.sent) (updates_exprs y.updates) m))))
      (updates-kinds n (received_type n y) y.updates (and-right _ _ (and-left _ _ (and-left _ _ (and-left _ _ kept.stands))))))

-- an edge has fewer than 2 ^ 32 values
edge-few : (n : Net) (a : NetAuto) (y : NetEdge) → edge_stands n a y ≡ true → length (option_to_list y.sent) + most_pairs y.updates < 2 ^ 32
edge-few n a y stands =
    let places : length y.places ≡ length (edge_values y) = eqb-true (length y.places) (length (edge_values y)) (and-right _ _ (and-left _ _ (and-left _ _ stands))) in
    let few : length y.places < 4294967296 = below (length y.places) 4294967296 (and-right _ _ (and-left _ _ stands)) in
    let both = length-append (option_to_list y.sent) (map (λ (w : Written). w.value) (writes_all y.updates)) in
    let count = count-all y.updates in
    let sizes = map-length (λ (w : Written). w.value) (writes_all y.updates) in
    omega (arith, places, few, both, count, sizes)
  where
    below : (i j : ℕ) → nat_lt i j ≡ true → i < j
    below i j h = grind (arith, nat_tests)

-- ---- a choice that agrees

module _ (n : Net) (c : NetChoice) (s : State) (v : Chosen n c s) (agree : agrees_in n s c ≡ true) where
  abbrev t : Sending
  t = sending_of n.events s c

  channel-carries : (o : Option ℤ) → list_all (is_carried n.events c.event) (option_to_list o) ≡ true → list_all (in_channel (channel_of n c.event)) (option_to_list o) ≡ true
  channel-carries None h = refl
  channel-carries (Some z) h = sym (ap (λ b. b && true) (event-carries n.events c.event z)) ∙ h

  received : t.fits ≡ true → Received n s v.plain v.state c.event t.received
  received fits =
      let same : is_some c.sent ≡ is_some (carried_type n c) = sends-carried n c s (net-of n v.plain) v.stands v.written agree in
      let inside = channel-carries (option_map (value_at (within s (pos 0))) c.sent) fits in
      record {
        inside = received-within (value_at (within s (pos 0))) (channel_of n c.event) c.sent same inside;
        typed = received-typed (value_at (within s (pos 0))) (channel_of n c.event) c.sent same inside;
      }

  -- what an edge sends
  sent-told : (p : Role) (k : NetChan) (r : Range) (o : Option NetExpr) → role_stands n p k o ≡ true → ((f : NetExpr) → Member f (option_to_list o) → is_plain_expr n (record { value = f; received = r }) ≡ true)
      → AllByRecursion (IsSafe (within s (pos 0))) (option_to_list o)
  sent-told p k r None h plain = tt
  sent-told syncing k r (Some f) h plain = never h
  sent-told sending no_net_chan r (Some f) h plain = never h
  sent-told sending void_net_chan r (Some f) h plain = never h
  sent-told sending (net_chan_of u) r (Some f) h plain =
      let q = some-kind (λ k. has_type u k && fits n None k f) (kinds_in n) h in
      ((told-of n s v.plain v.state q.0 f r (plain f (inl refl)) (and-right _ _ q.1)).safe, tt)
  sent-told receiving no_net_chan r (Some f) h plain = never h
  sent-told receiving void_net_chan r (Some f) h plain = never h
  sent-told receiving (net_chan_of u) r (Some f) h plain = never h

  edge-safe : (k : ℕ) (a : NetAuto) (j : ℕ) (y : NetEdge) → slice_get n.autos k ≡ Some a → slice_get a.edges j ≡ Some y → y.event ≡ c.event → IsSafeEdge s t y
  edge-safe k a j y p q own =
      let w = kept n v.plain k a j y p q in
      record {
        sent =
            sent-told y.role (channel_of n y.event) (channel_range (channel_of n y.event)) y.sent
            (and-right _ _ (and-left _ _ (and-left _ _ (and-left _ _ (and-left _ _ w.stands)))))
            (λ f m. w.plain f (inr (append-left f (option_to_list y.sent) (updates_exprs y.updates) m)));
        updates = λ fits. updates-told n s v.plain v.state k a j y t.received p q (subst (λ e. Received n s v.plain v.state e t.received) (sym own) (received fits));
        few = edge-few n a y w.stands;
      }

  safe-from : (from to k : ℕ) (autos : List NetAuto) (ch : Choice) → Parts c.event from to k autos ch → ((d : ℕ) (a : NetAuto) → slice_get autos d ≡ Some a → slice_get n.autos (k + d) ≡ Some a)
      → AllByRecursion (IsSafeMove n.autos s t) (filter_map (move_if c.event) (zip (enumerate_from k autos) ch))
  safe-from from to k [] [] parts there = tt
  safe-from from to k [] (o ∷ ch) parts there = absurd parts
  safe-from from to k (a ∷ autos) [] parts there = absurd parts
  safe-from from to k (a ∷ autos) (None ∷ ch) parts there =
      by (syncs_on c.event a) (safe-from from to (k + 1) autos ch parts.1 (λ d b h. ap (slice_get n.autos) (omega arith) ∙ there (suc d) b h))
    where
      by : (b : Bool) → AllByRecursion (IsSafeMove n.autos s t) (filter_map (move_if c.event) (zip (enumerate_from (k + 1) autos) ch))
          → AllByRecursion (IsSafeMove n.autos s t) (cons_option (if b then Some (record { auto = k; edge = None }) else None) (filter_map (move_if c.event) (zip (enumerate_from (k + 1) autos) ch)))
      by true rest = ((λ j y is at. absurd (none-some j is)), rest)
      by false rest = rest
  safe-from from to k (a ∷ autos) (Some y ∷ ch) parts there =
      let part = parts.0 in
      let here : slice_get n.autos k ≡ Some a = ap (slice_get n.autos) (omega arith) ∙ there 0 a refl in (
        (λ j z is at.
            let inside : slice_get a.edges j ≡ Some z = sym (ap (λ (o : Option NetAuto). option_and_then (λ (b : NetAuto). slice_get b.edges j) o) here) ∙ at in
            let one : part.0 ≡ z = some-same part.0 z (sym part.1 ∙ ap (slice_get a.edges) (some-same y j is) ∙ inside) in
            edge-safe k a j z here inside (ap (λ (w : NetEdge). w.event) (sym one) ∙ eqb-true part.0.event c.event part.2)),
        safe-from from to (k + 1) autos ch parts.1 (λ d b h. ap (slice_get n.autos) (omega arith) ∙ there (suc d) b h),
      )

  -- each move takes an edge whose values are evaluated without a fault
  pub moves-safe : AllByRecursion (IsSafeMove n.autos s t) c.moves
  moves-safe =
      let p = picked n c.event (net-of n v.plain) (full_choice n c).1 (choices-listed (system_of_net n) s c.event (full_choice n c).1 agree) in
      subst (AllByRecursion (IsSafeMove n.autos s t)) (sym v.parties) (safe-from p.from p.to 0 n.autos (full_choice n c).1 p.each (λ d a h. ap (slice_get n.autos) (omega arith) ∙ h))
