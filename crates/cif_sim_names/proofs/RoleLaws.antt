-- In a net an automaton has an event in one role, and so there is a reason where an event has no step.
use Rattle.std.proofs.Common.{◌≡◌, ℕ, Bool, true, false, not, inl, inr, [], map, Some, None, refl, sym, ◌∙◌, ap, subst}
use Rattle.std.specs.Prelude.{slice_get, ◌&&◌, nat_eq}
use Rattle.std.specs.List.{list_any}
use Rattle.std.proofs.lemmas.Bool.{eqb-true, eq-eqb}
use Rattle.cif_system.specs.System.{Automaton, no_channel, Role, State, syncing, sending, receiving}
use Rattle.cif_system.specs.Step.{has_edge, is_channel, is_channel_of, is_for, same_role}
use Rattle.cif_system.specs.Choices.{first_step}
use Rattle.cif_system.proofs.Lists.{false-true}
use Rattle.cif_system.proofs.Picks.{and-left, and-right, all-at, any-at, map-at}
use Rattle.cif_net_model.specs.Net.{NetAuto, NetChan, no_net_chan, void_net_chan, net_chan_of, NetEdge, Net}
use Rattle.cif_net_model.specs.Facts.{auto_stands, channel_of, edge_stands, has, has_use, is_net, is_one_role, role_stands}
use Rattle.cif_net_model.specs.Meaning.{automaton_in, channel_in, edge_meant, event_in, system_of_net}
use Rattle.cif_why_model.specs.Parties.{HasOneRole}
use Rattle.cif_why_model.specs.Reasons.{reasons_of}
use Rattle.cif_why_model.proofs.Agreeing.{decided}
use Rattle.cif_why_model.proofs.Enough.{no-reason}
use Rattle.cif_why_model.proofs.Holding.{of-any, of-map, stands-at}
use Rattle.cif_sim_names.specs.Nets.{told_of_net, variable_path_in}
use Rattle.cif_sim_names.proofs.ToldLaws.{at-mapped, nets-tell}

role-is : (p q : Role) → same_role p q ≡ true → q ≡ p
role-is syncing syncing h = refl
role-is syncing sending h = absurd (false-true refl h)
role-is syncing receiving h = absurd (false-true refl h)
role-is sending syncing h = absurd (false-true refl h)
role-is sending sending h = refl
role-is sending receiving h = absurd (false-true refl h)
role-is receiving syncing h = absurd (false-true refl h)
role-is receiving sending h = absurd (false-true refl h)
role-is receiving receiving h = refl

not-false : (b : Bool) → not b ≡ true → b ≡ false
not-false true h = absurd (false-true refl h)
not-false false h = refl

chan-none : (h : NetChan) → (elim (channel_in h) [ no_channel ↦ false | _ ↦ true ]) ≡ false → h ≡ no_net_chan
chan-none no_net_chan h = refl
chan-none void_net_chan h = absurd (false-true h refl)
chan-none (net_chan_of t) h = absurd (false-true h refl)

module _ (n : Net) (net : is_net n ≡ true) (e : ℕ) where
  -- an edge of an automaton for the event in a role, and what it keeps
  record Use (p : Role) (a : NetAuto) : Type 0 where
    at : ℕ
    edge : NetEdge
    is : slice_get a.edges at ≡ Some edge
    role : edge.role ≡ p
    event : edge.event ≡ e
    kept : edge_stands n a edge ≡ true

  use-of : (p : Role) (k : ℕ) (a : NetAuto) → slice_get n.autos k ≡ Some a → has_edge p e (automaton_in n a) ≡ true → Use p a
  use-of p k a g h =
      let some = of-any (is_for p e) (map (edge_meant n) a.edges) h in
      let from = of-map (edge_meant n) some.0 a.edges some.1 in
      let there = stands-at from.0 a.edges from.1 in
      let for_it : is_for p e (edge_meant n from.0) ≡ true = subst (λ y. is_for p e y ≡ true) from.2 some.2 in
      let autos = and-right _ _ (and-left _ _ (and-left _ _ (and-left _ _ (and-left _ _ net)))) in
      record {
        at = there.0;
        edge = from.0;
        is = there.1;
        role = role-is p from.0.role (and-left (same_role p from.0.role) _ for_it);
        event = eqb-true from.0.event e (and-right (same_role p from.0.role) _ for_it);
        kept = all-at (edge_stands n a) a.edges there.0 from.0 (and-right _ _ (all-at (auto_stands n) n.autos k a autos g)) there.1;
      }

  abbrev one_role_by : NetAuto → ℕ → Role → Bool
  one_role_by a event role = elim role [
    | syncing ↦ has a.alphabet event
    | sending ↦ not (has a.alphabet event) && not (has_use receiving event a.edges)
    | receiving ↦ not (has a.alphabet event)
  ]

  one-role : (p : Role) (a : NetAuto) (u : Use p a) → one_role_by a e p ≡ true
  one-role p a u =
      let one : is_one_role a u.edge ≡ true = and-right _ _ u.kept in
      subst (λ k. one_role_by a k p ≡ true) u.event (subst (λ q. one_role_by a u.edge.event q ≡ true) u.role one)

  role-fits : (p : Role) (a : NetAuto) (u : Use p a) → role_stands n p (channel_of n e) u.edge.sent ≡ true
  role-fits p a u =
      let stands : role_stands n u.edge.role (channel_of n u.edge.event) u.edge.sent ≡ true = and-right _ _ (and-left _ _ (and-left _ _ (and-left _ _ (and-left _ _ u.kept)))) in
      subst (λ k. role_stands n p (channel_of n k) u.edge.sent ≡ true) u.event (subst (λ q. role_stands n q (channel_of n u.edge.event) u.edge.sent ≡ true) u.role stands)

  -- the event is no channel where the system has none
  not-along : is_channel (system_of_net n) e ≡ false → channel_of n e ≡ no_net_chan
  not-along c =
      (elim (slice_get n.events e) as (λ o. slice_get n.events e ≡ o → (elim o [ None ↦ no_net_chan | Some x ↦ x.chan ]) ≡ no_net_chan) [
        | None ↦ λ g. refl
        | Some x ↦ λ g. chan-none x.chan (ap is_channel_of (sym (at-mapped event_in n.events e x g)) ∙ c)
      ]) refl

  no-use : (p : Role) (k : ℕ) (a : NetAuto) → slice_get n.autos k ≡ Some a → (Use p a → ⊥) → has_edge p e (automaton_in n a) ≡ false
  no-use p k a g none = elim (decided (has_edge p e (automaton_in n a))) [
    | inr other ↦ other
    | inl so ↦ absurd (none (use-of p k a g so))
  ]

  sends-none : (p : Role) (a : NetAuto) (u : Use p a) → channel_of n e ≡ no_net_chan → (role_stands n p no_net_chan u.edge.sent ≡ false) → ⊥
  sends-none p a u c f = false-true f (subst (λ h. role_stands n p h u.edge.sent ≡ true) c (role-fits p a u))

  alone : (k : ℕ) (a : NetAuto) → slice_get n.autos k ≡ Some a → list_any (nat_eq e) a.alphabet ≡ true → (has_edge sending e (automaton_in n a) ≡ false) × (has_edge receiving e (automaton_in n a) ≡ false)
  alone k a g sy = (
    no-use sending k a g (λ u. false-true (not-false _ (and-left _ _ (one-role sending a u))) sy),
    no-use receiving k a g (λ u. false-true (not-false _ (one-role receiving a u)) sy),
  )

  apart : (k : ℕ) (a : NetAuto) → slice_get n.autos k ≡ Some a → has_edge sending e (automaton_in n a) ≡ true → has_edge receiving e (automaton_in n a) ≡ false
  apart k a g h =
      let s = use-of sending k a g h in
      no-use receiving k a g (λ u. false-true (not-false _ (and-right _ _ (one-role sending a s))) (used u))
    where
      used : Use receiving a → has_use receiving e a.edges ≡ true
      used u = any-at (λ (x : NetEdge). nat_eq x.event e && same_role x.role receiving) a.edges u.at u.edge u.is
          (λ i. eq-eqb u.edge.event e u.event i && (ap (λ q. same_role q receiving) u.role) i)

  without : is_channel (system_of_net n) e ≡ false → (k : ℕ) (a : NetAuto) → slice_get n.autos k ≡ Some a → (has_edge sending e (automaton_in n a) ≡ false) × (has_edge receiving e (automaton_in n a) ≡ false)
  without c k a g =
      (no-use sending k a g (λ u. sends-none sending a u (not-along c) refl), no-use receiving k a g (λ u. sends-none receiving a u (not-along c) refl))

  pub one-role-each : HasOneRole (system_of_net n) e
  one-role-each = record {
    syncs_alone = λ k a g sy. let b = map-at (automaton_in n) n.autos k a g in
        subst (λ x. (has_edge sending e x ≡ false) × (has_edge receiving e x ≡ false)) (sym b.2) (alone k b.0 b.1 (subst (λ (x : Automaton). x.synchronises e ≡ true) b.2 sy));
    sends_alone = λ k a g h. let b = map-at (automaton_in n) n.autos k a g in
        subst (λ x. has_edge receiving e x ≡ false) (sym b.2) (apart k b.0 b.1 (subst (λ x. has_edge sending e x ≡ true) b.2 h));
    along_channels = λ c k a g. let b = map-at (automaton_in n) n.autos k a g in
        subst (λ x. (has_edge sending e x ≡ false) × (has_edge receiving e x ≡ false)) (sym b.2) (without c k b.0 b.1);
  }

pub nets-tell-why : (n : Net) (s : State) (e : ℕ) → is_net n ≡ true → reasons_of (system_of_net n) (told_of_net n) s e ≡ [] → (next : State) × (first_step (system_of_net n) s e ≡ Some next)
nets-tell-why n s e h none = no-reason (variable_path_in n) (system_of_net n) (told_of_net n) s e (one-role-each n h e) (nets-tell n h) none
