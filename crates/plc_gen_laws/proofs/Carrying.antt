-- Where the test of a choice holds, it sends a value just where its event carries values: then one automaton sends, and its edge
-- has a value to send.
use Rattle.std.proofs.Common.{◌≡◌, ℕ, zero, suc, ◌+◌, ◌≤◌, Bool, true, false, ◌&&◌, List, [], ◌∷◌, map, filter, length, filter_map, zip, Option, Some, None, nat_eq, cond, refl, sym, ap, subst, ◌∙◌, arith, eqb-true}
use Rattle.std.specs.Prelude.{is_some, option_map, slice_get, if◌then◌else◌}
use Rattle.std.specs.List.{cons_option, enumerate_from, list_all}
use Rattle.std.proofs.lemmas.Option.{slice_get-map}
use Rattle.cif_system.specs.System.{Role, State, no_channel, sending, syncing, receiving}
use Rattle.cif_system.specs.Step.{Choice, Move, is_channel, is_channel_of, is_enabled, passes, same_role, takes}
use Rattle.cif_net_expr.specs.Tree.{NetExpr}
use Rattle.cif_net_model.specs.Net.{NetChan, no_net_chan, void_net_chan, net_chan_of, NetAuto, NetEdge, NetEvent, Net}
use Rattle.cif_net_model.specs.Facts.{auto_stands, channel_of, edge_stands, is_net, role_stands}
use Rattle.cif_net_model.specs.Listing.{NetChoice, edge_at, full_choice, sent_by}
use Rattle.cif_net_model.specs.Meaning.{automaton_in, channel_in, edge_meant, event_in, system_of_net, true_in}
use Rattle.cif_net_model.specs.Shown.{channel_type}
use Rattle.cif_net_model.specs.Table.{HasUpdatesOfEdges, agrees_in, carried_type, choice_stands, permitted_in, sent_stands}
use Rattle.cif_net_model.proofs.Passing.{and-left, and-right}
use Rattle.cif_net_model.proofs.PlainLaws.{never}
use Rattle.cif_base.specs.declared.types.Ty.{Ty}
use Rattle.cif_net_laws.proofs.Picked.{autos-stand}
use Rattle.cif_net_laws.proofs.Valuing.{edge-at as edge-stands, edge-role}

-- an edge that sends over a channel for values has one
nothing-sent : (n : Net) (t : Ty) (p : Role) (c : NetChan) (e : Option NetExpr) → same_role sending p ≡ true → role_stands n p c e ≡ true → c ≡ net_chan_of t → e ≡ None → ⊥
nothing-sent n t syncing c e is h chan none = never is
nothing-sent n t receiving c e is h chan none = never is
nothing-sent n t sending c e is h chan none = never (subst (λ o. role_stands n sending (net_chan_of t) o ≡ true) none (subst (λ k. role_stands n sending k e ≡ true) chan h))

-- the event is a channel
is-channel : (t : Ty) (events : List NetEvent) (e : ℕ) → (elim (slice_get events e) [ None ↦ no_net_chan | Some x ↦ x.chan ]) ≡ net_chan_of t → is_channel_of (slice_get (map event_in events) e) ≡ true
is-channel t [] e h = absurd cc
is-channel t (x ∷ events) zero h = ap (λ k. elim (channel_in k) [ no_channel ↦ false | _ ↦ true ]) h
is-channel t (x ∷ events) (suc e) h = is-channel t events e h

module _ (n : Net) (s : State) (e : ℕ) (t : Ty) (chan : channel_of n e ≡ net_chan_of t) where
  -- the edge that is taken, by the net
  abbrev rest_edges : List NetAuto → Choice → List NetEdge
  rest_edges ds ch = filter_map edge_at (zip ds ch)

  abbrev rest_moves : ℕ → List NetAuto → Choice → List Move
  rest_moves k ds ch = zip (enumerate_from k (map (automaton_in n) ds)) ch

  -- the first automaton, which takes its edge y, and those that send behind it
  module _ (k : ℕ) (a : NetAuto) (ds : List NetAuto) (y : ℕ) (ch : Choice) (stand : auto_stands n a ≡ true)
      (rest : 1 ≤ length (filter (takes sending e s) (rest_moves (k + 1) ds ch)) → is_some (sent_by (rest_edges ds ch)) ≡ true) where
    abbrev senders : Bool → List Move
    senders b = cond b (((k, automaton_in n a), Some y) ∷ filter (takes sending e s) (rest_moves (k + 1) ds ch)) (filter (takes sending e s) (rest_moves (k + 1) ds ch))

    -- one that has no value does not send
    unsent : (x : NetEdge) → slice_get a.edges y ≡ Some x → x.sent ≡ None → (b : Bool) → is_enabled sending e s (k, automaton_in n a) (edge_meant n x) ≡ b
        → 1 ≤ length (senders b) → is_some (sent_by (rest_edges ds ch)) ≡ true
    unsent x at none true is some =
        let for_it = and-left _ _ (and-left _ _ is) in
        absurd
        (nothing-sent n t x.role (channel_of n x.event) x.sent (and-left _ _ for_it) (edge-role n a x (edge-stands n a y x stand at))
        (ap (channel_of n) (eqb-true x.event e (and-right _ _ for_it)) ∙ chan) none)
    unsent x at none false is some = rest some

    value-sent : (x : NetEdge) → slice_get a.edges y ≡ Some x → (v : Option NetExpr) → x.sent ≡ v → 1 ≤ length (senders (is_enabled sending e s (k, automaton_in n a) (edge_meant n x)))
        → is_some (elim v [ Some d ↦ Some d | None ↦ sent_by (rest_edges ds ch) ]) ≡ true
    value-sent x at (Some d) is some = refl
    value-sent x at None is some = unsent x at is (is_enabled sending e s (k, automaton_in n a) (edge_meant n x)) refl some

    first-sent : (o : Option NetEdge) → slice_get a.edges y ≡ o → 1 ≤ length (senders (passes (is_enabled sending e s (k, automaton_in n a)) (option_map (edge_meant n) o)))
        → is_some (sent_by (cons_option o (rest_edges ds ch))) ≡ true
    first-sent None at some = rest some
    first-sent (Some x) at some = value-sent x at x.sent refl some

  -- where one automaton sends, there is a value
  sends-some : (k : ℕ) (ds : List NetAuto) (ch : Choice) → list_all (auto_stands n) ds ≡ true → 1 ≤ length (filter (takes sending e s) (rest_moves k ds ch)) → is_some (sent_by (rest_edges ds ch)) ≡ true
  sends-some k [] ch stand some = absurd (omega (arith, some))
  sends-some k (a ∷ ds) [] stand some = absurd (omega (arith, some))
  sends-some k (a ∷ ds) (None ∷ ch) stand some = sends-some (k + 1) ds ch (and-right _ _ stand) some
  sends-some k (a ∷ ds) (Some y ∷ ch) stand some =
      let rest = sends-some (k + 1) ds ch (and-right _ _ stand) in
      first-sent k a ds y ch (and-left _ _ stand) rest (slice_get a.edges y) refl
      (subst (λ o. 1 ≤ length (senders k a ds y ch (and-left _ _ stand) rest (passes (is_enabled sending e s (k, automaton_in n a)) o))) (slice_get-map (edge_meant n) a.edges y) some)

unsent-none : (n : Net) (e : Option NetExpr) → sent_stands n None e ≡ true → is_some e ≡ false
unsent-none n None h = refl
unsent-none n (Some e) h = never h

module _ (n : Net) (c : NetChoice) (s : State) (net : is_net n ≡ true) (stands : choice_stands n c ≡ true) (written : HasUpdatesOfEdges n c)
    (tests : true_in n s c.test ≡ (agrees_in n s c && permitted_in n s c)) (test : true_in n s c.test ≡ true) where
  sent : sent_stands n (carried_type n c) c.sent ≡ true
  sent = and-right _ _ (and-left _ _ (and-left _ _ (and-left _ _ stands)))

  agree : agrees_in n s c ≡ true
  agree = and-left _ _ (sym tests ∙ test)

  by-channel : (k : NetChan) → channel_of n c.event ≡ k → is_some c.sent ≡ is_some (carried_type n c)
  by-channel no_net_chan chan = unsent-none n c.sent (subst (λ k. sent_stands n (channel_type k) c.sent ≡ true) chan sent) ∙ sym (ap (λ k. is_some (channel_type k)) chan)
  by-channel void_net_chan chan = unsent-none n c.sent (subst (λ k. sent_stands n (channel_type k) c.sent ≡ true) chan sent) ∙ sym (ap (λ k. is_some (channel_type k)) chan)
  by-channel (net_chan_of t) chan =
      let one : length (filter (takes sending c.event s) (rest_moves n s c.event t chan 0 n.autos (full_choice n c).1)) ≡ 1 =
      eqb-true _ _ (and-right _ _ (and-left _ _ agree)) ∙ ap (λ b. if b then 1 else 0) (is-channel t n.events c.event chan) in
      ap is_some written.0 ∙ sends-some n s c.event t chan 0 n.autos (full_choice n c).1 (autos-stand n net) (omega (arith, one)) ∙ sym (ap (λ k. is_some (channel_type k)) chan)

  pub sends-carried : is_some c.sent ≡ is_some (carried_type n c)
  sends-carried = by-channel (channel_of n c.event) refl
