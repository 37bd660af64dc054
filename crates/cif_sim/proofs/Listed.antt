-- The choices of a guarded net by the numbers of their events.
use Rattle.std.proofs.Common.{◌≡◌, ℕ, suc, ◌+◌, ◌-◌, ◌<◌, ◌≤◌, inl, inr, List, [], length, map, Some, refl, sym, ap, ◌∙◌, arith}
use Rattle.std.specs.Prelude.{option_map, slice_get}
use Rattle.std.proofs.lemmas.Bool.{cases_lt}
use Rattle.std.proofs.lemmas.Option.{get_or_from_slice_get, slice_get-map}
use Rattle.cif_system.specs.System.{System}
use Rattle.cif_system.specs.Step.{Choice}
use Rattle.cif_system.specs.Choices.{choices}
use Rattle.cif_system.proofs.Lists.{map-length}
use Rattle.cif_net_model.specs.Listing.{full_choice, full_choices}
use Rattle.cif_net_model.specs.Meaning.{event_in, system_of_net}
use Rattle.cif_net.specs.View.{choice_tree, event_tree, net_tree}
use Rattle.cif_net.specs.declared.guarded.Guarded.{Guarded}
use Rattle.cif_net.specs.declared.listing.Choice as listing
use Rattle.cif_eval.specs.Choices.{choice_at}
use Rattle.cif_net.proofs.Kept.{choices-listed}
use Rattle.cif_sim.specs.Starts.{choices_below, items_below}
use Rattle.cif_sim.proofs.Firsts.{get-some}
use Rattle.cif_sim.proofs.Segments.{behind-segment, below-in, length-all, number-in, segments}

module _ (g : Guarded) where
  abbrev pub meant : System
  meant = system_of_net (net_tree g.plain.net)

  abbrev pub all_of : List (ℕ × Choice)
  all_of = full_choices (net_tree g.plain.net) (map choice_tree g.choices)

  pub events-count : length meant.events ≡ length g.plain.net.events
  events-count = map-length event_in (map event_tree g.plain.net.events) ∙ map-length event_tree g.plain.net.events

  pub choices-count : length all_of ≡ length g.choices
  choices-count = map-length (full_choice (net_tree g.plain.net)) (map choice_tree g.choices) ∙ map-length choice_tree g.choices

  -- they are the segments of all events
  pub all-segments : (n : ℕ) → n ≡ length g.plain.net.events → all_of ≡ segments (choices meant) 0 n
  all-segments n is = choices-listed g ∙ ap (segments (choices meant) 0) (events-count ∙ sym is)

  pub event-at : (k : ℕ) (c : listing.Choice) → slice_get g.choices k ≡ Some c → slice_get all_of k ≡ Some (full_choice (net_tree g.plain.net) (choice_tree c))
  event-at k c at =
      slice_get-map (full_choice (net_tree g.plain.net)) (map choice_tree g.choices) k
      ∙ ap (option_map (full_choice (net_tree g.plain.net))) (slice_get-map choice_tree g.choices k ∙ ap (option_map choice_tree) at)

  -- no event begins behind the last choice
  pub below-all : (e : ℕ) → e ≤ length g.plain.net.events → choices_below meant e ≤ length g.choices
  unfolding choices_below
  below-all e h =
      let d : ℕ = length g.plain.net.events - e in
      let is : e + d ≡ length g.plain.net.events = omega (arith, h) in
      omega (arith, below-in (choices meant) e d, ap length (all-segments (e + d) is), choices-count)

  pub below-first : choices_below meant 0 ≡ 0
  unfolding choices_below items_below
  below-first = refl

  pub below-last : choices_below meant (length g.plain.net.events) ≡ length g.choices
  unfolding choices_below
  below-last = sym (length-all (choices meant) (length g.plain.net.events)) ∙ ap length (sym (all-segments (length g.plain.net.events) refl)) ∙ choices-count

  pub below-suc : (e : ℕ) → choices_below meant (suc e) ≡ choices_below meant e + length (choices meant e)
  unfolding choices_below items_below
  below-suc e = refl

  module _ (e : ℕ) (inside : e < length g.plain.net.events) where
    pub rest : ℕ
    rest = length g.plain.net.events - suc e

    pub rest-is : e + suc rest ≡ length g.plain.net.events
    unfolding rest
    rest-is = omega (arith, inside)

    -- the event of a choice among those of event e, and behind them
    pub event-in : (k : ℕ) (c : listing.Choice) → choices_below meant e ≤ k → k < choices_below meant (suc e) → slice_get g.choices k ≡ Some c → c.event ≡ e
    unfolding choices_below items_below
    event-in k c from to at =
        number-in (choices meant) e rest k (full_choice (net_tree g.plain.net) (choice_tree c)) from to (ap (λ xs. slice_get xs k) (sym (all-segments (e + suc rest) rest-is)) ∙ event-at k c at)

    pub event-of : (k : ℕ) → choices_below meant e ≤ k → k < choices_below meant (suc e) → (choice_at g k).0 ≡ e
    event-of k from to =
        let c = get-some g.choices k (omega (arith, to, below-all (suc e) inside)) in
        ap (λ (x : ℕ × Choice). x.0) (get_or_from_slice_get all_of k (full_choice (net_tree g.plain.net) (choice_tree c.0)) (0, []) (event-at k c.0 c.1))
        ∙ event-in k c.0 from to c.1

    pub event-behind : (k : ℕ) (c : listing.Choice) → choices_below meant (suc e) ≤ k → slice_get g.choices k ≡ Some c → e < c.event
    unfolding choices_below
    event-behind k c from at =
        behind-segment (choices meant) e rest k (full_choice (net_tree g.plain.net) (choice_tree c)) from
        (ap (λ xs. slice_get xs k) (sym (all-segments (suc e + rest) (omega (arith, rest-is)))) ∙ event-at k c at)

    -- the choices of event e end where the first one of another event stands
    pub end-is : (from end : ℕ) → from ≡ choices_below meant e → from ≤ end → end ≤ length g.choices
        → ((k : ℕ) (c : listing.Choice) → from ≤ k → k < end → slice_get g.choices k ≡ Some c → c.event ≡ e)
        → ((c : listing.Choice) → slice_get g.choices end ≡ Some c → c.event ≡ e → ⊥) → end ≡ choices_below meant (suc e)
    end-is from end begin up within same other =
        elim (cases_lt end (choices_below meant (suc e))) [
          | inl less ↦
              let c = get-some g.choices end (omega (arith, less, below-all (suc e) inside)) in
              absurd (other c.0 c.1 (event-in end c.0 (omega (arith, begin, up)) less c.1))
          | inr more ↦
              elim (cases_lt (choices_below meant (suc e)) end) [
                | inl less ↦
                    let c = get-some g.choices (choices_below meant (suc e)) (omega (arith, less, within)) in
                    let here : c.0.event ≡ e = same (choices_below meant (suc e)) c.0 (omega (arith, begin, below-suc e)) less c.1 in
                    let behind : e < c.0.event = event-behind (choices_below meant (suc e)) c.0 (omega arith) c.1 in
                    absurd (omega (arith, here, behind))
                | inr least ↦ omega (arith, more, least)
              ]
        ]
