-- Each event of a made source has one choice at most, and a class.
use Rattle.std.proofs.Common.{◌≡◌, ℕ, zero, suc, ◌*◌, ◌≤◌, ◌<◌, ◌^◌, Bool, true, false, ◌&&◌, ◌||◌, List, [], ◌∷◌, ◌++◌, Option, Some, None, length, refl, sym, ap, subst, ◌∙◌, arith}
use Rattle.std.specs.Prelude.{map, flat_map, nat_eq, if◌then◌else◌}
use Rattle.std.specs.List.{AllByRecursion, cons_option, slice_get, list_any}
use Rattle.std.proofs.lemmas.List.{length-map}
use Rattle.std.proofs.lemmas.List.Sums.{sum-map}
use Rattle.std.proofs.lemmas.List.FromFn.{length-range_with_len}
use Rattle.std.proofs.lemmas.Bool.Decides.{nat_tests}
use Rattle.cif_system.specs.System.{Automaton, Event, System, no_channel, plain}
use Rattle.cif_system.specs.Step.{is_number, is_channel_of, same_class, has_class, is_of, is_party}
use Rattle.cif_system.specs.Choices.{stay, options, product_by, choice_count, all_choices, event_numbers}
use Rattle.cif_source.specs.Objects.{events}
use Rattle.cif_source.specs.Step.{event_for, automaton_for, system_of}
use Rattle.cif_net_model.specs.Counts.{most_choices}
use Rattle.cif_inst_model.specs.NetRules.{TooManyChoicesDue, UnclassedDue}
use Rattle.cif_maker.specs.Draws.{numbers_below}
use Rattle.cif_maker_laws.proofs.Bodies.{not_true, each_of_all, made, plant_of}
use Rattle.cif_maker_laws.proofs.Lookups.{IsShort}
use Rattle.cif_maker_laws.proofs.Names.{each_in_range}
use Rattle.cif_maker_laws.proofs.MadeComponents.{made_automata}
use Rattle.cif_maker_laws.proofs.MadeDeclarations.{map_flat, event_pair, made_events}
use Rattle.cif_maker_laws.proofs.EventNumbers.{u_number, c_number, numbers_apart, u_event, c_event, u_denoted, c_denoted}
use Rattle.cif_maker_laws.proofs.MadeSums.{total, summed, total_less, each_alike}

-- ---- products

small_times : (a b : ℕ) → a ≤ 1 → b ≤ 1 → a * b ≤ 1
small_times zero b h l = omega arith
small_times (suc zero) b h l = omega arith
small_times (suc (suc a)) b h l = absurd (omega arith)

product_few : {A : Type 0} (f : A → ℕ) (xs : List A) → AllByRecursion (λ x. f x ≤ 1) xs → product_by f xs ≤ 1
product_few f [] h = omega arith
product_few f (x ∷ xs) h = small_times (f x) (product_by f xs) h.0 (product_few f xs h.1)

-- ---- what a plant may do for an event

-- of two edges, of which no event has both
pub few_options : (s x y : Bool) → (x ≡ true → y ≡ true → ⊥)
    → length (if s then cons_option (if x then Some (Some 0) else None) (cons_option (if y then Some (Some 1) else None) []) ++ stay (s && false) else None ∷ []) ≤ 1
few_options false x y h = omega arith
few_options true true true h = absurd (h refl refl)
few_options true true false h = omega arith
few_options true false true h = omega arith
few_options true false false h = omega arith

pub is_own : (e n : ℕ) (o : Option ℕ) → o ≡ Some n → is_number e o ≡ true → n ≡ e
is_own e n o h g = go n e (sym (ap (is_number e) h) ∙ g)
  where
    go : (n e : ℕ) → nat_eq n e ≡ true → n ≡ e
    go n e h = grind (arith, nat_tests)

-- ---- events

no_plain : (es : List Event) → AllByRecursion (λ (e : Event). same_class plain e.class ≡ false) es → (k : ℕ) → has_class plain (slice_get es k) ≡ false
no_plain [] h k = refl
no_plain (e ∷ es) h zero = h.0
no_plain (e ∷ es) h (suc k) = no_plain es h.1 k

pub no_channels : (es : List Event) → AllByRecursion (λ (e : Event). e.channel ≡ no_channel) es → (k : ℕ) → is_channel_of (slice_get es k) ≡ false
no_channels [] h k = refl
no_channels (e ∷ es) h zero = ap (λ c. elim c [ no_channel ↦ false | _ ↦ true ]) h.0
no_channels (e ∷ es) h (suc k) = no_channels es h.1 k

module _ (seed size : ℕ) where
  abbrev system : System
  system = system_of (made seed size)

  system_events : system.events ≡ flat_map (λ i. map event_for (event_pair seed size i)) (numbers_below size)
  system_events = ap (map event_for) (made_events seed size) ∙ map_flat event_for (event_pair seed size) (numbers_below size)

  pub each_event : (P : Event → Type 0) → ((i : ℕ) → AllByRecursion P (map event_for (event_pair seed size i))) → AllByRecursion P system.events
  each_event P h = subst (AllByRecursion P) (sym system_events) (each_of_all P (λ i. map event_for (event_pair seed size i)) (numbers_below size) h)

  pub all_classed : (event : ℕ) → UnclassedDue (made seed size) event → ⊥
  all_classed event h = not_true (is_of system plain event) (no_plain system.events (each_event (λ e. same_class plain e.class ≡ false) (λ i. (refl, (refl, tt)))) event) h.0

  plain_events : (e : ℕ) → is_channel_of (slice_get system.events e) ≡ false
  plain_events = no_channels system.events (each_event (λ e. e.channel ≡ no_channel) (λ i. (refl, (refl, tt))))

  pub events_number : length (events (made seed size)) ≡ 2 * size
  events_number =
      let pairs : length (events (made seed size)) ≡ length (flat_map (event_pair seed size) (numbers_below size)) = ap length (made_events seed size) in
      let doubled = two_each (numbers_below size) in
      let counted : length (numbers_below size) ≡ size = length-range_with_len 0 size in
      omega arith
    where
      two_each : (is : List ℕ) → length (flat_map (event_pair seed size) is) ≡ 2 * length is
      two_each [] = refl
      two_each (i ∷ is) = let more = two_each is in omega arith

  events_count : length system.events ≡ 2 * size
  events_count = length-map (events (made seed size)) event_for ∙ events_number

  module _ (short : IsShort size) where
    plant_options : (e i : ℕ) → i < size → length (options e (automaton_for (plant_of seed size i))) ≤ 1
    plant_options e i l =
        let u : Bool = is_number e (u_event seed size i) in
        let c : Bool = is_number e (c_event seed size i) in
        few_options (u || (c || false)) u c
        (λ a b. numbers_apart seed size i l (is_own e (u_number seed size i) (u_event seed size i) (u_denoted seed size short i l) a ∙ sym (is_own e (c_number seed size i) (c_event seed size i) (c_denoted seed size short i l) b)))

    system_automata : system.automata ≡ flat_map (λ i. automaton_for (plant_of seed size i) ∷ []) (numbers_below size)
    system_automata = ap (map automaton_for) (made_automata seed size) ∙ map_flat automaton_for (λ i. plant_of seed size i ∷ []) (numbers_below size)

    few_products : (e : ℕ) → product_by (λ a. length (options e a)) system.automata ≤ 1
    few_products e = product_few (λ a. length (options e a)) system.automata
        (subst (AllByRecursion (λ (a : Automaton). length (options e a) ≤ 1)) (sym system_automata)
        (each_in_range (λ (a : Automaton). length (options e a) ≤ 1) (λ i. automaton_for (plant_of seed size i) ∷ []) 0 size (λ i l. (plant_options e i (omega arith), tt))))

    few_plain : (n : ℕ) (b : Bool) → n ≤ 1 → (if b then n else 0) ≤ 1
    few_plain n true l = l
    few_plain n false l = omega arith

    few_choices : (e : ℕ) → choice_count system e ≤ 1
    few_choices e = rw (plain_events e) (few_plain (product_by (λ a. length (options e a)) system.automata) (list_any (is_party e) system.automata) (few_products e))

    pub not_too_many_choices : (count : ℕ) → size ≤ 2 ^ 13 → TooManyChoicesDue (made seed size) count → ⊥
    not_too_many_choices count l h =
        let sum : all_choices system ≡ total (choice_count system) (event_numbers system) = sum-map (choice_count system) (event_numbers system) ∙ summed (choice_count system) (event_numbers system) in
        let few = total_less (choice_count system) (λ e. 1) (event_numbers system) few_choices in
        let ones = each_alike 1 (event_numbers system) in
        let listed : length (event_numbers system) ≡ length system.events = length-range_with_len 0 (length system.events) in
        let counted : length system.events ≡ 2 * size = events_count in
        let past : most_choices < all_choices system = h.0 in
        omega arith
