-- The choices that code lists for a channel, and those of all events.
use Rattle.std.proofs.Common.{◌≡◌, ℕ, zero, suc, ◌+◌, ◌<◌, ◌≤◌, Bool, true, false, not, ◌||◌, nat_eq, nat_lt, List, [], ◌∷◌, ◌++◌, length, map, filter, flat_map, Option, Some, None, option_map, slice_get, refl, sym, ◌∙◌, ap, if◌then◌else◌, arith}
use Rattle.std.specs.List.{enumerate_from, range_with_len, AllByRecursion}
use Rattle.std.proofs.lemmas.Bool.Decides.{nat_tests}
use Rattle.cif_system.specs.System.{Role, sending, receiving, System}
use Rattle.cif_system.specs.Step.{Choice, Numbered, numbered, has_edge, is_channel, is_channel_of}
use Rattle.cif_system.specs.Choices.{product_of, options_between, having, plain_choices, channel_choices, choices, choice_count, event_numbers, all_choices}
use Rattle.cif_system.proofs.Lists.{map-length}
use Rattle.cif_system.proofs.CountLaws.{flat_map-length, choices-length}
use Rattle.cif_net_model.specs.Net.{NetAuto, NetEvent, NetChan, no_net_chan, void_net_chan, net_chan_of, Net}
use Rattle.cif_net_model.specs.Meaning.{automaton_in, event_in, channel_in, system_of_net}
use Rattle.cif_net_model.specs.Facts.{channel_of}
use Rattle.cif_net_model.specs.Listing.{syncs_on, uses_event, numbers_of, event_roles, roles_of, linear_choice, listed, linear_of}
use Rattle.cif_lin.specs.Cells.{cell_between, with_number, all_at, between, sent_to, sent_all, is_plain, event_choices, choices_from}
use Rattle.cif_lin.proofs.PieceLaws.{map-map, map-spread, spread-map, spread-same}
use Rattle.cif_lin.proofs.EventLaws.{passing, choices_of, has-same, synced-choices, all-between}

-- ---- numbers among others

later-same : {A : Type 0} (p : ℕ × A → Bool) (i k : ℕ) (xs : List A) → i < k → passing (λ x. nat_eq x.0 i || p x) k xs ≡ passing p k xs
later-same p i k [] l = refl
later-same p i k (x ∷ xs) l =
    let t : nat_eq k i ≡ false = grind (arith, nat_tests) in
    ap (λ b. map (λ y. y.0) (if b || p (k, x) then (k, x) ∷ filter (λ y. nat_eq y.0 i || p y) (enumerate_from (k + 1) xs) else filter (λ y. nat_eq y.0 i || p y) (enumerate_from (k + 1) xs))) t
    ∙ by (p (k, x)) (later-same p i (k + 1) xs (omega arith))
  where
    by : (t : Bool) → passing (λ y. nat_eq y.0 i || p y) (k + 1) xs ≡ passing p (k + 1) xs
        → map (λ y. y.0) (if t then (k, x) ∷ filter (λ y. nat_eq y.0 i || p y) (enumerate_from (k + 1) xs) else filter (λ y. nat_eq y.0 i || p y) (enumerate_from (k + 1) xs))
        ≡ map (λ y. y.0) (if t then (k, x) ∷ filter p (enumerate_from (k + 1) xs) else filter p (enumerate_from (k + 1) xs))
    by true r = ap (λ ys. k ∷ ys) r
    by false r = r

first-of : {A : Type 0} (p : ℕ × A → Bool) (i k : ℕ) (xs : List A) → i < k → with_number i (passing p k xs) ≡ i ∷ passing p k xs
first-of p i k [] l = refl
first-of p i k (x ∷ xs) l = by (p (k, x)) (first-of p i (k + 1) xs (omega arith))
  where
    by : (t : Bool) → with_number i (passing p (k + 1) xs) ≡ i ∷ passing p (k + 1) xs
        → with_number i (map (λ y. y.0) (if t then (k, x) ∷ filter p (enumerate_from (k + 1) xs) else filter p (enumerate_from (k + 1) xs)))
        ≡ i ∷ map (λ y. y.0) (if t then (k, x) ∷ filter p (enumerate_from (k + 1) xs) else filter p (enumerate_from (k + 1) xs))
    by true r =
        let a : nat_lt k i ≡ false = grind (arith, nat_tests) in
        let b : nat_eq k i ≡ false = grind (arith, nat_tests) in
        ap (λ t. if t then k ∷ with_number i (passing p (k + 1) xs) else (if nat_eq k i then k ∷ passing p (k + 1) xs else i ∷ k ∷ passing p (k + 1) xs)) a
        ∙ ap (λ t. if t then k ∷ passing p (k + 1) xs else i ∷ k ∷ passing p (k + 1) xs) b
    by false r = r

pub numbered-with : {A : Type 0} (p : ℕ × A → Bool) (i k : ℕ) (xs : List A) → k ≤ i → i < k + length xs → with_number i (passing p k xs) ≡ passing (λ x. nat_eq x.0 i || p x) k xs
numbered-with p i k [] l m = absurd (omega arith)
numbered-with p i k (x ∷ xs) l m = by (nat_eq k i) refl (p (k, x)) (λ o. numbered-with p i (k + 1) xs o (omega arith))
  where
    by : (b : Bool) → nat_eq k i ≡ b → (c : Bool)
        → (k + 1 ≤ i → with_number i (passing p (k + 1) xs) ≡ passing (λ y. nat_eq y.0 i || p y) (k + 1) xs)
        → with_number i (map (λ y. y.0) (if c then (k, x) ∷ filter p (enumerate_from (k + 1) xs) else filter p (enumerate_from (k + 1) xs)))
        ≡ map (λ y. y.0) (if b || c then (k, x) ∷ filter (λ y. nat_eq y.0 i || p y) (enumerate_from (k + 1) xs) else filter (λ y. nat_eq y.0 i || p y) (enumerate_from (k + 1) xs))
    by true h true r =
        let e : k ≡ i = grind (arith, nat_tests) in
        let t : nat_lt k i ≡ false = grind (arith, nat_tests) in
        ap (λ t. if t then k ∷ with_number i (passing p (k + 1) xs) else (if nat_eq k i then k ∷ passing p (k + 1) xs else i ∷ k ∷ passing p (k + 1) xs)) t
        ∙ ap (λ t. if t then k ∷ passing p (k + 1) xs else i ∷ k ∷ passing p (k + 1) xs) h
        ∙ ap (λ ys. k ∷ ys) (sym (later-same p i (k + 1) xs (omega arith)))
    by true h false r =
        let e : i ≡ k = grind (arith, nat_tests) in
        first-of p i (k + 1) xs (omega arith) ∙ ap (λ j. j ∷ passing p (k + 1) xs) e ∙ ap (λ ys. k ∷ ys) (sym (later-same p i (k + 1) xs (omega arith)))
    by false h true r =
        let o : k < i = grind (arith, nat_tests) in
        let t : nat_lt k i ≡ true = grind (arith, nat_tests) in
        ap (λ t. if t then k ∷ with_number i (passing p (k + 1) xs) else (if nat_eq k i then k ∷ passing p (k + 1) xs else i ∷ k ∷ passing p (k + 1) xs)) t
        ∙ ap (λ ys. k ∷ ys) (r (omega arith))
    by false h false r = let o : k < i = grind (arith, nat_tests) in r (omega arith)

-- ---- lists of such numbers

passing-below : {A : Type 0} (p : ℕ × A → Bool) (m k : ℕ) (xs : List A) → k + length xs ≤ m → AllByRecursion (λ i. i < m) (passing p k xs)
passing-below p m k [] h = tt
passing-below p m k (x ∷ xs) h = by (p (k, x)) (passing-below p m (k + 1) xs (omega arith))
  where
    by : (t : Bool) → AllByRecursion (λ i. i < m) (passing p (k + 1) xs) → AllByRecursion (λ i. i < m) (map (λ y. y.0) (if t then (k, x) ∷ filter p (enumerate_from (k + 1) xs) else filter p (enumerate_from (k + 1) xs)))
    by true r = (omega arith, r)
    by false r = r

spread-all : {A B : Type 0} (P : A → Type 0) (f g : A → List B) → ((x : A) → P x → f x ≡ g x) → (xs : List A) → AllByRecursion P xs → flat_map f xs ≡ flat_map g xs
spread-all P f g h [] a = refl
spread-all P f g h (x ∷ xs) a = ap (λ ys. ys ++ flat_map f xs) (h x a.0) ∙ ap (λ ys. g x ++ ys) (spread-all P f g h xs a.1)

module _ (n : Net) (e : ℕ) where
  having-from : (p : Role) (k : ℕ) (xs : List NetAuto)
      → map (λ (a : Numbered). a.0) (filter (λ (a : Numbered). has_edge p e a.1) (enumerate_from k (map (automaton_in n) xs))) ≡ passing (λ x. uses_event p e x.1) k xs
  having-from p k [] = refl
  having-from p k (a ∷ xs) =
      ap (λ t. map (λ (b : Numbered). b.0) (if t then (k, automaton_in n a) ∷ filter (λ (b : Numbered). has_edge p e b.1) (enumerate_from (k + 1) (map (automaton_in n) xs)) else filter (λ (b : Numbered). has_edge p e b.1) (enumerate_from (k + 1) (map (automaton_in n) xs)))) (has-same n p e a.edges)
      ∙ by (uses_event p e a) (having-from p (k + 1) xs)
    where
      by : (t : Bool) → map (λ (b : Numbered). b.0) (filter (λ (b : Numbered). has_edge p e b.1) (enumerate_from (k + 1) (map (automaton_in n) xs))) ≡ passing (λ x. uses_event p e x.1) (k + 1) xs
          → map (λ (b : Numbered). b.0) (if t then (k, automaton_in n a) ∷ filter (λ (b : Numbered). has_edge p e b.1) (enumerate_from (k + 1) (map (automaton_in n) xs)) else filter (λ (b : Numbered). has_edge p e b.1) (enumerate_from (k + 1) (map (automaton_in n) xs)))
          ≡ map (λ y. y.0) (if t then (k, a) ∷ filter (λ x. uses_event p e x.1) (enumerate_from (k + 1) xs) else filter (λ x. uses_event p e x.1) (enumerate_from (k + 1) xs))
      by true r = ap (λ ys. k ∷ ys) r
      by false r = r

  having-same : (p : Role) → map (λ (a : Numbered). a.0) (having p (system_of_net n) e) ≡ numbers_of (uses_event p e) n.autos
  having-same p = having-from p 0 n.autos

  -- one sender with one receiver
  abbrev one_pair : ℕ → ℕ → List Choice
  one_pair i j = if nat_eq i j then [] else product_of (map (options_between e i j) (numbered (system_of_net n)))

  pair-choices : (i j : ℕ) → i < length n.autos → j < length n.autos → between n.autos e (event_roles n e) i j ≡ choices_of n e (one_pair i j)
  pair-choices i j l m = ap (λ cs. if nat_eq i j then [] else cs) all ∙ by (nat_eq i j)
    where
      all : all_at n.autos e (map (cell_between n.autos e i j) (with_number i (with_number j (numbers_of (syncs_on e) n.autos)))) ≡ choices_of n e (product_of (map (options_between e i j) (numbered (system_of_net n))))
      all =
          ap (λ ks. all_at n.autos e (map (cell_between n.autos e i j) (with_number i ks))) (numbered-with (λ x. syncs_on e x.1) j 0 n.autos (omega arith) (omega arith))
          ∙ ap (λ ks. all_at n.autos e (map (cell_between n.autos e i j) ks)) (numbered-with (λ x. nat_eq x.0 j || syncs_on e x.1) i 0 n.autos (omega arith) (omega arith))
          ∙ all-between n e i j

      by : (t : Bool) → (if t then [] else choices_of n e (product_of (map (options_between e i j) (numbered (system_of_net n)))))
          ≡ choices_of n e (if t then [] else product_of (map (options_between e i j) (numbered (system_of_net n))))
      by true = refl
      by false = refl

  one-sender : (i : ℕ) → i < length n.autos
      → sent_to n.autos e (event_roles n e) i ≡ choices_of n e (flat_map (λ (j : Numbered). one_pair i j.0) (having receiving (system_of_net n) e))
  one-sender i l =
      spread-all (λ j. j < length n.autos) (between n.autos e (event_roles n e) i) (λ j. choices_of n e (one_pair i j)) (λ j m. pair-choices i j l m)
      (numbers_of (uses_event receiving e) n.autos) (passing-below (λ x. uses_event receiving e x.1) (length n.autos) 0 n.autos (omega arith))
      ∙ ap (flat_map (λ j. choices_of n e (one_pair i j))) (sym (having-same receiving))
      ∙ spread-map (λ j. choices_of n e (one_pair i j)) (λ (a : Numbered). a.0) (having receiving (system_of_net n) e)
      ∙ sym (map-spread (λ ch. linear_choice n (e, ch)) (λ (j : Numbered). one_pair i j.0) (having receiving (system_of_net n) e))

  pub sent-choices : sent_all n.autos e (event_roles n e) ≡ choices_of n e (channel_choices (system_of_net n) e)
  sent-choices =
      spread-all (λ i. i < length n.autos) (sent_to n.autos e (event_roles n e)) (λ i. choices_of n e (flat_map (λ (j : Numbered). one_pair i j.0) (having receiving (system_of_net n) e))) one-sender
      (numbers_of (uses_event sending e) n.autos) (passing-below (λ x. uses_event sending e x.1) (length n.autos) 0 n.autos (omega arith))
      ∙ ap (flat_map (λ i. choices_of n e (flat_map (λ (j : Numbered). one_pair i j.0) (having receiving (system_of_net n) e)))) (sym (having-same sending))
      ∙ spread-map (λ i. choices_of n e (flat_map (λ (j : Numbered). one_pair i j.0) (having receiving (system_of_net n) e))) (λ (a : Numbered). a.0) (having sending (system_of_net n) e)
      ∙ sym (map-spread (λ ch. linear_choice n (e, ch)) (λ (i : Numbered). flat_map (λ (j : Numbered). one_pair i.0 j.0) (having receiving (system_of_net n) e)) (having sending (system_of_net n) e))

  -- ---- an event

  get-events : (xs : List NetEvent) (k : ℕ) → slice_get (map event_in xs) k ≡ option_map event_in (slice_get xs k)
  get-events [] k = refl
  get-events (x ∷ xs) zero = refl
  get-events (x ∷ xs) (suc k) = get-events xs k

  is-channel : is_channel (system_of_net n) e ≡ not (is_plain (channel_of n e))
  is-channel = ap is_channel_of (get-events n.events e) ∙ by (slice_get n.events e)
    where
      chan : (x : NetEvent) (c : NetChan) → x.chan ≡ c → is_channel_of (Some (event_in x)) ≡ not (is_plain c)
      chan x c h = ap (λ d. is_channel_of (Some (record { class = x.class; channel = channel_in d }))) h ∙ each c
        where
          each : (c : NetChan) → is_channel_of (Some (record { class = x.class; channel = channel_in c })) ≡ not (is_plain c)
          each no_net_chan = refl
          each void_net_chan = refl
          each (net_chan_of t) = refl

      by : (o : Option NetEvent) → is_channel_of (option_map event_in o) ≡ not (is_plain (elim o [ None ↦ no_net_chan | Some x ↦ x.chan ]))
      by None = refl
      by (Some x) = chan x x.chan refl

  pub event-made : event_choices n e (event_roles n e) ≡ choices_of n e (choices (system_of_net n) e)
  event-made =
      ap (λ cs. if is_plain (channel_of n e) then cs else sent_all n.autos e (event_roles n e)) (synced-choices n e)
      ∙ ap (λ cs. if is_plain (channel_of n e) then choices_of n e (plain_choices (system_of_net n) e) else cs) sent-choices
      ∙ by (is_plain (channel_of n e))
      ∙ ap (λ t. choices_of n e (if t then channel_choices (system_of_net n) e else plain_choices (system_of_net n) e)) (sym is-channel)
    where
      by : (t : Bool) → (if t then choices_of n e (plain_choices (system_of_net n) e) else choices_of n e (channel_choices (system_of_net n) e))
          ≡ choices_of n e (if not t then channel_choices (system_of_net n) e else plain_choices (system_of_net n) e)
      by true = refl
      by false = refl

-- ---- all events

from-event : (n : Net) (i m : ℕ) → choices_from n i (map (event_roles n) (range_with_len i m)) ≡ flat_map (λ e. choices_of n e (choices (system_of_net n) e)) (range_with_len i m)
from-event n i zero = refl
from-event n i (suc m) =
    ap (λ cs. cs ++ choices_from n (i + 1) (map (event_roles n) (range_with_len (i + 1) m))) (event-made n i)
    ∙ ap (λ cs. choices_of n i (choices (system_of_net n) i) ++ cs) (from-event n (i + 1) m)

pub linear-made : (n : Net) → choices_from n 0 (roles_of n) ≡ linear_of n
linear-made n =
    let m : System = system_of_net n in
    ap (λ k. choices_from n 0 (map (event_roles n) (range_with_len 0 k))) (sym (map-length event_in n.events))
    ∙ from-event n 0 (length (map event_in n.events))
    ∙ spread-same (λ e. choices_of n e (choices m e)) (λ e. map (linear_choice n) (map (λ ch. (e, ch)) (choices m e))) (λ e. sym (map-map (linear_choice n) (λ ch. (e, ch)) (choices m e))) (event_numbers m)
    ∙ sym (map-spread (linear_choice n) (λ e. map (λ ch. (e, ch)) (choices m e)) (event_numbers m))

-- as many as are counted
pub linear-count : (n : Net) → length (linear_of n) ≡ all_choices (system_of_net n)
linear-count n =
    let m : System = system_of_net n in
    map-length (linear_choice n) (listed m)
    ∙ flat_map-length (λ e. map (λ ch. (e, ch)) (choices m e)) (choice_count m) (λ e. map-length (λ ch. (e, ch)) (choices m e) ∙ choices-length m e) (event_numbers m)
