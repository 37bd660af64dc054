-- The choices of an event in the table of the choices of all events.
use Rattle.std.proofs.Common.{◌≡◌, ℕ, zero, suc, ◌+◌, ◌<◌, ◌≤◌, Bool, true, false, cond, nat_eq, List, [], ◌∷◌, ◌++◌, map, filter, length, flat_map, Some, refl, sym, ap, ◌∙◌, arith, eqb-true}
use Rattle.std.specs.Prelude.{slice_get}
use Rattle.std.specs.List.{AllByRecursion, range_with_len}
use Rattle.std.proofs.lemmas.List.{append-nil}
use Rattle.std.proofs.lemmas.Bool.Decides.{nat_tests}
use Rattle.cif_system.specs.System.{System}
use Rattle.cif_system.specs.Step.{Choice}
use Rattle.cif_system.specs.Choices.{choices}
use Rattle.cif_net_model.specs.Net.{Net}
use Rattle.cif_net_model.specs.Meaning.{system_of_net}
use Rattle.cif_net_model.specs.Listing.{NetChoice, full_choice, full_choices, listed}
use Rattle.plc_frame.specs.Events.{choices_of}

-- ---- lists

pub all-of : {A : Type 0} (P : A → Type 0) (xs : List A) → ((k : ℕ) (x : A) → slice_get xs k ≡ Some x → P x) → AllByRecursion P xs
all-of P [] h = tt
all-of P (x ∷ xs) h = (h 0 x refl, all-of P xs (λ k y e. h (suc k) y e))

pub all-filter : {A : Type 0} (P : A → Type 0) (f : A → Bool) (xs : List A) → AllByRecursion P xs → AllByRecursion P (filter f xs)
all-filter P f [] h = tt
all-filter P f (x ∷ xs) h = go (f x) (all-filter P f xs h.1)
  where
    go : (b : Bool) → AllByRecursion P (filter f xs) → AllByRecursion P (cond b (x ∷ filter f xs) (filter f xs))
    go true rest = (h.0, rest)
    go false rest = rest

filter-map : {A B : Type 0} (f : A → B) (p : B → Bool) (xs : List A) → map f (filter (λ x. p (f x)) xs) ≡ filter p (map f xs)
filter-map f p [] = refl
filter-map f p (x ∷ xs) = go (p (f x)) (filter-map f p xs)
  where
    go : (b : Bool) → map f (filter (λ y. p (f y)) xs) ≡ filter p (map f xs)
        → map f (cond b (x ∷ filter (λ y. p (f y)) xs) (filter (λ y. p (f y)) xs)) ≡ cond b (f x ∷ filter p (map f xs)) (filter p (map f xs))
    go true e = ap (λ r. f x ∷ r) e
    go false e = e

pub filter-append : {A : Type 0} (p : A → Bool) (xs ys : List A) → filter p (xs ++ ys) ≡ filter p xs ++ filter p ys
filter-append p [] ys = refl
filter-append p (x ∷ xs) ys = go (p x) (filter-append p xs ys)
  where
    go : (b : Bool) → filter p (xs ++ ys) ≡ filter p xs ++ filter p ys → cond b (x ∷ filter p (xs ++ ys)) (filter p (xs ++ ys)) ≡ cond b (x ∷ filter p xs) (filter p xs) ++ filter p ys
    go true e = ap (λ r. x ∷ r) e
    go false e = e

map-map : {A B D : Type 0} (f : A → B) (g : B → D) (xs : List A) → map g (map f xs) ≡ map (λ x. g (f x)) xs
map-map f g [] = refl
map-map f g (x ∷ xs) = ap (λ r. g (f x) ∷ r) (map-map f g xs)

-- ---- pairs of an event and a choice

abbrev with_event : ℕ → Choice → ℕ × Choice
with_event e ch = (e, ch)

abbrev is_of_event : ℕ → ℕ × Choice → Bool
is_of_event e x = nat_eq x.0 e

pairs-in : (e i : ℕ) (chs : List Choice) → nat_eq i e ≡ true → filter (is_of_event e) (map (with_event i) chs) ≡ map (with_event i) chs
pairs-in e i [] h = refl
pairs-in e i (ch ∷ chs) h = rw h (ap (λ r. with_event i ch ∷ r) (pairs-in e i chs h))

pairs-out : (e i : ℕ) (chs : List Choice) → nat_eq i e ≡ false → filter (is_of_event e) (map (with_event i) chs) ≡ []
pairs-out e i [] h = refl
pairs-out e i (ch ∷ chs) h = rw h (pairs-out e i chs h)

module _ (f : ℕ → List Choice) (e : ℕ) where
  abbrev pairs : ℕ → List (ℕ × Choice)
  pairs i = map (with_event i) (f i)

  events-above : (k len : ℕ) → e < k → filter (is_of_event e) (flat_map pairs (range_with_len k len)) ≡ []
  events-above k zero h = refl
  events-above k (suc len) h =
      let apart : nat_eq k e ≡ false = grind (arith, nat_tests) in
      filter-append (is_of_event e) (pairs k) (flat_map pairs (range_with_len (k + 1) len))
      ∙ ap (λ r. r ++ filter (is_of_event e) (flat_map pairs (range_with_len (k + 1) len))) (pairs-out e k (f k) apart)
      ∙ events-above (k + 1) len (omega (arith, h))

  events-in : (k len : ℕ) → k ≤ e → e < k + len → filter (is_of_event e) (flat_map pairs (range_with_len k len)) ≡ pairs e
  events-in k zero h g = absurd (omega (arith, h, g))
  events-in k (suc len) h g =
      filter-append (is_of_event e) (pairs k) (flat_map pairs (range_with_len (k + 1) len))
      ∙ go (nat_eq k e) refl (λ apart. events-in (k + 1) len (omega (arith, apart)) (omega (arith, g)))
    where
      go : (b : Bool) → nat_eq k e ≡ b → (k < e → filter (is_of_event e) (flat_map pairs (range_with_len (k + 1) len)) ≡ pairs e)
          → filter (is_of_event e) (pairs k) ++ filter (is_of_event e) (flat_map pairs (range_with_len (k + 1) len)) ≡ pairs e
      go true is rest =
          let same : k ≡ e = eqb-true k e is in
          ap (λ r. r ++ filter (is_of_event e) (flat_map pairs (range_with_len (k + 1) len))) (pairs-in e k (f k) is)
          ∙ ap (λ r. pairs k ++ r) (events-above (k + 1) len (omega (arith, same)))
          ∙ append-nil (pairs k) ∙ ap pairs same
      go false is rest =
          let apart : k < e = grind (arith, nat_tests, h) in
          ap (λ r. r ++ filter (is_of_event e) (flat_map pairs (range_with_len (k + 1) len))) (pairs-out e k (f k) is) ∙ rest apart

seconds : (e : ℕ) (chs : List Choice) → map (λ (x : ℕ × Choice). x.1) (map (with_event e) chs) ≡ chs
seconds e [] = refl
seconds e (ch ∷ chs) = ap (λ r. ch ∷ r) (seconds e chs)

-- what the system does in a choice of the table
abbrev pub choice_in : Net → NetChoice → Choice
choice_in n c = (full_choice n c).1

-- the choices of an event in the table are the system's
pub choices-are : (n : Net) (cs : List NetChoice) (e : ℕ) → full_choices n cs ≡ listed (system_of_net n) → e < length (system_of_net n).events
    → map (choice_in n) (choices_of cs e) ≡ choices (system_of_net n) e
choices-are n cs e each within =
    let m : System = system_of_net n in
    sym (map-map (full_choice n) (λ x. x.1) (choices_of cs e))
    ∙ ap (map (λ (x : ℕ × Choice). x.1)) (filter-map (full_choice n) (is_of_event e) cs ∙ ap (filter (is_of_event e)) each ∙ events-in (choices m) e 0 (length m.events) (omega arith) (omega (arith, within)))
    ∙ seconds e (choices m e)
