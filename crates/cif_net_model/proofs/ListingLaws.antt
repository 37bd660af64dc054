-- The choices that a table stands for are those of the net.
use Rattle.std.proofs.Common.{◌≡◌, ℕ, zero, suc, ◌+◌, ◌<◌, Bool, true, false, nat_eq, List, [], ◌∷◌, map, length, find, flat_map, filter_map, zip, Some, None, option_and_then, refl, ◌∙◌, ap, if◌then◌else◌, arith}
use Rattle.std.specs.List.{cons_option, list_any, enumerate_from, range_with_len, AllByRecursion}
use Rattle.std.proofs.lemmas.Bool.Decides.{nat_tests}
use Rattle.cif_system.specs.System.{System, sending, receiving}
use Rattle.cif_system.specs.Step.{Choice, Numbered, numbered, is_channel, is_party}
use Rattle.cif_system.specs.Choices.{product_of, options, options_between, having, plain_choices, channel_choices, choices, event_numbers}
use Rattle.cif_system.proofs.Lists.{map-length}
use Rattle.cif_net_model.specs.Net.{NetAuto, Net}
use Rattle.cif_net_model.specs.Meaning.{automaton_in, system_of_net}
use Rattle.cif_net_model.specs.Listing.{NetMove, NetChoice, syncs_on, move_if, edge_in, full_choice, full_choices, listed, linear_choice, guarded_choice, linear_of, guarded_of}
use Rattle.cif_net_model.proofs.PartLaws.{all-append}

-- ---- lists of lists

all-flat_map : {A B : Type 0} (P : B → Type 0) (f : A → List B) (xs : List A) → ((x : A) → AllByRecursion P (f x)) → AllByRecursion P (flat_map f xs)
all-flat_map P f [] h = tt
all-flat_map P f (x ∷ xs) h = all-append P (f x) (flat_map f xs) (h x) (all-flat_map P f xs h)

all-map : {A B : Type 0} (P : A → Type 0) (Q : B → Type 0) (f : A → B) → ((x : A) → P x → Q (f x)) → (xs : List A) → AllByRecursion P xs → AllByRecursion Q (map f xs)
all-map P Q f h [] a = tt
all-map P Q f h (x ∷ xs) a = (h x a.0, all-map P Q f h xs a.1)

all-if : {A : Type 0} (P : A → Type 0) (b : Bool) (xs ys : List A) → AllByRecursion P xs → AllByRecursion P ys → AllByRecursion P (if b then xs else ys)
all-if P true xs ys h k = h
all-if P false xs ys h k = k

product-lengths : {A : Type 0} (xss : List (List A)) (n : ℕ) → length xss ≡ n → AllByRecursion (λ ys. length ys ≡ n) (product_of xss)
product-lengths [] n h = (h, tt)
product-lengths (xs ∷ xss) n h =
    all-flat_map (λ ys. length ys ≡ n) (λ x. map (λ ys. x ∷ ys) (product_of xss)) xs
    (λ x. all-map (λ ys. length ys ≡ length xss) (λ ys. length ys ≡ n) (λ ys. x ∷ ys) (λ ys p. omega (arith, h, p)) (product_of xss) (product-lengths xss (length xss) refl))

enumerated-length : {A : Type 0} (i : ℕ) (xs : List A) → length (enumerate_from i xs) ≡ length xs
enumerated-length i [] = refl
enumerated-length i (x ∷ xs) = omega (arith, enumerated-length (i + 1) xs)

-- each choice is as long as there are automata
choice-lengths : (m : System) (e : ℕ) → AllByRecursion (λ ch. length ch ≡ length m.automata) (choices m e)
choice-lengths m e =
    let P : Choice → Type 0 = λ ch. length ch ≡ length m.automata in
    all-if P (is_channel m e) (channel_choices m e) (plain_choices m e)
    (all-flat_map P (λ (i : Numbered). flat_map (λ (j : Numbered). if nat_eq i.0 j.0 then [] else product_of (map (options_between e i.0 j.0) (numbered m))) (having receiving m e)) (having sending m e)
    (λ i. all-flat_map P (λ (j : Numbered). if nat_eq i.0 j.0 then [] else product_of (map (options_between e i.0 j.0) (numbered m))) (having receiving m e)
    (λ j. all-if P (nat_eq i.0 j.0) [] (product_of (map (options_between e i.0 j.0) (numbered m))) tt
    (product-lengths (map (options_between e i.0 j.0) (numbered m)) (length m.automata) (map-length (options_between e i.0 j.0) (numbered m) ∙ enumerated-length 0 m.automata)))))
    (all-if P (list_any (is_party e) m.automata) (product_of (map (options e) m.automata)) []
    (product-lengths (map (options e) m.automata) (length m.automata) (map-length (options e) m.automata)) tt)

abbrev Long : Net → ℕ × Choice → Type 0
Long n c = length c.1 ≡ length n.autos

listed-lengths : (n : Net) → AllByRecursion (Long n) (listed (system_of_net n))
listed-lengths n =
    let m : System = system_of_net n in
    all-flat_map (Long n) (λ e. map (λ ch. (e, ch)) (choices m e)) (event_numbers m)
    (λ e. all-map (λ ch. length ch ≡ length m.automata) (Long n) (λ ch. (e, ch)) (λ ch p. p ∙ map-length (automaton_in n) n.autos) (choices m e) (choice-lengths m e))

-- ---- moves and full choices

pub same-cons : {A : Type 0} {x y : A} {xs ys : List A} → x ≡ y → xs ≡ ys → x ∷ xs ≡ y ∷ ys
same-cons {y = y} {xs = xs} p q = ap (λ z. z ∷ xs) p ∙ ap (λ zs. y ∷ zs) q

hit : (m : NetMove) (ms : List NetMove) (k : ℕ) → nat_eq m.auto k ≡ true → edge_in (m ∷ ms) k ≡ m.edge
hit m ms k h = ap (λ b. option_and_then (λ (o : NetMove). o.edge) (if b then Some m else find (λ (o : NetMove). nat_eq o.auto k) ms)) h

skip : (m : NetMove) (ms : List NetMove) (k : ℕ) → nat_eq m.auto k ≡ false → edge_in (m ∷ ms) k ≡ edge_in ms k
skip m ms k h = ap (λ b. option_and_then (λ (o : NetMove). o.edge) (if b then Some m else find (λ (o : NetMove). nat_eq o.auto k) ms)) h

skip-range : (m : NetMove) (ms : List NetMove) (j n : ℕ) → m.auto < j → map (edge_in (m ∷ ms)) (range_with_len j n) ≡ map (edge_in ms) (range_with_len j n)
skip-range m ms j zero h = refl
skip-range m ms j (suc n) h =
    let t : nat_eq m.auto j ≡ false = grind (arith, nat_tests) in
    same-cons (skip m ms j t) (skip-range m ms (j + 1) n (omega (arith, h)))

-- the moves of the automata from number i on
abbrev moves_from : ℕ → ℕ → List NetAuto → Choice → List NetMove
moves_from e i autos ch = filter_map (move_if e) (zip (enumerate_from i autos) ch)

-- a party that stays, and what is no party
abbrev staying : Bool → ℕ → List NetMove → List NetMove
staying b i ms = if b then record { auto = i; edge = None } ∷ ms else ms

stays-so : (e i : ℕ) (a : NetAuto) (ds : List NetAuto) (ch : Choice) → moves_from e i (a ∷ ds) (None ∷ ch) ≡ staying (syncs_on e a) i (moves_from e (i + 1) ds ch)
stays-so e i a ds ch = by (syncs_on e a)
  where
    by : (b : Bool) → cons_option (if b then Some (record { auto = i; edge = None }) else None) (moves_from e (i + 1) ds ch) ≡ staying b i (moves_from e (i + 1) ds ch)
    by true = refl
    by false = refl

-- none of them is below i
low : (e i k : ℕ) (ds : List NetAuto) (ch : Choice) → k < i → edge_in (moves_from e i ds ch) k ≡ None
low e i k [] ch h = refl
low e i k (a ∷ ds) [] h = refl
low e i k (a ∷ ds) (Some x ∷ ch) h =
    let t : nat_eq i k ≡ false = grind (arith, nat_tests) in
    skip (record { auto = i; edge = Some x }) (moves_from e (i + 1) ds ch) k t ∙ low e (i + 1) k ds ch (omega (arith, h))
low e i k (a ∷ ds) (None ∷ ch) h = ap (λ ms. edge_in ms k) (stays-so e i a ds ch) ∙ by (syncs_on e a) ∙ low e (i + 1) k ds ch (omega (arith, h))
  where
    by : (b : Bool) → edge_in (staying b i (moves_from e (i + 1) ds ch)) k ≡ edge_in (moves_from e (i + 1) ds ch) k
    by true = let t : nat_eq i k ≡ false = grind (arith, nat_tests) in skip (record { auto = i; edge = None }) (moves_from e (i + 1) ds ch) k t
    by false = refl

-- the moves of a choice stand for it
moves-back : (e i n : ℕ) (ds : List NetAuto) (ch : Choice) → length ds ≡ n → length ch ≡ n → map (edge_in (moves_from e i ds ch)) (range_with_len i n) ≡ ch
moves-back e i zero ds [] h k = refl
moves-back e i zero ds (c ∷ ch) h k = absurd (omega (arith, k))
moves-back e i (suc n) [] ch h k = absurd (omega (arith, h))
moves-back e i (suc n) (a ∷ ds) [] h k = absurd (omega (arith, k))
moves-back e i (suc n) (a ∷ ds) (Some x ∷ ch) h k =
    let m : NetMove = record { auto = i; edge = Some x } in
    let t : nat_eq i i ≡ true = grind (arith, nat_tests) in
    same-cons (hit m (moves_from e (i + 1) ds ch) i t)
    (skip-range m (moves_from e (i + 1) ds ch) (i + 1) n (omega arith) ∙ moves-back e (i + 1) n ds ch (omega (arith, h)) (omega (arith, k)))
moves-back e i (suc n) (a ∷ ds) (None ∷ ch) h k =
    ap (λ ms. map (edge_in ms) (range_with_len i (suc n))) (stays-so e i a ds ch) ∙ by (syncs_on e a) (moves-back e (i + 1) n ds ch (omega (arith, h)) (omega (arith, k)))
  where
    by : (b : Bool) → map (edge_in (moves_from e (i + 1) ds ch)) (range_with_len (i + 1) n) ≡ ch → map (edge_in (staying b i (moves_from e (i + 1) ds ch))) (range_with_len i (suc n)) ≡ None ∷ ch
    by true r =
        let m : NetMove = record { auto = i; edge = None } in
        let t : nat_eq i i ≡ true = grind (arith, nat_tests) in
        same-cons (hit m (moves_from e (i + 1) ds ch) i t) (skip-range m (moves_from e (i + 1) ds ch) (i + 1) n (omega arith) ∙ r)
    by false r = same-cons (low e (i + 1) i ds ch (omega arith)) r

-- a list of such choices stands for the choices that it is made of
back : (n : Net) (f : ℕ × Choice → NetChoice) → ((c : ℕ × Choice) → Long n c → full_choice n (f c) ≡ c) → (cs : List (ℕ × Choice)) → AllByRecursion (Long n) cs → full_choices n (map f cs) ≡ cs
back n f h [] a = refl
back n f h (c ∷ cs) a = same-cons (h c a.0) (back n f h cs a.1)

linear-back : (n : Net) (c : ℕ × Choice) → Long n c → full_choice n (linear_choice n c) ≡ c
linear-back n (e, ch) h = ap (λ xs. (e, xs)) (moves-back e 0 (length n.autos) n.autos ch refl h)

guarded-back : (n : Net) (c : ℕ × Choice) → Long n c → full_choice n (guarded_choice n c) ≡ c
guarded-back n (e, ch) h = ap (λ xs. (e, xs)) (moves-back e 0 (length n.autos) n.autos ch refl h)

pub linear-each : (n : Net) → full_choices n (linear_of n) ≡ listed (system_of_net n)
linear-each n = back n (linear_choice n) (linear-back n) (listed (system_of_net n)) (listed-lengths n)

pub guarded-each : (n : Net) → full_choices n (guarded_of n) ≡ listed (system_of_net n)
guarded-each n = back n (guarded_choice n) (guarded-back n) (listed (system_of_net n)) (listed-lengths n)
