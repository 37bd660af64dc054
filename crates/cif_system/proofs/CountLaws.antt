-- The choices for an event are as many as are counted.
use Rattle.std.proofs.Common.{◌≡◌, ℕ, ◌*◌, true, false, List, [], ◌∷◌, length, map, refl, ◌∙◌, ap, arith, length-append}
use Rattle.std.specs.Prelude.{flat_map, sum, nat_eq, if◌then◌else◌}
use Rattle.std.specs.List.{list_any}
use Rattle.std.proofs.lemmas.List.Sums.{sum-map, sum_by-cons}
use Rattle.std.proofs.Math.Nat.{suc-mul}
use Rattle.cif_system.specs.System.{Automaton, System, sending, receiving}
use Rattle.cif_system.specs.Step.{Numbered, numbered, is_channel, is_party}
use Rattle.cif_system.specs.Choices.{product_of, product_by, options, options_between, having, plain_choices, plain_count, channel_choices, channel_count, choices, choice_count}
use Rattle.cif_system.proofs.Lists.{map-length}

-- one of xs before each of rest
pub prepended-length : {A : Type 0} → (xs : List A) → (rest : List (List A)) → length (flat_map (λ x. map (λ ys. x ∷ ys) rest) xs) ≡ length xs * length rest
prepended-length [] rest = omega arith
prepended-length (x ∷ xs) rest =
    omega
    (arith, length-append (map (λ ys. x ∷ ys) rest) (flat_map (λ y. map (λ ys. y ∷ ys) rest) xs), map-length (λ ys. x ∷ ys) rest, prepended-length xs rest, suc-mul (length xs) (length rest))

-- as many as the product of the lengths
pub product_of-length : {A B : Type 0} → (f : A → List B) → (xs : List A) → length (product_of (map f xs)) ≡ product_by (λ x. length (f x)) xs
product_of-length f [] = refl
product_of-length f (x ∷ xs) = prepended-length (f x) (product_of (map f xs)) ∙ ap (λ n. length (f x) * n) (product_of-length f xs)

-- a list that is made of parts is as long as they are together
pub flat_map-length : {A B : Type 0} → (f : A → List B) → (g : A → ℕ) → ((x : A) → length (f x) ≡ g x) → (xs : List A) → length (flat_map f xs) ≡ sum (map g xs)
flat_map-length f g h [] = refl
flat_map-length f g h (x ∷ xs) =
    omega (arith, length-append (f x) (flat_map f xs), h x, flat_map-length f g h xs, sum-map g (x ∷ xs), sum_by-cons g x xs, sum-map g xs)

pub plain_choices-length : (m : System) (e : ℕ) → length (plain_choices m e) ≡ plain_count m e
plain_choices-length m e =
    elim (list_any (is_party e) m.automata) as (λ b. length (if b then product_of (map (options e) m.automata) else []) ≡ (if b then product_by (λ (a : Automaton). length (options e a)) m.automata else 0)) [
      | true ↦ product_of-length (options e) m.automata
      | false ↦ refl
    ]

pub channel_choices-length : (m : System) (e : ℕ) → length (channel_choices m e) ≡ channel_count m e
channel_choices-length m e =
    flat_map-length
    (λ (i : Numbered). flat_map (λ (j : Numbered). if nat_eq i.0 j.0 then [] else product_of (map (options_between e i.0 j.0) (numbered m))) (having receiving m e))
    (λ (i : Numbered). sum (map (λ (j : Numbered). if nat_eq i.0 j.0 then 0 else product_by (λ x. length (options_between e i.0 j.0 x)) (numbered m)) (having receiving m e)))
    (λ i.
    flat_map-length
    (λ (j : Numbered). if nat_eq i.0 j.0 then [] else product_of (map (options_between e i.0 j.0) (numbered m)))
    (λ (j : Numbered). if nat_eq i.0 j.0 then 0 else product_by (λ x. length (options_between e i.0 j.0 x)) (numbered m))
    (between i) (having receiving m e))
    (having sending m e)
  where
    between : (i j : Numbered) → length (if nat_eq i.0 j.0 then [] else product_of (map (options_between e i.0 j.0) (numbered m))) ≡ (if nat_eq i.0 j.0 then 0 else product_by (λ x. length (options_between e i.0 j.0 x)) (numbered m))
    between i j =
        elim (nat_eq i.0 j.0) as (λ b. length (if b then [] else product_of (map (options_between e i.0 j.0) (numbered m))) ≡ (if b then 0 else product_by (λ x. length (options_between e i.0 j.0 x)) (numbered m))) [
          | true ↦ refl
          | false ↦ product_of-length (options_between e i.0 j.0) (numbered m)
        ]

-- the choices are as many as are counted
pub choices-length : (m : System) (e : ℕ) → length (choices m e) ≡ choice_count m e
choices-length m e =
    elim (is_channel m e) as (λ b. length (if b then channel_choices m e else plain_choices m e) ≡ (if b then channel_count m e else plain_count m e)) [
      | true ↦ channel_choices-length m e
      | false ↦ plain_choices-length m e
    ]
