-- Tests that pass, and elements of lists.
use Rattle.std.proofs.Common.{◌≡◌, ◌≢◌, ℕ, suc, ◌≤◌, ◌<◌, Bool, true, false, cond, inl, inr, List, [], ◌∷◌, length, Option, Some, None, refl, sym, ◌∙◌, ap, arith}
use Rattle.std.specs.Prelude.{◌&&◌, ◌||◌, not, nat_eq, nat_le, nat_lt, filter, filter_map}
use Rattle.std.specs.List.{list_any, Contains, cons_option}
use Rattle.std.proofs.lemmas.Bool.Decides.{nat_tests}
use Rattle.cif_system.specs.Words.{Member}
use Rattle.cif_system.proofs.Lists.{false-true}
use Rattle.cif_system.proofs.Picks.{or-cases}
use Rattle.cif_net_model.specs.Facts.{has, are_apart}
use Rattle.cif_inst_model.proofs.RuleLaws.{all-from}

pub both : (a b : Bool) → a ≡ true → b ≡ true → (a && b) ≡ true
both a b h g = ap (λ c. c && b) h ∙ g

pub le-true : (a b : ℕ) → a ≤ b → nat_le a b ≡ true
le-true a b h =
    (elim (nat_le a b) as (λ c. nat_le a b ≡ c → c ≡ true) [
      | true ↦ λ e. refl
      | false ↦ λ e. absurd (let g : b < a = grind (arith, nat_tests) in omega (arith, g, h))
    ]) refl

pub lt-true : (a b : ℕ) → a < b → nat_lt a b ≡ true
lt-true a b h =
    (elim (nat_lt a b) as (λ c. nat_lt a b ≡ c → c ≡ true) [
      | true ↦ λ e. refl
      | false ↦ λ e. absurd (let g : b ≤ a = grind (arith, nat_tests) in omega (arith, g, h))
    ]) refl

pub eq-true : (a b : ℕ) → a ≡ b → nat_eq a b ≡ true
eq-true a b h =
    (elim (nat_eq a b) as (λ c. nat_eq a b ≡ c → c ≡ true) [
      | true ↦ λ e. refl
      | false ↦ λ e. absurd (let g : a ≢ b = grind (arith, nat_tests) in g h)
    ]) refl

pub eq-told : (a b : ℕ) → nat_eq a b ≡ true → a ≡ b
eq-told a b h = grind (arith, nat_tests)

-- what is not true is false
pub false-else : (b : Bool) → (b ≡ true → ⊥) → b ≡ false
false-else true h = absurd (h refl)
false-else false h = refl

pub true-else : (b : Bool) → (b ≡ false → ⊥) → b ≡ true
true-else true h = refl
true-else false h = absurd (h refl)

pub one-any : {A : Type 0} (p : A → Bool) (xs : List A) → length (filter p xs) ≡ 1 → list_any p xs ≡ true
one-any p [] e = absurd (omega (arith, e))
one-any p (x ∷ xs) e =
    (elim (p x) as (λ b. length (cond b (x ∷ filter p xs) (filter p xs)) ≡ 1 → (b || list_any p xs) ≡ true) [
      | true ↦ λ g. refl
      | false ↦ λ g. one-any p xs g
    ]) e

pub any-member : {A : Type 0} (p : A → Bool) (xs : List A) → list_any p xs ≡ true → (x : A) × Member x xs × (p x ≡ true)
any-member p [] h = absurd (false-true refl h)
any-member p (x ∷ xs) h =
    elim (or-cases (p x) (list_any p xs) h) [
      | inl w ↦ (x, inl refl, w)
      | inr w ↦ let rest = any-member p xs w in (rest.0, inr rest.1, rest.2)
    ]

pub contained : {A : Type 0} (xs : List A) (x : A) → Member x xs → Contains xs x
contained [] x m = absurd m
contained (y ∷ ys) x m =
    elim m [
      | inl w ↦ (0, omega arith, sym w)
      | inr w ↦ let rest = contained ys x w in (suc rest.0, omega (arith, rest.1), rest.2)
    ]

-- what is kept of a list comes from an element of it
pub kept-from : {A B : Type 0} (f : A → Option B) (y : B) (xs : List A) → Member y (filter_map f xs) → (x : A) × Member x xs × (f x ≡ Some y)
kept-from f y [] m = absurd m
kept-from {A} f y (x ∷ xs) m =
    (elim (f x) as (λ o. f x ≡ o → Member y (cons_option o (filter_map f xs)) → (z : A) × Member z (x ∷ xs) × (f z ≡ Some y)) [
      | None ↦ λ e k. let r = kept-from f y xs k in (r.0, inr r.1, r.2)
      | Some w ↦ λ e k. elim k [
        | inl g ↦ (x, inl refl, e ∙ ap Some (sym g))
        | inr g ↦ let r = kept-from f y xs g in (r.0, inr r.1, r.2)
      ]
    ]) refl m

-- and no more are kept
pub kept-fewer : {A B : Type 0} (f : A → Option B) (xs : List A) → length (filter_map f xs) ≤ length xs
kept-fewer f [] = omega arith
kept-fewer f (x ∷ xs) =
    (elim (f x) as (λ o. length (cons_option o (filter_map f xs)) ≤ suc (length xs)) [
      | None ↦ omega (arith, kept-fewer f xs)
      | Some y ↦ omega (arith, kept-fewer f xs)
    ])

-- ---- numbers that two lists share

pub has-member : (xs : List ℕ) (x : ℕ) → has xs x ≡ true → Member x xs
has-member [] x h = absurd (false-true refl h)
has-member (y ∷ ys) x h =
    elim (or-cases (nat_eq x y) (list_any (nat_eq x) ys) h) [
      | inl w ↦ inl (eq-told x y w)
      | inr w ↦ inr (has-member ys x w)
    ]

pub apart-none : (xs ys : List ℕ) → ((x : ℕ) → Member x xs → Member x ys → ⊥) → are_apart xs ys ≡ true
apart-none xs ys h = all-from (λ x. not (has ys x)) xs (λ x m. ap not (false-else (has ys x) (λ g. h x m (has-member ys x g))))
