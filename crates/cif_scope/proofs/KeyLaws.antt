-- Places of names among the keys of a set.
use Rattle.std.proofs.Common.{◌≡◌, ℕ, suc, ◌+◌, ◌<◌, Bool, true, false, cond, not, List, [], ◌∷◌, ◌++◌, length, refl, sym, ap, ◌∙◌, arith, Option, Some, None}
use Rattle.std.specs.Prelude.{map, nat_eq, nat_lt, position, option_map}
use Rattle.std.specs.List.{list_any, position_or_len}
use Rattle.std.specs.Cmp.Lexicographic.{pointwise}
use Rattle.grammar.proofs.Keys as keys
use Rattle.grammar.proofs.Texts.{same_is, same_flip}
use Rattle.cif_source.specs.Source.{Text}
use Rattle.cif_scope.specs.Places.{slot_in}

abbrev place_by : {A : Type 0} → (A → Bool) → List A → Option ℕ
place_by p [] = None
place_by p (x ∷ xs) = cond (p x) (Some 0) (option_map suc (place_by p xs))

suc-plus : (m n : ℕ) → nat_lt (1 + m) (suc n) ≡ nat_lt m n
suc-plus m n = grind arith

position-place : {A : Type 0} (p : A → Bool) (xs : List A) → position p xs ≡ place_by p xs
position-place p [] = refl
position-place p (x ∷ xs) = go (p x) (position-place p xs)
  where
    far : (m n : ℕ) → cond (nat_lt (1 + m) (suc n)) (Some (1 + m)) None ≡ option_map suc (cond (nat_lt m n) (Some m) None)
    far m n = ap (λ b. cond b (Some (1 + m)) None) (suc-plus m n) ∙ cases (nat_lt m n)
      where
        cases : (b : Bool) → cond b (Some (1 + m)) None ≡ option_map suc (cond b (Some m) None)
        cases true = ap Some (omega arith)
        cases false = refl

    go : (b : Bool) → position p xs ≡ place_by p xs
        → cond (nat_lt (cond (not b) (1 + position_or_len p xs) 0) (suc (length xs))) (Some (cond (not b) (1 + position_or_len p xs) 0)) None ≡ cond b (Some 0) (option_map suc (place_by p xs))
    go true ih = let low : nat_lt 0 (suc (length xs)) ≡ true = grind arith in ap (λ b. cond b (Some 0) None) low
    go false ih = far (position_or_len p xs) (length xs) ∙ ap (option_map suc) ih

text-flip : (x y : Text) → pointwise nat_eq x y ≡ pointwise nat_eq y x
text-flip x y = same_is x y ∙ same_flip x y ∙ sym (same_is y x)

place-slot : (x : Text) (ys : List Text) → place_by (λ y. pointwise nat_eq x y) ys ≡ slot_in ys x
place-slot x [] = refl
place-slot x (y ∷ ys) = ap (λ b. cond b (Some 0) (option_map suc (place_by (λ z. pointwise nat_eq x z) ys))) (text-flip x y) ∙ ap (λ o. cond (pointwise nat_eq y x) (Some 0) (option_map suc o)) (place-slot x ys)

-- a name among keys
none-any : (x : Text) (ys : List Text) → slot_in ys x ≡ None → list_any (λ y. pointwise nat_eq x y) ys ≡ false
none-any x [] h = refl
none-any x (y ∷ ys) h = go (pointwise nat_eq y x) refl h (none-any x ys)
  where
    none-map : (o : Option ℕ) → option_map suc o ≡ None → o ≡ None
    none-map None h = refl
    none-map (Some k) h = absurd cc

    go : (b : Bool) → pointwise nat_eq y x ≡ b → cond b (Some 0) (option_map suc (slot_in ys x)) ≡ None → (slot_in ys x ≡ None → list_any (λ z. pointwise nat_eq x z) ys ≡ false)
        → list_any (λ z. pointwise nat_eq x z) (y ∷ ys) ≡ false
    go true e h ih = absurd cc
    go false e h ih = let f : pointwise nat_eq x y ≡ false = text-flip x y ∙ e in rw f (ih (none-map (slot_in ys x) h))

module _ {K : Type 0} (text : K → Text) where
  pub slot-is : (x : Text) (ks : List K) → position (λ k. pointwise nat_eq x (text k)) ks ≡ slot_in (map text ks) x
  slot-is x ks = keys.found_is text x ks ∙ position-place (λ y. pointwise nat_eq x y) (map text ks) ∙ place-slot x (map text ks)

  pub added-is : (ks : List K) (k : K) (n : List K) → n ≡ cond (list_any (λ j. pointwise nat_eq (text k) (text j)) ks) ks (ks ++ k ∷ []) → slot_in (map text ks) (text k) ≡ None
      → map text n ≡ map text ks ++ text k ∷ []
  added-is ks k n e h = keys.keys_after text ks k n e ∙ ap (λ b. cond b (map text ks) (map text ks ++ text k ∷ [])) (none-any (text k) (map text ks) h)

-- where it is found, it is within the list
pub slot-below : (ys : List Text) (x : Text) (k : ℕ) → slot_in ys x ≡ Some k → k < length ys
slot-below [] x k h = absurd cc
slot-below (y ∷ ys) x k h = go (pointwise nat_eq y x) h (slot-below ys x)
  where
    further : (o : Option ℕ) → option_map suc o ≡ Some k → ((j : ℕ) → o ≡ Some j → j < length ys) → k < length (y ∷ ys)
    further None h ih = absurd cc
    further (Some j) h ih = let less : j < length ys = ih j refl in let f : suc j ≡ k = cc in omega arith

    go : (b : Bool) → cond b (Some 0) (option_map suc (slot_in ys x)) ≡ Some k → ((j : ℕ) → slot_in ys x ≡ Some j → j < length ys) → k < length (y ∷ ys)
    go true h ih = let e : 0 ≡ k = cc in omega arith
    go false h ih = further (slot_in ys x) h ih
