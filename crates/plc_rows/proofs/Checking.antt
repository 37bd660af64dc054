-- What tests of texts, of conditions and of lists tell.
use Rattle.std.proofs.Common.{◌≡◌, ◌<◌, ℕ, zero, suc, Bool, true, false, not, ◌||◌, List, [], ◌∷◌, ◌++◌, length, Some, refl, sym, ap, ◌∙◌, arith}
use Rattle.std.specs.Prelude.{slice_get, slice_set, nat_eq}
use Rattle.std.specs.List.{list_any}
use Rattle.std.specs.Cmp.Lexicographic.{pointwise}
use Rattle.std.proofs.lemmas.Bool.Decides.{nat_tests}
use Rattle.grammar.specs.Pieces.{Text, same}
use Rattle.grammar.proofs.Texts.{same_is, same_self}

pub same_text : (x y : Text) → x ≡ y → same x y ≡ true
same_text x y e = ap (same x) (sym e) ∙ same_self x

pub was_false : (b : Bool) → not b ≡ true → b ≡ false
was_false true e = absurd cc
was_false false e = refl

-- the answer of a comparison of a text with a word
pub told_alike : (b : Bool) (x y w : Text) (a : Bool) → b ≡ pointwise nat_eq x y → y ≡ w → b ≡ a → same x w ≡ a
told_alike b x y w a e is h = ap (same x) (sym is) ∙ sym (same_is x y) ∙ sym e ∙ h

-- the answer of a test for difference
pub told_other : (b : Bool) (x y w : Text) (a : Bool) → b ≡ not (pointwise nat_eq x y) → x ≡ w → b ≡ a → same w y ≡ not a
told_other b x y w a e is h = ap (λ z. same z y) (sym is) ∙ sym (same_is x y) ∙ twice (pointwise nat_eq x y) ∙ ap not (sym e ∙ h)
  where
    twice : (c : Bool) → c ≡ not (not c)
    twice true = refl
    twice false = refl

pub same_numbers : (n : ℕ) → nat_eq n n ≡ true
same_numbers n = grind (arith, nat_tests)

pub other_numbers : (m n : ℕ) → (m ≡ n → ⊥) → nat_eq m n ≡ false
other_numbers m n h = go (nat_eq m n) refl
  where
    go : (b : Bool) → nat_eq m n ≡ b → b ≡ false
    go true e = absurd (h (grind (arith, nat_tests)))
    go false e = refl

-- ---- lists

pub no_front : {A : Type 0} (xs ys : List A) → xs ++ ys ≡ [] → xs ≡ []
no_front [] ys e = refl
no_front (x ∷ xs) ys e = absurd cc

pub no_back : {A : Type 0} (xs ys : List A) → xs ++ ys ≡ [] → ys ≡ []
no_back [] ys e = e
no_back (x ∷ xs) ys e = absurd cc

-- a test that an element passes, and one more element
pub any_more : {A : Type 0} (test : A → Bool) (xs : List A) (x : A) → list_any test (xs ++ x ∷ []) ≡ (list_any test xs || test x)
any_more test [] x = go (test x)
  where
    go : (b : Bool) → (b || false) ≡ (false || b)
    go true = refl
    go false = refl
any_more test (y ∷ xs) x = go (test y) (any_more test xs x)
  where
    go : (b : Bool) → list_any test (xs ++ x ∷ []) ≡ (list_any test xs || test x) → (b || list_any test (xs ++ x ∷ [])) ≡ ((b || list_any test xs) || test x)
    go true e = refl
    go false e = e

pub either_left : (a b : Bool) → a ≡ true → (a || b) ≡ true
either_left true b e = refl
either_left false b e = absurd cc

pub either_right : (a b : Bool) → b ≡ true → (a || b) ≡ true
either_right true b e = refl
either_right false b e = e

pub get_set_same : {A : Type 0} (xs : List A) (i : ℕ) (x : A) → i < length xs → slice_get (slice_set xs i x) i ≡ Some x
get_set_same [] i x l = absurd (omega (arith, l))
get_set_same (y ∷ xs) zero x l = refl
get_set_same (y ∷ xs) (suc i) x l = get_set_same xs i x (omega (arith, l))

pub get_set_other : {A : Type 0} (xs : List A) (i j : ℕ) (x : A) → (j ≡ i → ⊥) → slice_get (slice_set xs i x) j ≡ slice_get xs j
get_set_other [] i j x n = refl
get_set_other (y ∷ xs) zero zero x n = absurd (n refl)
get_set_other (y ∷ xs) zero (suc j) x n = refl
get_set_other (y ∷ xs) (suc i) zero x n = refl
get_set_other (y ∷ xs) (suc i) (suc j) x n = get_set_other xs i j x (λ e. n (ap suc e))

pub length_set : {A : Type 0} (xs : List A) (i : ℕ) (x : A) → length (slice_set xs i x) ≡ length xs
length_set [] i x = refl
length_set (y ∷ xs) zero x = refl
length_set (y ∷ xs) (suc i) x = ap suc (length_set xs i x)

-- lists with the same elements at each place are one
pub same_places : {A : Type 0} (xs ys : List A) → ((i : ℕ) → slice_get xs i ≡ slice_get ys i) → xs ≡ ys
same_places [] [] h = refl
same_places [] (y ∷ ys) h = absurd (let e = h 0 in cc)
same_places (x ∷ xs) [] h = absurd (let e = h 0 in cc)
same_places (x ∷ xs) (y ∷ ys) h =
    let head : x ≡ y = (let e = h 0 in cc) in
    let tail : xs ≡ ys = same_places xs ys (λ i. h (suc i)) in
    cc
