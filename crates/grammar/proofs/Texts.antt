-- The test of two numbers, of two texts, and of two conditions.
use Rattle.std.proofs.Common.{◌≡◌, ◌==◌, ◌&&◌, ℕ, Bool, true, false, List, [], ◌∷◌, refl, sym, ap, arith, eqb-true, eq-eqb}
use Rattle.std.proofs.lemmas.Bool.Decides.{nat_tests}
use Rattle.std.specs.Prelude.{nat_eq}
use Rattle.std.specs.Cmp.Lexicographic.{pointwise}
use Rattle.grammar.specs.Pieces.{Text, same}

pub and_left : (a b : Bool) → (a && b) ≡ true → a ≡ true
and_left true b e = refl
and_left false b e = e

pub and_right : (a b : Bool) → (a && b) ≡ true → b ≡ true
and_right true b e = e
and_right false b e = absurd cc

pub flip : (a b : ℕ) → (a == b) ≡ (b == a)
flip a b = go (a == b) refl (b == a) refl
  where
    go : (x : Bool) → (a == b) ≡ x → (y : Bool) → (b == a) ≡ y → x ≡ y
    go true e true f = refl
    go true e false f = absurd (grind (arith, nat_tests))
    go false e true f = absurd (grind (arith, nat_tests))
    go false e false f = refl

pub from_test : (a b : ℕ) → (a == b) ≡ true → b ≡ a
from_test a b e = sym (eqb-true a b e)

pub same_is : (xs ys : List ℕ) → pointwise nat_eq xs ys ≡ same xs ys
same_is [] [] = refl
same_is [] (y ∷ ys) = refl
same_is (x ∷ xs) [] = refl
same_is (x ∷ xs) (y ∷ ys) = ap (λ u. (x == y) && u) (same_is xs ys)

pub same_self : (x : Text) → same x x ≡ true
same_self [] = refl
same_self (b ∷ x) = let head : (b == b) ≡ true = eq-eqb b b refl in rw (head, same_self x) refl

pub same_equal : (x y : Text) → same x y ≡ true → x ≡ y
same_equal [] [] e = refl
same_equal [] (b ∷ y) e = absurd cc
same_equal (a ∷ x) [] e = absurd cc
same_equal (a ∷ x) (b ∷ y) e =
    let heads : a ≡ b = eqb-true a b (and_left (a == b) (same x y) e) in
    let tails : x ≡ y = same_equal x y (and_right (a == b) (same x y) e) in
    cc

pub same_flip : (x y : Text) → same x y ≡ same y x
same_flip [] [] = refl
same_flip [] (b ∷ y) = refl
same_flip (a ∷ x) [] = refl
same_flip (a ∷ x) (b ∷ y) = rw (flip a b, same_flip x y) refl
