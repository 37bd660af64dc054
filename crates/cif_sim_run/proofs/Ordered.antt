-- Numbers in ascending order.
use Rattle.std.proofs.Common.{◌≡◌, ℕ, suc, ◌≤◌, List, [], ◌∷◌, arith}
use Rattle.std.specs.List.{AllByRecursion}
use Rattle.std.specs.List.Sorted.{IsStrictlySortedBy}
use Rattle.std.specs.Ordering.{nat_cmp}
use Rattle.std.specs.declared.cmp.Ordering.TheVariants.{Less}
use Rattle.std.proofs.lemmas.Bool.Decides.{nat_tests}
use Rattle.cif_script.specs.Touches.{Ascend}

all-above : (x : ℕ) (xs : List ℕ) → AllByRecursion (λ y. nat_cmp x y ≡ Less) xs → AllByRecursion (λ y. suc x ≤ y) xs
all-above x [] h = tt
all-above x (y ∷ ys) h = let less = h.0 in ((let l : suc x ≤ y = grind (arith, nat_tests) in l), all-above x ys h.1)

from-sorted : (from : ℕ) (xs : List ℕ) → AllByRecursion (λ y. from ≤ y) xs → IsStrictlySortedBy nat_cmp xs → Ascend from xs
unfolding IsStrictlySortedBy
from-sorted from [] a s = tt
from-sorted from (x ∷ xs) a s = (a.0, from-sorted (suc x) xs (all-above x xs s.0) s.1)

from-zero : (xs : List ℕ) → AllByRecursion (λ y. 0 ≤ y) xs
from-zero [] = tt
from-zero (x ∷ xs) = (omega arith, from-zero xs)

pub ascends : (xs : List ℕ) → IsStrictlySortedBy nat_cmp xs → Ascend 0 xs
ascends xs s = from-sorted 0 xs (from-zero xs) s
