-- Elements of a list to which one is added.
use Rattle.std.proofs.Common.{◌≡◌, ℕ, zero, suc, List, [], ◌∷◌, ◌++◌, length, Some, refl}
use Rattle.std.specs.Prelude.{slice_get}
use Rattle.cif_system.proofs.Lists.{none-some}

pub get-left : {A : Type 0} (xs ys : List A) (k : ℕ) (x : A) → slice_get xs k ≡ Some x → slice_get (xs ++ ys) k ≡ Some x
get-left [] ys k x h = absurd (none-some x h)
get-left (z ∷ xs) ys zero x h = h
get-left (z ∷ xs) ys (suc k) x h = get-left xs ys k x h

pub get-last : {A : Type 0} (xs : List A) (x : A) → slice_get (xs ++ x ∷ []) (length xs) ≡ Some x
get-last [] x = refl
get-last (z ∷ xs) x = get-last xs x
