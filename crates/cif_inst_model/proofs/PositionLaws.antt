-- Places in lists.
use Rattle.std.proofs.Common.{◌≡◌, suc, ◌+◌, ◌<◌, Bool, true, false, cond, List, [], ◌∷◌, length, refl, arith}
use Rattle.std.specs.Prelude.{◌||◌, not}
use Rattle.std.specs.List.{list_any, position_or_len}
use Rattle.cif_system.proofs.Lists.{false-true}

pub position-below : {A : Type 0} (p : A → Bool) (xs : List A) → list_any p xs ≡ true → position_or_len p xs < length xs
position-below p [] h = absurd (false-true refl h)
position-below p (x ∷ xs) h =
    (elim (p x) as (λ b. (b || list_any p xs) ≡ true → cond (not b) (1 + position_or_len p xs) 0 < suc (length xs)) [
      | true ↦ λ g. omega arith
      | false ↦ λ g. omega (arith, position-below p xs g)
    ]) h
