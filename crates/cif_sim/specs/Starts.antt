-- Where the choices of each event begin in the list of all choices.
use Rattle.std.specs.Prelude.{◌≡◌, ℕ, zero, suc, ◌+◌, ◌≤◌, List, length, Some, slice_get}
use Rattle.cif_system.specs.System.{System}
use Rattle.cif_system.specs.Choices.{choices}

-- how many items stand in the lists below number e
unfoldable pub items_below : {A : Type 0} → (ℕ → List A) → ℕ → ℕ
items_below f zero = 0
items_below f (suc e) = items_below f e + length (f e)

-- how many choices the events below number e have
unfoldable pub choices_below : System → ℕ → ℕ
choices_below m e = items_below (choices m) e

-- for each event the number of its first choice, and at the end the number of all choices
pub record AreStarts (m : System) (starts : List ℕ) : Type 0 where
  pub at : (e : ℕ) → e ≤ length m.events → slice_get starts e ≡ Some (choices_below m e)
