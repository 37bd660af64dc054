-- Helper of the code: one of the choices that a product of lists has, by its number.
use Rattle.std.specs.Prelude.{ℕ, ◌/◌, ◌%◌, List, [], ◌∷◌, length, Some, None, slice_get}
use Rattle.cif_system.specs.Choices.{product_by}

-- with the element at q, if there is one, at the front
abbrev pub put : {A : Type 0} → List A → ℕ → List A → List A
put xs q rest = elim (slice_get xs q) [ None ↦ rest | Some x ↦ x ∷ rest ]

-- one of each list, where the first list counts most
abbrev pub nth : {A : Type 0} → List (List A) → ℕ → List A
nth [] t = []
nth (xs ∷ xss) t = put xs (t / product_by length xss) (nth xss (t % product_by length xss))
