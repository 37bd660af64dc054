-- Names in lists.
use Rattle.std.specs.Prelude.{ℕ, suc, List, [], ◌∷◌, Option, Some, None, option_map, if◌then◌else◌}
use Rattle.cif_source.specs.Source.{Text}
use Rattle.cif_source.specs.Components.{same_text}

-- the place of a name in a list
abbrev pub slot_in : List Text → Text → Option ℕ
slot_in [] x = None
slot_in (y ∷ ys) x = if same_text y x then Some 0 else option_map suc (slot_in ys x)
