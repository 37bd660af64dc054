-- Places in lists.
use Rattle.std.specs.Prelude.{ℕ, suc, Bool, ◌&&◌, nat_eq, List, [], ◌∷◌, Option, Some, None, option_map, if◌then◌else◌}
use Rattle.cif_inst_components.specs.declared.components.Place.{Place}

abbrev pub same_place : Place → Place → Bool
same_place p q = nat_eq p.component q.component && nat_eq p.slot q.slot

-- the number of a place in a list
abbrev pub place_in : List Place → Place → Option ℕ
place_in [] p = None
place_in (q ∷ qs) p = if same_place p q then Some 0 else option_map suc (place_in qs p)
