-- Helper of the code: a list that grows up to a limit.
use Rattle.std.specs.Prelude.{nat_lt, Bool, true, false, List, [], ◌∷◌, ◌++◌, length, Option, Some, None, if◌then◌else◌}
use Rattle.cif_net_model.specs.Listing.{NetChoice}
use Rattle.cif_net_model.specs.Counts.{most_choices}

-- with more choices at the end, where no more than the limit come of it
abbrev pub limited : List NetChoice → List NetChoice → Option (List NetChoice)
limited all [] = Some all
limited all (c ∷ cs) = if nat_lt (length all) most_choices then limited (all ++ c ∷ []) cs else None

-- whether they were added, and what is there then
abbrev pub gives : Bool → List NetChoice → Option (List NetChoice)
gives true all = Some all
gives false all = None
