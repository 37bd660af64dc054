-- The choices of a guarded net by their numbers.
use Rattle.std.specs.Prelude.{ℕ, [], map, slice_index_or}
use Rattle.cif_system.specs.System.{System}
use Rattle.cif_system.specs.Step as step
use Rattle.cif_net_model.specs.Listing.{full_choices}
use Rattle.cif_net_model.specs.Meaning.{system_of_net}
use Rattle.cif_net.specs.View.{net_tree, choice_tree}
use Rattle.cif_net.specs.declared.guarded.Guarded.{Guarded}

-- the system that a guarded net is
abbrev pub system_of : Guarded → System
system_of g = system_of_net (net_tree g.plain.net)

-- choice k: its event, and the edge that each automaton takes, if it takes one
abbrev pub choice_at : Guarded → ℕ → ℕ × step.Choice
choice_at g k = slice_index_or (full_choices (net_tree g.plain.net) (map choice_tree g.choices)) k (0, [])
