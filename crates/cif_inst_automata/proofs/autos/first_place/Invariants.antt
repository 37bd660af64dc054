use Rattle.std.proofs.Common.{◌≡◌, ◌+◌, map, drop}
use Rattle.std.specs.List.{position_or_len}
use Rattle.cif_source.specs.Source.{location_tree}
use Rattle.cif_inst_automata.specs.Autos.{is_initial}
use Rattle.cif_inst_automata.proofs.autos.first_place.Given as goal

abbrev pub invariant-loop-place : goal.invariant-loop-place
invariant-loop-place l = l.place + position_or_len is_initial (map location_tree (drop l.place l.locs)) ≡ position_or_len is_initial (map location_tree l.locs)
