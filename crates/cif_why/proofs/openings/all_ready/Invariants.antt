use Rattle.std.proofs.Common.{◌≡◌, drop, map}
use Rattle.std.specs.List.{list_all}
use Rattle.cif_net.specs.View.{move_tree}
use Rattle.cif_why.specs.Openings.{move_ready}
use Rattle.cif_why.proofs.openings.all_ready.Given as goal

abbrev pub invariant-loop-step : goal.invariant-loop-step
invariant-loop-step l = list_all (move_ready l.openings) (map move_tree (drop l.step-index l.moves)) ≡ list_all (move_ready l.openings) (map move_tree l.moves)
