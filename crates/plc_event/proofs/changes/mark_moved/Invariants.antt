use Rattle.std.proofs.Common.{◌≡◌, ℕ, map, drop}
use Rattle.cif_net.specs.View.{move_tree, net_tree}
use Rattle.plc_event.specs.Marked.{is_marked}
use Rattle.plc_event.specs.Moved.{takes_edge}
use Rattle.plc_event.proofs.changes.mark_moved.Given as goal

-- by the last moves
abbrev pub invariant-loop-at : goal.invariant-loop-at
invariant-loop-at l = (j : ℕ) → is_marked l.places.round l.places.last j ≡ takes_edge (net_tree l.net) (map move_tree (drop l.at l.moves)) j
