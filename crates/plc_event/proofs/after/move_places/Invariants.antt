use Rattle.std.proofs.Common.{◌≡◌, ℕ, map, drop, slice_get}
use Rattle.cif_net.specs.View.{move_tree, net_tree}
use Rattle.plc_event.specs.After.{place_by}
use Rattle.plc_event.proofs.after.move_places.Given as goal

-- by the last moves
abbrev pub invariant-loop-at : goal.invariant-loop-at
invariant-loop-at l = (j : ℕ) → slice_get l.places j ≡ place_by (net_tree l.net) (map move_tree (drop l.at l.moves)) l.before j
