use Rattle.std.proofs.Common.{◌≡◌, ◌+◌, ◌≤◌, drop, length}
use Rattle.cif_net_expr.specs.View.{view_updates, view_update_branches}
use Rattle.cif_eval.specs.Updates.{most_in, most_pairs}
use Rattle.cif_eval.proofs.assigning.+room.Given as goal

abbrev pub invariant-make_room-loop-update : goal.invariant-make_room-loop-update
invariant-make_room-loop-update l = record {
  pairs : length l.pairs.pairs + most_pairs (view_updates (drop l.update-index l.updates)) ≡ length l.initial.pairs.pairs + most_pairs (view_updates l.updates);
  room : l.initial.pairs.room ≤ l.pairs.room;
}

abbrev pub invariant-make_room_for_branches-loop-branch : goal.invariant-make_room_for_branches-loop-branch
invariant-make_room_for_branches-loop-branch l = record {
  pairs : length l.pairs.pairs + most_in (view_update_branches (drop l.branch-index l.branches)) ≡ length l.initial.pairs.pairs + most_in (view_update_branches l.branches);
  room : l.initial.pairs.room ≤ l.pairs.room;
}
