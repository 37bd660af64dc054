use Rattle.std.proofs.Common.{◌≡◌, length, map}
use Rattle.cif_net_expr.specs.View.{view, view_branch}
use Rattle.cif_net.specs.Places.{branches_by_place}
use Rattle.cif_net.proofs.defining.place_branches.Given as goal

abbrev pub invariant-loop-value : goal.invariant-loop-value
invariant-loop-value l = record {
  made : map view_branch l.all ≡ branches_by_place l.fn.auto 0 (map view l.yielded);
  count : l.place ≡ length l.yielded;
}
