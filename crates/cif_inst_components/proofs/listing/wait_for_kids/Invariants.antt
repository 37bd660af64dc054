use Rattle.std.proofs.Common.{◌≡◌, ◌≤◌, ◌++◌, length, drop}
use Rattle.cif_inst_components.specs.Listing.{waiting_for}
use Rattle.cif_inst_components.proofs.listing.wait_for_kids.Given as goal

abbrev pub invariant-loop-left : goal.invariant-loop-left
invariant-loop-left l = record {
  within : l.left ≤ length l.kids;
  waits : l.waiting.items ≡ l.fn.waiting.items ++ waiting_for l.component l.depth (drop l.left l.kids);
}

abbrev pub decreases-loop-left : goal.decreases-loop-left
decreases-loop-left l = l.left
