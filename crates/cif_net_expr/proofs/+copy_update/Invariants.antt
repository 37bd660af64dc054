use Rattle.std.proofs.Common.{◌≡◌, take}
use Rattle.cif_net_expr.proofs.+copy_update.Given as goal

abbrev pub invariant-copying::copy_update_branches-loop-branch : goal.invariant-copying::copy_update_branches-loop-branch
invariant-copying::copy_update_branches-loop-branch l = l.copies ≡ take l.branch-index l.all

abbrev pub invariant-copying::copy_updates-loop-update : goal.invariant-copying::copy_updates-loop-update
invariant-copying::copy_updates-loop-update l = l.copies ≡ take l.update-index l.all
