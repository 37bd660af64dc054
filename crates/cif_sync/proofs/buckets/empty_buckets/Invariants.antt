use Rattle.std.proofs.Common.{◌≡◌, [], replicate}
use Rattle.cif_sync.proofs.buckets.empty_buckets.Given as goal

abbrev pub invariant-loop-event : goal.invariant-loop-event
invariant-loop-event l = l.all ≡ replicate l._event []
