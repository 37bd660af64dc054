use Rattle.std.proofs.Common.{sym, arith}
use Rattle.cif_sync.proofs.BucketLaws.{noted-by, noted-past}
use Rattle.cif_sync.proofs.buckets.note.Goals as goal

pub returns-in_ok-add_last : goal.returns-in_ok-add_last
returns-in_ok-add_last c =
    noted-by c.args.number c.args.event c.args.buckets.now _ _ _ _ _ c.new.ensures c.replace-bucket.ensures.was c.replace-bucket.ensures.is c.in_ok-add_last.ensures c.set.ensures

pub returns-else-at-len : goal.returns-else-at-len
returns-else-at-len c = sym (noted-past c.args.number c.args.event c.args.buckets.now (omega arith))
