use Rattle.std.proofs.Common.{sym, ◌∙◌}
use Rattle.cif_sync.proofs.BucketLaws.{absent}
use Rattle.cif_sync.proofs.buckets.bucket_at.Goals as goal

pub returns-in-None : goal.returns-in-None
returns-in-None c = c.new.ensures ∙ sym (absent c.args.buckets.now c.args.event (sym c.in-None.ensures.value))
