use Rattle.std.proofs.Common.{sym, ◌∙◌, ap}
use Rattle.cif_sync.specs.Buckets.{ends_in}
use Rattle.cif_sync.proofs.BucketLaws.{ends-append}
use Rattle.cif_sync.proofs.buckets.is_last.Goals as goal

pub returns-in-Some : goal.returns-in-Some
returns-in-Some c =
    let n = c.args.number in
    sym (ap (ends_in n) c.in-Some.ensures.1 ∙ ends-append n c.in-Some.ensures.0 c.in-Some.last.now)
