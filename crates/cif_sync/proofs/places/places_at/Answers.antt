use Rattle.std.proofs.Common.{sym}
use Rattle.cif_sync.proofs.BucketLaws.{absent}
use Rattle.cif_sync.proofs.places.places_at.Goals as goal

pub returns-in-None : goal.returns-in-None
returns-in-None c = sym (absent c.args.places.now c.args.event (sym c.in-None.ensures.value))
