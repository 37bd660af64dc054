-- What `check` promises, from how its call came to its end, where the answer is the status of that end or want of memory.
use Rattle.std.proofs.Common.{◌≡◌, ap, ◌∙◌}
use Rattle.cif_io.specs.Written.{grown}
use Rattle.cif_run.specs.declared.status.Status.{Status}
use Rattle.cif_run.specs.declared.status.Status.TheVariants as status
use Rattle.cif_run.specs.declared.ended.Ended.{Ended}
use Rattle.cif_run.specs.Groups.{IsUnlessMemory}
use Rattle.cif_run.specs.Works.{Comes, Reading, Writing}
use Rattle.cif_run.proofs.CallLaws.{written}
use Rattle.cif_source.specs.Source.{Source}
use Rattle.cif_accept.specs.Accepts.{SourceIs}
use Rattle.cif_check.specs.Words.{Check}
use Rattle.cif_check.specs.Checks.{accepted, check_work}

pub checked : (k : Check) (c : Reading) (o : Writing) (e : Ended) → Comes (check_work k c.content) c o e → (r : Status) → IsUnlessMemory r e.status
    → r ≡ status.Done → ((t : Source) × SourceIs c.content k.file t) × (o.new ≡ grown o.old accepted)
checked k c o e came r same q =
    let w = written (check_work k c.content) c o e came r same q in ((w.1.0, w.1.1), w.2 ∙ ap (grown o.old) w.1.2)
