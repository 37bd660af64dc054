-- What is read is the content of the name, and what is counted is no other name's.
use Rattle.std.proofs.Common.{rules, ap}
use Rattle.cif_io.proofs.Places.{content-at, other-count}
use Rattle.cif_io.proofs.memory_files.MemFilesFiles.read.Goals as goal

pub returns-in-Some-2-clause-whole : goal.returns-in-Some-2-clause-whole
returns-in-Some-2-clause-whole c =
    let held = content-at _ _ _ _ _ _ c.as_slice-2.ensures.value (ap (λ s. s.files) c.self.view_is)
    c.in-Some.ensures.found c.in-Some.ensures.within c.index-in-Some-2.ensures in
    search (rules, held)

pub returns-in-Some-2-clause-longer : goal.returns-in-Some-2-clause-longer
returns-in-Some-2-clause-longer c =
    let held = content-at _ _ _ _ _ _ c.as_slice-2.ensures.value (ap (λ s. s.files) c.self.view_is)
    c.in-Some.ensures.found c.in-Some.ensures.within c.index-in-Some-2.ensures in
    search (rules, held)

pub returns-in-Some-2-clause-emptied : goal.returns-in-Some-2-clause-emptied
returns-in-Some-2-clause-emptied c =
    let held = content-at _ _ _ _ _ _ c.as_slice-2.ensures.value (ap (λ s. s.files) c.self.view_is)
    c.in-Some.ensures.found c.in-Some.ensures.within c.index-in-Some-2.ensures in
    search (rules, held)

pub returns-in-Some-clause-other_counts : goal.returns-in-Some-clause-other_counts
returns-in-Some-clause-other_counts c =
    λ n other held. other-count c.args.self.now _ _ _ _ n _ _ _ c.as_slice-2.ensures.value (ap (λ s. s.files) c.self.view_is)
    (ap (λ s. s.counts) c.self.view_is) c.in-Some.ensures.found other held
