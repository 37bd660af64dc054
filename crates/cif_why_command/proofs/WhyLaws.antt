-- What `why` promises, from how its call came to its end, where the answer is the status of that end or want of memory.
use Rattle.std.proofs.Common.{◌≡◌, ℕ, [], Some, refl, ap, ◌∙◌, inl, inr}
use Rattle.cif_sim_model.specs.Simulation.{Runs, StopsAt}
use Rattle.cif_sim_names.specs.Sources.{names_of, told_of}
use Rattle.cif_source.specs.Step.{system_of}
use Rattle.cif_io.specs.Written.{grown}
use Rattle.cif_run.specs.declared.status.Status.{Status}
use Rattle.cif_run.specs.declared.status.Status.TheVariants as status
use Rattle.cif_run.specs.declared.status.ProfileWhy.TheVariants as profile
use Rattle.cif_refusal.specs.declared.refusal.Refusal.{Refusal}
use Rattle.cif_run.specs.declared.status.StopWhy.{StopWhy}
use Rattle.cif_run.specs.declared.ended.Ended.{Ended}
use Rattle.cif_run.specs.Groups.{IsUnlessMemory}
use Rattle.cif_run.specs.Works.{Comes, Reading, Work, Writing}
use Rattle.cif_run.proofs.CallLaws.{ended_so, halted_so, written}
use Rattle.cif_accept.specs.Accepts.{OfSource, SourceHasTooMany, SourceRefused}
use Rattle.cif_simulate.specs.Scripts.{OfScript, cause}
use Rattle.cif_why_command.specs.Words.{Why}
use Rattle.cif_why_command.specs.Explains.{LacksEvent, event_of, explained, why_work}

module _ (q : Why) (c : Reading) (o : Writing) (e : Ended) (came : Comes (why_work q c.content) c o e) (r : Status) (same : IsUnlessMemory r e.status) where
  abbrev work : Work
  work = why_work q c.content

  pub explained_so : r ≡ status.Done → OfScript c.content q.file q.script
      (λ t bytes. Runs (names_of t) (system_of t) bytes
      × ((event : ℕ) × (event_of (names_of t) q.event ≡ Some event) × (o.new ≡ grown o.old (explained (names_of t) (system_of t) (told_of t) bytes event))))
  explained_so z =
      let w = written work c o e came r same z in
      let h = w.1 in
      let p = h.2.3 in
      (h.0, h.1, (h.2.0, h.2.1, h.2.2, (p.2.0, (p.0, p.1, w.2 ∙ ap (grown o.old) p.2.1))))

  pub stopped : (k : ℕ) (why : StopWhy) → r ≡ status.Stopped k why
      → OfScript c.content q.file q.script (λ t bytes. StopsAt (names_of t) (system_of t) bytes k (cause why)) × (o.new ≡ grown o.old [])
  stopped k why z =
      let w = halted_so work c o e came r same k why z in
      let h = w.1 in
      let p = h.2.3 in
      ((h.0, h.1, (h.2.0, h.2.1, h.2.2, p.2.0)), w.2 ∙ ap (grown o.old) p.2.1)

  pub no_event : r ≡ status.NoEvent → OfSource c.content q.file (λ t. LacksEvent t q.event)
  no_event z = elim (ended_so work c o e came r same status.NoEvent (λ x. cc) refl z) [ inl h ↦ absurd h | inr h ↦ h.1 ]

  pub refused : (why : Refusal) → r ≡ status.Refused why → SourceRefused c.content q.file why
  refused why z = elim (ended_so work c o e came r same (status.Refused why) (λ x. cc) refl z) [
    | inl h ↦ (h.0, h.1, h.2, h.3.0)
    | inr h ↦ let other = h.0 in absurd cc
  ]

  pub too_many : (count : ℕ) → r ≡ status.OutsideProfile (profile.TooManyChoices count) → SourceHasTooMany c.content q.file count
  too_many count z = elim (ended_so work c o e came r same (status.OutsideProfile (profile.TooManyChoices count)) (λ x. cc) refl z) [
    | inl h ↦ h
    | inr h ↦ let other = h.0 in absurd cc
  ]
