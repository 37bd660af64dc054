-- What `simulate` promises, from how its call came to its end, where the answer is the status of that end or want of memory.
use Rattle.std.proofs.Common.{◌≡◌, ℕ, refl, ap, subst, ◌∙◌}
use Rattle.grammar.specs.Pieces.{Text}
use Rattle.cif_sim_model.specs.Simulation.{Runs, StopsAt, first_text, script_text}
use Rattle.cif_sim_names.specs.Sources.{names_of}
use Rattle.cif_source.specs.Step.{system_of}
use Rattle.cif_io.specs.Written.{grown}
use Rattle.cif_run.specs.declared.status.Status.{Status}
use Rattle.cif_run.specs.declared.status.Status.TheVariants as status
use Rattle.cif_run.specs.declared.status.ProfileWhy.TheVariants as profile
use Rattle.cif_refusal.specs.declared.refusal.Refusal.{Refusal}
use Rattle.cif_run.specs.declared.status.StopWhy.{StopWhy}
use Rattle.cif_run.specs.declared.ended.Ended.{Ended}
use Rattle.cif_run.specs.Groups.{IsUnlessMemory}
use Rattle.cif_run.specs.Works.{Comes, Reading, Work, Writing}
use Rattle.cif_run.proofs.CallLaws.{ended_so, halted_so, written}
use Rattle.cif_accept.specs.Accepts.{OfSource, SourceHasTooMany, SourceRefused}
use Rattle.cif_simulate.specs.Words.{Simulate, Which, by_script, by_first}
use Rattle.cif_simulate.specs.Scripts.{OfScript, cause}
use Rattle.cif_simulate.specs.Simulates.{halts_by, simulate_work, writes_by}

module _ (x : Simulate) (c : Reading) (o : Writing) (e : Ended) (came : Comes (simulate_work x c.content) c o e) (r : Status) (same : IsUnlessMemory r e.status) where
  abbrev work : Work
  work = simulate_work x c.content

  pub simulated : r ≡ status.Done → (script : Text) → x.which ≡ by_script script → OfScript c.content x.file script
      (λ t bytes. Runs (names_of t) (system_of t) bytes × (o.new ≡ grown o.old (script_text (names_of t) (system_of t) bytes)))
  simulated q script is =
      let w = written work c o e came r same q in
      let h = subst (λ y. writes_by c.content x.file y w.0) is w.1 in
      (h.0, h.1, (h.2.0, h.2.1, h.2.2, (h.2.3.0, w.2 ∙ ap (grown o.old) h.2.3.1)))

  pub simulated_first : r ≡ status.Done → (steps : ℕ) → x.which ≡ by_first steps → OfSource c.content x.file
      (λ t. o.new ≡ grown o.old (first_text (names_of t) (system_of t) steps))
  simulated_first q steps is =
      let w = written work c o e came r same q in
      let h = subst (λ y. writes_by c.content x.file y w.0) is w.1 in
      (h.0, h.1, w.2 ∙ ap (grown o.old) h.2)

  pub stopped : (k : ℕ) (why : StopWhy) → r ≡ status.Stopped k why → (script : Text) × (x.which ≡ by_script script) × OfScript c.content x.file script
      (λ t bytes. StopsAt (names_of t) (system_of t) bytes k (cause why) × (o.new ≡ grown o.old (script_text (names_of t) (system_of t) bytes)))
  stopped k why q = let w = halted_so work c o e came r same k why q in by x.which refl w.0 w.1 w.2
    where
      by : (y : Which) → x.which ≡ y → (text : Text) → halts_by c.content x.file y (status.Stopped k why) text → o.new ≡ grown o.old text
          → (script : Text) × (x.which ≡ by_script script) × OfScript c.content x.file script
          (λ t bytes. StopsAt (names_of t) (system_of t) bytes k (cause why) × (o.new ≡ grown o.old (script_text (names_of t) (system_of t) bytes)))
      by (by_script script) is text h new = (script, is, (h.0, h.1, (h.2.0, h.2.1, h.2.2, (h.2.3.0, new ∙ ap (grown o.old) h.2.3.1))))
      by (by_first steps) is text h new = absurd h

  pub refused : (why : Refusal) → r ≡ status.Refused why → SourceRefused c.content x.file why
  refused why q =
      let h = ended_so work c o e came r same (status.Refused why) (λ z. cc) refl q in
      (h.0, h.1, h.2, h.3.0)

  pub too_many : (count : ℕ) → r ≡ status.OutsideProfile (profile.TooManyChoices count) → SourceHasTooMany c.content x.file count
  too_many count q = ended_so work c o e came r same (status.OutsideProfile (profile.TooManyChoices count)) (λ z. cc) refl q
