-- How a run over the net of a source is an end of `simulate`.
use Rattle.std.proofs.Common.{◌≡◌, ℕ, ◌≤◌, length, refl, sym, subst, inl, inr}
use Rattle.grammar.specs.Pieces.{Text}
use Rattle.cif_system.specs.System.{System}
use Rattle.cif_sim_model.specs.Names.{Names}
use Rattle.cif_sim_model.specs.Simulation.{Runs, StopsAt, first_text, script_text}
use Rattle.cif_sim_names.specs.Sources.{names_of}
use Rattle.cif_source.specs.Source.{Source}
use Rattle.cif_source.specs.Step.{system_of}
use Rattle.cif_io.specs.Written.{grown}
use Rattle.cif_net.specs.declared.guarded.Guarded.{Guarded}
use Rattle.cif_eval.specs.Choices as fire
use Rattle.cif_sim_run.specs.Halts as run
use Rattle.cif_sim_run.specs.Left.{names_in}
use Rattle.cif_sim_run.specs.declared.halt.Halt.{Halt}
use Rattle.cif_sim_run.specs.declared.halt.Halt.TheVariants as halt
use Rattle.cif_sim_run.specs.declared.halt.StopWhy.TheVariants as line
use Rattle.cif_run.specs.declared.status.Status.{Status}
use Rattle.cif_run.specs.declared.status.Status.TheVariants as status
use Rattle.cif_run.specs.declared.ended.Ended.{Ended}
use Rattle.cif_run.specs.Groups.{group_of}
use Rattle.cif_run.specs.Works.{Comes, Content, Holds, Input, Reading, Stops, Work, WroteIn, Writing, text_work}
use Rattle.cif_run.proofs.CallLaws.{IsWithin, within_comes}
use Rattle.cif_accept.specs.Accepts.{IsLoaded, SourceIs, silent_work, source_input}
use Rattle.cif_simulate.specs.Words.{Simulate, Which, by_script, by_first}
use Rattle.cif_simulate.specs.Running.{script_work}
use Rattle.cif_simulate.specs.Scripts.{CameOver, script_input, script_limit, status_of}
use Rattle.cif_simulate.specs.Simulates.{asks_by, halts_by, parts_by, simulate_work, writes_by}
use Rattle.cif_simulate.proofs.ScriptLaws as script_law

-- ---- runs of scripts

module _ (names : Names) (m : System) (script : Text) (o : Writing) where
  abbrev Wrote : Status → Type 0
  Wrote s = WroteIn (script_work names m script) (script_text names m script) o (group_of s)

  pub whole_script : (e : Ended) → e.status ≡ status.Done → Runs names m script × (o.new ≡ grown o.old (script_text names m script))
      → (c : Reading) → Comes (script_work names m script) c o e
  whole_script e is h c = inr (script_text names m script, subst Wrote (sym is) ((h.0, refl), h.1))

  halted_so : (h : Halt) → run.HaltsIn (StopsAt names m script) (script_text names m script) (run.writing o.old o.new o.faults o.faults_after) h → Wrote (status_of h)
  halted_so (halt.Stopped k (line.OutOfRange value)) h = ((h.0, refl), h.1)
  halted_so (halt.Stopped k line.NotEnabled) h = ((h.0, refl), h.1)
  halted_so (halt.Stopped k line.BadLine) h = ((h.0, refl), h.1)
  halted_so halt.Failed h = (refl, h.0, h.1)
  halted_so halt.Memory h = (refl, h)

  pub halted_script : (h : Halt) (e : Ended) → e.status ≡ status_of h
      → run.HaltsIn (StopsAt names m script) (script_text names m script) (run.writing o.old o.new o.faults o.faults_after) h
      → (c : Reading) → Comes (script_work names m script) c o e
  halted_script h e is w c = inr (script_text names m script, subst Wrote (sym is) (halted_so h w))

-- ---- the command

-- every run begins with the source
asks_source : (content : Content) (file : Text) (w : Which) (i : Input) → i ≡ source_input file → asks_by content file w i
asks_source content file (by_script script) i h = inl h
asks_source content file (by_first steps) i h = h

module _ (x : Simulate) (c : Reading) (o : Writing) (e : Ended) where
  abbrev work : Work
  work = simulate_work x c.content

  silent_within : IsWithin (silent_work c.content x.file) work
  silent_within = record {
    asks = asks_source c.content x.file x.which;
    writes = λ text h. absurd h.2;
    parts = λ text h. absurd h.2;
    ends = λ s name h. elim h [ inl y ↦ y | inr y ↦ absurd y.2 ];
    halts = λ s text h. absurd h;
  }

  -- the source was not loaded
  pub refused_comes : o.new ≡ o.old → Stops (silent_work c.content x.file) c e → Comes work c o e
  refused_comes same h = within_comes (silent_work c.content x.file) work silent_within c o e (inl (h, same))

  module _ (t : Source) (source : SourceIs c.content x.file t) where
    first_within : (steps : ℕ) → x.which ≡ by_first steps → IsWithin (text_work (first_text (names_of t) (system_of t) steps)) work
    first_within steps is = record {
      asks = λ i h. absurd h;
      writes = λ text h. subst (λ w. writes_by c.content x.file w text) (sym is) (t, source, h);
      parts = λ text h. subst (λ w. parts_by c.content x.file w text) (sym is) (t, source, h);
      ends = λ s name h. absurd h;
      halts = λ s text h. absurd h;
    }

    module _ (script : Text) (is : x.which ≡ by_script script) where
      asks_script : asks_by c.content x.file x.which (script_input script)
      asks_script = subst (λ w. asks_by c.content x.file w (script_input script)) (sym is) (inr (refl, (t, source, tt)))

      script_within : (bytes : Text) → Holds (c.content script) bytes → length bytes ≤ script_limit → IsWithin (script_work (names_of t) (system_of t) bytes) work
      script_within bytes holds short = record {
        asks = λ i h. absurd h;
        writes = λ text h. subst (λ w. writes_by c.content x.file w text) (sym is) (t, source, (bytes, holds, short, h));
        parts = λ text h. subst (λ w. parts_by c.content x.file w text) (sym is) (t, source, (bytes, holds, short, h));
        ends = λ s name h. absurd h;
        halts = λ s text h. subst (λ w. halts_by c.content x.file w s text) (sym is) (t, source, (bytes, holds, short, h));
      }

  module _ (g : Guarded) (loaded : IsLoaded c.content x.file g) where
    pub first_comes : (steps : ℕ) → x.which ≡ by_first steps
        → WroteIn (text_work (first_text (names_in g) (fire.system_of g) steps)) (first_text (names_in g) (fire.system_of g) steps) o (group_of e.status) → Comes work c o e
    first_comes steps is h =
        let t = loaded.0 in
        let text = first_text (names_of t) (system_of t) steps in
        within_comes (text_work text) work (first_within t loaded.1 steps is) c o e
        (inr (text, script_law.of_net g t (λ names m. WroteIn (text_work (first_text names m steps)) (first_text names m steps) o (group_of e.status)) loaded.2 h))

    -- the counts of the script's file from a later moment on
    pub script_comes : (script : Text) → x.which ≡ by_script script → (d : Reading) → d.content script ≡ c.content script → c.faults script ≤ d.faults script
        → d.faults_after script ≡ c.faults_after script → d.most_after script ≡ c.most_after script
        → CameOver (script_work (names_in g) (fire.system_of g)) script d o e → Comes work c o e
    script_comes script is d same more after most h =
        let t = loaded.0 in
        script_law.script_comes work (script_work (names_of t) (system_of t)) script c o e (asks_script t loaded.1 script is) (script_within t loaded.1 script is) d same more after most
        (script_law.of_net g t (λ names m. CameOver (script_work names m) script d o e) loaded.2 h)
