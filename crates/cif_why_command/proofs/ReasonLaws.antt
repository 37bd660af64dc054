-- How the reasons in the net of a source are an end of `why`.
use Rattle.std.proofs.Common.{◌≡◌, ℕ, ◌≤◌, ◌⊎◌, List, [], ◌∷◌, length, map, Option, Some, None, refl, sym, ap, subst, ◌∙◌, inl, inr}
use Rattle.std.proofs.lemmas.List.{append-nil}
use Rattle.grammar.specs.Pieces.{Text}
use Rattle.cif_system.specs.System.{System}
use Rattle.cif_sim_model.specs.Names.{Names}
use Rattle.cif_sim_model.specs.Simulation.{Runs, StopsAt}
use Rattle.cif_why_model.specs.Told.{Told}
use Rattle.cif_sim_names.specs.Nets.{told_of_net}
use Rattle.cif_sim_names.specs.Sources.{names_of, told_of}
use Rattle.cif_source.specs.Source.{Source}
use Rattle.cif_source.specs.Step.{system_of}
use Rattle.cif_io.specs.Written.{grown}
use Rattle.cif_net_model.specs.Net.{NetEvent}
use Rattle.cif_net.specs.Parts.{event_tree}
use Rattle.cif_net.specs.View.{net_tree}
use Rattle.cif_net.specs.declared.events.Event.{Event}
use Rattle.cif_net.specs.declared.guarded.Guarded.{Guarded}
use Rattle.cif_eval.specs.Choices as fire
use Rattle.cif_sim_run.specs.Halts.{HaltsSilently}
use Rattle.cif_sim_run.specs.Left.{names_in}
use Rattle.cif_sim_run.specs.declared.halt.Halt.{Halt}
use Rattle.cif_sim_run.specs.declared.halt.Halt.TheVariants as halt
use Rattle.cif_sim_run.specs.declared.halt.StopWhy.TheVariants as line
use Rattle.cif_run.specs.declared.status.Status.{Status}
use Rattle.cif_run.specs.declared.status.Status.TheVariants as status
use Rattle.cif_run.specs.declared.ended.Ended.{Ended}
use Rattle.cif_run.specs.Groups.{group_of}
use Rattle.cif_run.specs.Works.{Comes, Holds, Reading, Stops, StopsIn, Work, WroteIn, Writing, text_work}
use Rattle.cif_run.proofs.CallLaws.{IsWithin, put_comes, within_comes}
use Rattle.cif_accept.specs.Accepts.{IsLoaded, SourceIs, silent_work}
use Rattle.cif_simulate.specs.Scripts.{CameOver, script_limit, status_of}
use Rattle.cif_simulate.proofs.ScriptLaws as script_law
use Rattle.cif_why_command.specs.Words.{Why}
use Rattle.cif_why_command.specs.Explains.{LacksEvent, event_of, explained, reasons_work, why_work}
use Rattle.cif_why_command.proofs.SourceLaws.{net_told}

-- ---- an event

pub event_paths : (es : List Event) → map (λ (e : Event). e.path) es ≡ map (λ (e : NetEvent). e.path) (map event_tree es)
event_paths [] = refl
event_paths (e ∷ es) = ap (λ ps. e.path ∷ ps) (event_paths es)

-- ---- a script

nothing_grown : (told : Option Text) → told ≡ grown told []
nothing_grown None = refl
nothing_grown (Some text) = ap Some (sym (append-nil text))

module _ (names : Names) (m : System) (told : Told) (event : ℕ) (script : Text) (o : Writing) where
  abbrev work : Work
  work = reasons_work names m told event script

  -- the reasons were put
  pub put_reasons : (text : Text) → Runs names m script → text ≡ explained names m told script event → (e : Ended) → WroteIn (text_work text) text o (group_of e.status)
      → (c : Reading) → Comes work c o e
  put_reasons text runs is e h c = put_comes work o text (runs, is) c e h

  abbrev Came : (c : Reading) → Ended → Status → Type 0
  Came c e s = (StopsIn work c e (group_of s) × (o.new ≡ o.old)) ⊎ ((text : Text) × WroteIn work text o (group_of s))

  halted_so : (h : Halt) → HaltsSilently (StopsAt names m script) h → o.new ≡ o.old → (c : Reading) (e : Ended) → Came c e (status_of h)
  halted_so (halt.Stopped k (line.OutOfRange value)) h same c e = inr ([], ((h, refl), same ∙ nothing_grown o.old))
  halted_so (halt.Stopped k line.NotEnabled) h same c e = inr ([], ((h, refl), same ∙ nothing_grown o.old))
  halted_so (halt.Stopped k line.BadLine) h same c e = inr ([], ((h, refl), same ∙ nothing_grown o.old))
  halted_so halt.Failed h same c e = absurd h
  halted_so halt.Memory h same c e = inl (tt, same)

  -- the script did not run to its end, or no memory was found
  pub halted_script : (h : Halt) (e : Ended) → e.status ≡ status_of h → HaltsSilently (StopsAt names m script) h → o.new ≡ o.old → (c : Reading) → Comes work c o e
  halted_script h e is w same c = subst (Came c e) (sym is) (halted_so h w same c e)

-- ---- the command

module _ (q : Why) (c : Reading) (o : Writing) (e : Ended) where
  abbrev all : Work
  all = why_work q c.content

  silent_within : IsWithin (silent_work c.content q.file) all
  silent_within = record {
    asks = λ i h. inl h;
    writes = λ text h. absurd h.2;
    parts = λ text h. absurd h.2;
    ends = λ s name h. elim h [ inl y ↦ inl y | inr y ↦ absurd y.2 ];
    halts = λ s text h. absurd h;
  }

  -- the source was not loaded
  pub refused_comes : o.new ≡ o.old → Stops (silent_work c.content q.file) c e → Comes all c o e
  refused_comes same h = within_comes (silent_work c.content q.file) all silent_within c o e (inl (h, same))

  module _ (t : Source) (source : SourceIs c.content q.file t) (event : ℕ) (is : event_of (names_of t) q.event ≡ Some event) where
    within : (bytes : Text) → Holds (c.content q.script) bytes → length bytes ≤ script_limit
        → IsWithin (reasons_work (names_of t) (system_of t) (told_of t) event bytes) all
    within bytes holds short = record {
      asks = λ i h. absurd h;
      writes = λ text h. (t, source, (bytes, holds, short, (event, is, h)));
      parts = λ text h. (t, source, (bytes, holds, short, (event, is, h)));
      ends = λ s name h. absurd h;
      halts = λ s text h. (t, source, (bytes, holds, short, (event, is, h)));
    }

  module _ (g : Guarded) (loaded : IsLoaded c.content q.file g) where
    -- no event has the path
    pub no_event_comes : event_of (names_in g) q.event ≡ None → e.status ≡ status.NoEvent → o.new ≡ o.old → Comes all c o e
    no_event_comes none is same =
        let t = loaded.0 in
        let lacks : LacksEvent t q.event = script_law.of_net g t (λ names m. event_of names q.event ≡ None) loaded.2 none in
        inl (subst (λ s. StopsIn all c e (group_of s)) (sym is) (inr (is, (t, loaded.1, lacks))), same)

    -- the counts of the script's file from a later moment on
    pub event_comes : (event : ℕ) → event_of (names_in g) q.event ≡ Some event
        → (d : Reading) → d.content q.script ≡ c.content q.script → c.faults q.script ≤ d.faults q.script
        → d.faults_after q.script ≡ c.faults_after q.script → d.most_after q.script ≡ c.most_after q.script
        → CameOver (reasons_work (names_in g) (fire.system_of g) (told_of_net (net_tree g.plain.net)) event) q.script d o e → Comes all c o e
    event_comes event is d same more after most h =
        let t = loaded.0 in
        let here : event_of (names_of t) q.event ≡ Some event = script_law.of_net g t (λ names m. event_of names q.event ≡ Some event) loaded.2 is in
        let over = script_law.of_net g t (λ names m. CameOver (reasons_work names m (told_of_net (net_tree g.plain.net)) event) q.script d o e) loaded.2 h in
        script_law.script_comes all (reasons_work (names_of t) (system_of t) (told_of t) event) q.script c o e
        (inr (refl, (t, loaded.1, (event, here, tt)))) (within t loaded.1 event here) d same more after most
        (subst (λ (y : Told). CameOver (reasons_work (names_of t) (system_of t) y event) q.script d o e) (net_told c.content q.file g loaded) over)
