-- What the clauses of the tool say, each by a law of the commands, from how its call came to its end, where the answer is the
-- status of that end or want of memory.
use Rattle.std.proofs.Common.{◌≡◌, ℕ, ◌<◌, ◌≤◌, ◌⊎◌, length, List, Some, None, refl, sym, ap, subst, ◌∙◌, inl, inr}
use Rattle.grammar.specs.Pieces.{Text}
use Rattle.cif_sim_model.specs.Simulation.{Runs, StopsAt as StopsIn}
use Rattle.cif_sim_names.specs.Sources.{names_of}
use Rattle.cif_io.specs.Faults.{Rose}
use Rattle.cif_io.specs.Written.{grown}
use Rattle.st_ast.specs.Exec.{OutOfTurns}
use Rattle.st_ast.specs.ReadsAs.{ReadsAsProgram}
use Rattle.st_ast.specs.Tree.{Program}
use Rattle.st_scan.specs.Endings.{stopped}
use Rattle.st_scan.specs.declared.error.ScanErr.{ScanErr}
use Rattle.st_scan.specs.declared.error.ScanErr.TheVariants as scan
use Rattle.plc_back.specs.Texts.{Makes, TheProgram}
use Rattle.plc_rows.specs.declared.error.RowErr.{RowErr}
use Rattle.cif_run.specs.declared.status.Status.{Status}
use Rattle.cif_run.specs.declared.status.Status.TheVariants as status
use Rattle.cif_run.specs.declared.status.ProfileWhy.TheVariants as profile
use Rattle.cif_refusal.specs.declared.refusal.Refusal.{Refusal}
use Rattle.cif_run.specs.declared.status.StRefusal.{StRefusal}
use Rattle.cif_run.specs.declared.status.StopWhy.{StopWhy}
use Rattle.cif_run.specs.declared.ended.Ended.{Ended}
use Rattle.cif_run.specs.Groups.{judged, group_of, IsUnlessMemory}
use Rattle.cif_run.specs.Works.{Comes, Content, Output, Reading, StopsIn as Stopping, Work, Writing}
use Rattle.cif_run.proofs.CallLaws.{answers, came_how, ended_so, within_comes, wrote_begins}
use Rattle.cif_run.proofs.CallLaws as call
use Rattle.cif_source.specs.Source.{Source}
use Rattle.cif_source.specs.Step.{system_of}
use Rattle.cif_front.specs.Loads.{ReadsAsSource}
use Rattle.cif_accept.specs.Accepts.{CommandEnds, OfSource, SourceHasTooMany, SourceIs, SourceRefused, no_ends, source_limit, source_work}
use Rattle.cif_inst_model.specs.NetRules.{UnclassedDue}
use Rattle.cif_accept.proofs.AcceptLaws as accept
use Rattle.cif_accept.proofs.OverSource as source
use Rattle.cif_accept.proofs.OverSource.{IsOverSource}
use Rattle.cif_check.specs.Words.{Check, IsCheck}
use Rattle.cif_check.specs.Checks.{accepted, check_work}
use Rattle.cif_check.proofs.CheckLaws as checks
use Rattle.cif_generate.specs.Words.{Generate, IsGenerate}
use Rattle.cif_generate.specs.Meaning.{AreClassed, IsWrittenFor, meant_by, shown_of}
use Rattle.cif_generate.specs.Generates.{generate_work, is_unclassed}
use Rattle.cif_generate.proofs.GenerateLaws as generates
use Rattle.cif_replay.specs.Words.{Replay, IsReplay}
use Rattle.cif_replay.specs.Judged.{Judge, OfFirst, judged_work, rows_limit, st_limit}
use Rattle.cif_replay.specs.Replaying.{IsStRefused, Reads}
use Rattle.cif_replay.specs.Replays.{rows_judge}
use Rattle.cif_replay.proofs.JudgedLaws as judged
use Rattle.cif_batch_command.specs.Words.{Batch, IsBatch}
use Rattle.cif_batch_command.specs.Batches.{AsksProgram, cases_judge, files_of}
use Rattle.cif_simulate.specs.Words.{Simulate, Which, by_script, by_first, IsSimulate}
use Rattle.cif_simulate.specs.Scripts.{OfScript, cause, script_limit}
use Rattle.cif_simulate.specs.Simulates.{IsFirstText, IsPartOfRun, halts_by, simulate_work}
use Rattle.cif_simulate.proofs.ByWhich.{first_within, is_over_script, is_over_source, tells_nothing}
use Rattle.cif_simulate.proofs.OverScript as both
use Rattle.cif_simulate.proofs.OverScript.{IsOverScript}
use Rattle.cif_why_command.specs.Words.{Why, IsWhy}
use Rattle.cif_why_command.specs.Explains.{LacksEvent, why_work}
use Rattle.cif_why_command.proofs.ByEvent as event
use Rattle.cif_tool.specs.Commands.{Command, check, generate, replay, batch, simulate, why, Request, IsFor, work_of, script_in, script_of, source_of}
use Rattle.cif_tool.specs.Asks.{Asked, AsksNoScript, AsksScript, AsksSource, AsksUnknown, Generated, IsAsked, NamesScript, NamesSource, NoCommand, Quiet, RowsAreRefused, ScanStopsAt, tool_work}
use Rattle.cif_tool.proofs.AskedLaws.{of_tool, within_tool}

-- no command ends with Usage
no_usage : (k : Command) (q : Request k) (content : Content) (name : Text) → (work_of k q content).ends status.Usage name → ⊥
no_usage check q content name h = elim h [ inl x ↦ x | inr x ↦ x.2 ]
no_usage generate q content name h = elim h [ inl x ↦ x | inr x ↦ x.2 ]
no_usage replay q content name h = h
no_usage batch q content name h = h
no_usage simulate q content name h = h
no_usage why q content name h = elim h [ inl x ↦ x | inr x ↦ let other = x.0 in cc ]

-- nor does its call
pub not_usage : (k : Command) (q : Request k) (c : Reading) (o : Writing) (e : Ended) → Comes (work_of k q c.content) c o e → e.status ≡ status.Usage → ⊥
not_usage k q c o e came is =
    no_usage k q c.content e.variable (ended_so (work_of k q c.content) c o e came e.status (inl refl) status.Usage (λ z. cc) refl is)

-- words that ask no command for anything ask for nothing
pub no_command_of : (words : List Text) → ((k : Check) → IsCheck words k → ⊥) → ((g : Generate) → IsGenerate words g → ⊥) → ((x : Replay) → IsReplay words x → ⊥)
    → ((b : Batch) → IsBatch words b → ⊥) → ((s : Simulate) → IsSimulate words s → ⊥) → ((y : Why) → IsWhy words y → ⊥) → NoCommand words
no_command_of words no_check no_generate no_replay no_batch no_simulate no_why asked h = go asked.command asked.request h
  where
    go : (k : Command) (q : Request k) → IsFor k words q → ⊥
    go check q is = no_check q is
    go generate q is = no_generate q is
    go replay q is = no_replay q is
    go batch q is = no_batch q is
    go simulate q is = no_simulate q is
    go why q is = no_why q is

-- a call of the command that the words ask for is one of the tool
pub command_comes : (words : List Text) (k : Command) (q : Request k) → IsFor k words q → (c : Reading) (o : Writing) (e : Ended) → Comes (work_of k q c.content) c o e
    → Comes (tool_work words c.content) c o e
command_comes words k q is c o e came =
    within_comes (work_of k q c.content) (tool_work words c.content) (within_tool words c.content (record { command = k; request = q }) is) c o e came

-- words that ask for nothing end with Usage
pub nothing_comes : (words : List Text) (c : Reading) (o : Writing) (e : Ended) → NoCommand words → e.status ≡ status.Usage → o.new ≡ o.old
    → Comes (tool_work words c.content) c o e
nothing_comes words c o e none is same =
    inl (subst (λ s. Stopping (tool_work words c.content) c e (group_of s)) (sym is) (inr (is, none)), same)

-- ---- commands over a source, and over a script of it

over_of : (content : Content) (k : Command) (q : Request k) (file : Text) → source_of k q ≡ Some file → IsOverSource (work_of k q content) content file
over_of content check q file at =
    let same : q.file ≡ file = cc in
    subst (λ f. IsOverSource (check_work q content) content f) same (accept.over_source content q.file (λ t text. text ≡ accepted) no_ends)
over_of content generate q file at =
    let same : q.file ≡ file = cc in
    subst (λ f. IsOverSource (generate_work q content) content f) same (accept.over_source content q.file (IsWrittenFor q.unc q.con) is_unclassed)
over_of content replay q file at = absurd cc
over_of content batch q file at = absurd cc
over_of content simulate q file at = let same : q.file ≡ file = cc in subst (λ f. IsOverSource (simulate_work q content) content f) same (is_over_source q content)
over_of content why q file at =
    let same : q.file ≡ file = cc in
    subst (λ f. IsOverSource (why_work q content) content f) same (both.over_source (why_work q content) content q.file q.script (event.tells_event q.event) (event.is_over_script q content))

-- what a command over a script tells of the source, beside a refusal
abbrev tells_of : (k : Command) → Request k → both.Tells
tells_of why q = event.tells_event q.event
tells_of _ q = tells_nothing

over_both : (content : Content) (k : Command) (q : Request k) (file script : Text) → source_of k q ≡ Some file → script_of k q ≡ Some script
    → IsOverScript (work_of k q content) content file script (tells_of k q)
over_both content check q file script at with_script = absurd cc
over_both content generate q file script at with_script = absurd cc
over_both content replay q file script at with_script = absurd cc
over_both content batch q file script at with_script = absurd cc
over_both content simulate q file script at with_script =
    let same : q.file ≡ file = cc in
    subst (λ f. IsOverScript (simulate_work q content) content f script tells_nothing) same (by q.which refl)
  where
    by : (w : Which) → q.which ≡ w → IsOverScript (simulate_work q content) content q.file script tells_nothing
    by (by_script other) which =
        let named : Some other ≡ Some script = sym (ap script_in which) ∙ with_script in
        let here : other ≡ script = cc in
        is_over_script q content script (which ∙ ap by_script here)
    by (by_first steps) which = let none : None ≡ Some script = sym (ap script_in which) ∙ with_script in absurd cc
over_both content why q file script at with_script =
    let same : q.file ≡ file = cc in
    let here : q.script ≡ script = cc in
    subst (λ f. IsOverScript (why_work q content) content f script (event.tells_event q.event)) same
    (subst (λ s. IsOverScript (why_work q content) content q.file s (event.tells_event q.event)) here (event.is_over_script q content))

-- it tells nothing where no event is asked for that the source lacks
knows : (words : List Text) (k : Command) (q : Request k) → IsFor k words q → (t : Source) → (AsksUnknown words t → ⊥) → (s : Status) → tells_of k q t s → ⊥
knows words check q is t known s h = h
knows words generate q is t known s h = h
knows words replay q is t known s h = h
knows words batch q is t known s h = h
knows words simulate q is t known s h = h
knows words why q is t known s h = known (q, is, h.1)

module _ (words : List Text) (c : Reading) (o : Writing) (e : Ended) (came : Comes (tool_work words c.content) c o e) (r : Status)
    (same : IsUnlessMemory r e.status) where
  -- what became of the command that the words ask for
  pub of_command : (k : Command) (q : Request k) → IsFor k words q → Comes (work_of k q c.content) c o e
  of_command k q is = within_comes (tool_work words c.content) (work_of k q c.content) (of_tool words c.content k q is) c o e came

  -- the command that judges a status
  ended : (t : Status) → (t ≡ status.Memory → ⊥) → group_of t ≡ judged → (t ≡ status.Usage → ⊥) → r ≡ t
      → (a : Asked) × IsAsked words a × (work_of a.command a.request c.content).ends t e.variable
  ended t other is not_this q = elim (ended_so (tool_work words c.content) c o e came r same t other is q) [
    | inl h ↦ h
    | inr h ↦ absurd (not_this h.0)
  ]

  pub usage : r ≡ status.Usage → (a : Asked) → IsAsked words a → ⊥
  usage q = elim (ended_so (tool_work words c.content) c o e came r same status.Usage (λ z. cc) refl q) [
    | inl h ↦ absurd (no_usage h.0.command h.0.request c.content e.variable h.2)
    | inr h ↦ h.1
  ]

  pub no_command : NoCommand words → IsUnlessMemory r status.Usage
  no_command none = came_how (tool_work words c.content) c o e came r same (IsUnlessMemory r status.Usage)
      (λ k h. let a = h.1 in absurd (none a.0 a.1))
      (λ k is h. let a = h.1 in absurd (none a.0 a.1))
      (λ h. elim h [
        | inl a ↦ absurd (none a.0 a.1)
        | inr a ↦ answers (tool_work words c.content) c o e came r same status.Usage a.0
      ])
      (λ text h. let a = wrote_begins (tool_work words c.content) o text (group_of e.status) h in absurd (none a.0 a.1))
      (λ m. inr m)

  -- ---- a source

  -- a command over a source and no script, which tells of the source where it has an event without a class
  record Over (file : Text) : Type 1 where
    P : Source → Text → Type 0
    E : CommandEnds
    comes : Comes (source_work c.content file P E) c o e
    silent : (t : Source) → ((g : Generate) → IsGenerate words g → AreClassed t) → (s : Status) (name : Text) → E t s name → ⊥

  -- an event without a class is told where there is one
  classed_silent : (t : Source) → AreClassed t → (s : Status) (name : Text) → is_unclassed t s name → ⊥
  classed_silent t are (status.OutsideProfile (profile.Unclassed event)) name h = are event h.0
  classed_silent t are (status.OutsideProfile (profile.TooManyChoices n)) name h = h
  classed_silent t are _ name h = h

  as_source : (file : Text) → AsksSource words file → AsksNoScript words → Over file
  as_source file h none = go h.0.command h.0.request h.1 h.2
    where
      here : (P : Source → Text → Type 0) (E : CommandEnds) (f : Text) → Some f ≡ Some file → Comes (source_work c.content f P E) c o e → Comes (source_work c.content file P E) c o e
      here P E f is w = let at : f ≡ file = cc in subst (λ n. Comes (source_work c.content n P E) c o e) at w

      go : (k : Command) (q : Request k) → IsFor k words q → source_of k q ≡ Some file → Over file
      go check q is at = record {
        P = λ t text. text ≡ accepted;
        E = no_ends;
        comes = here (λ t text. text ≡ accepted) no_ends q.file at (of_command check q is);
        silent = λ t are s name h. h;
      }
      go generate q is at = record {
        P = IsWrittenFor q.unc q.con;
        E = is_unclassed;
        comes = here (IsWrittenFor q.unc q.con) is_unclassed q.file at (of_command generate q is);
        silent = λ t are. classed_silent t (are q is);
      }
      go replay q is at = absurd cc
      go batch q is at = absurd cc
      go simulate q is at = by q.which refl
        where
          by : (w : Which) → q.which ≡ w → Over file
          by (by_script script) which = absurd (none q.file script (record { command = simulate; request = q }, is, refl, ap script_in which))
          by (by_first steps) which = record {
            P = λ t. IsFirstText (names_of t) (system_of t) steps;
            E = no_ends;
            comes = here (λ t. IsFirstText (names_of t) (system_of t) steps) no_ends q.file at
                (within_comes (simulate_work q c.content) (source_work c.content q.file (λ t. IsFirstText (names_of t) (system_of t) steps) no_ends)
                (first_within q c.content steps which) c o e (of_command simulate q is));
            silent = λ t are s name h. h;
          }
      go why q is at = absurd (none q.file q.script (record { command = why; request = q }, is, refl, refl))

  pub refused : (reason : Refusal) → r ≡ status.Refused reason → (file : Text) × AsksSource words file × SourceRefused c.content file reason
  refused reason z = let h = ended (status.Refused reason) (λ x. cc) refl (λ x. cc) z in go h.0.command h.0.request h.1 h.2
    where
      go : (k : Command) (q : Request k) → IsFor k words q → (work_of k q c.content).ends (status.Refused reason) e.variable
          → (file : Text) × AsksSource words file × SourceRefused c.content file reason
      go check q is h = elim h [ inl x ↦ (q.file, (record { command = check; request = q }, is, refl), (x.0, x.1, x.2, x.3.0)) | inr x ↦ absurd x.2 ]
      go generate q is h = elim h [ inl x ↦ (q.file, (record { command = generate; request = q }, is, refl), (x.0, x.1, x.2, x.3.0)) | inr x ↦ absurd x.2 ]
      go replay q is h = absurd h
      go batch q is h = absurd h
      go simulate q is h = (q.file, (record { command = simulate; request = q }, is, refl), (h.0, h.1, h.2, h.3.0))
      go why q is h = elim h [
        | inl x ↦ (q.file, (record { command = why; request = q }, is, refl), (x.0, x.1, x.2, x.3.0))
        | inr x ↦ let other = x.0 in absurd cc
      ]

  pub too_many_choices : (count : ℕ) → r ≡ status.OutsideProfile (profile.TooManyChoices count) → (file : Text) × AsksSource words file × SourceHasTooMany c.content file count
  too_many_choices count z = let h = ended (status.OutsideProfile (profile.TooManyChoices count)) (λ x. cc) refl (λ x. cc) z in go h.0.command h.0.request h.1 h.2
    where
      go : (k : Command) (q : Request k) → IsFor k words q → (work_of k q c.content).ends (status.OutsideProfile (profile.TooManyChoices count)) e.variable
          → (file : Text) × AsksSource words file × SourceHasTooMany c.content file count
      go check q is h = elim h [ inl x ↦ (q.file, (record { command = check; request = q }, is, refl), x) | inr x ↦ absurd x.2 ]
      go generate q is h = elim h [ inl x ↦ (q.file, (record { command = generate; request = q }, is, refl), x) | inr x ↦ absurd x.2 ]
      go replay q is h = absurd h
      go batch q is h = absurd h
      go simulate q is h = (q.file, (record { command = simulate; request = q }, is, refl), h)
      go why q is h = elim h [ inl x ↦ (q.file, (record { command = why; request = q }, is, refl), x) | inr x ↦ let other = x.0 in absurd cc ]

  pub unclassed : (event : ℕ) → r ≡ status.OutsideProfile (profile.Unclassed event)
      → (g : Generate) × IsGenerate words g × ((t : Source) × SourceIs c.content g.file t × UnclassedDue t event)
  unclassed event z = let h = ended (status.OutsideProfile (profile.Unclassed event)) (λ x. cc) refl (λ x. cc) z in go h.0.command h.0.request h.1 h.2
    where
      go : (k : Command) (q : Request k) → IsFor k words q → (work_of k q c.content).ends (status.OutsideProfile (profile.Unclassed event)) e.variable
          → (g : Generate) × IsGenerate words g × ((t : Source) × SourceIs c.content g.file t × UnclassedDue t event)
      go check q is h = elim h [ inl x ↦ absurd x | inr x ↦ absurd x.2 ]
      go generate q is h = elim h [ inl x ↦ absurd x | inr x ↦ (q, is, (x.0, x.1, x.2.0)) ]
      go replay q is h = absurd h
      go batch q is h = absurd h
      go simulate q is h = absurd h
      go why q is h = elim h [ inl x ↦ absurd x | inr x ↦ let other = x.0 in absurd cc ]

  pub unclassed_is_told : (g : Generate) (bytes : Text) → IsGenerate words g → c.content g.file ≡ Some bytes → (Rose (c.faults g.file) (c.faults_after g.file) → ⊥)
      → length bytes ≤ source_limit → (t : Source) → ReadsAsSource bytes t → (event : ℕ) → UnclassedDue t event
      → IsUnlessMemory r (status.OutsideProfile (profile.Unclassed event))
  unclassed_is_told g bytes is = generates.unclassed_is_told g c o e (of_command generate g is) r same bytes

  module _ (file bytes : Text) (names : NamesSource words c.content file bytes) (sure : Rose (c.faults file) (c.faults_after file) → ⊥) where
    abbrev command : Command
    command = names.0.0.command

    abbrev request : Request command
    request = names.0.0.request

    over : IsOverSource (work_of command request c.content) c.content file
    over = over_of c.content command request file names.0.2

    pub longer_is_too_big : source_limit < length bytes → IsUnlessMemory r (status.TooBig 1)
    longer_is_too_big = source.longer_is_too_big (work_of command request c.content) c o e (of_command command request names.0.1) r same file over bytes names.1 sure

    pub other_text_is_refused : length bytes ≤ source_limit → ((t : Source) → ReadsAsSource bytes t → ⊥)
        → ((reason : Refusal) × (r ≡ status.Refused reason)) ⊎ ((count : ℕ) × (r ≡ status.OutsideProfile (profile.TooManyChoices count))) ⊎ (r ≡ status.Memory)
    other_text_is_refused = source.other_text_is_refused (work_of command request c.content) c o e (of_command command request names.0.1) r same file over bytes names.1 sure

    pub source_is_done : length bytes ≤ source_limit → AsksNoScript words → (Rose o.faults o.faults_after → ⊥) → (t : Source) → ReadsAsSource bytes t
        → ((g : Generate) → IsGenerate words g → AreClassed t) → IsUnlessMemory r status.Done
    source_is_done short none quiet t reads classed =
        let alone = as_source file names.0 none in
        accept.source_is_done file alone.P alone.E c o e alone.comes r same bytes names.1 sure short t reads quiet (alone.silent t classed)

  pub checked : r ≡ status.Done → (k : Check) → IsCheck words k → ((t : Source) × SourceIs c.content k.file t) × (o.new ≡ grown o.old accepted)
  checked q k is = checks.checked k c o e (of_command check k is) r same q

  pub generated : (P : Generate → Source → Text → Type 0) → ((g : Generate) (t : Source) (text : Text) → IsWrittenFor g.unc g.con t text → P g t text)
      → Generated r words c.content o.old o.new P
  generated P from q g is = generates.writes g c o e (of_command generate g is) r same (P g) (from g) q

  pub promised : (P : Generate → Source → Text → Program → Type 0)
      → ((g : Generate) (t : Source) (text : Text) (p : Program) → Makes g.unc g.con (shown_of t) (meant_by t) text p → P g t text p)
      → Generated r words c.content o.old o.new (λ g t text. TheProgram text (P g t text))
  promised P from q g is = generates.promised g c o e (of_command generate g is) r same (P g) (from g) q

  -- ---- a script

  module _ (file script bytes us : Text) (names : NamesScript words c.content file script bytes us) (sure : Quiet file script c.faults c.faults_after)
      (short : length bytes ≤ source_limit) (t : Source) (reads : ReadsAsSource bytes t) (known : AsksUnknown words t → ⊥) where
    abbrev asked : Asked
    asked = names.0.0

    abbrev run : Work
    run = work_of asked.command asked.request c.content

    came_run : Comes run c o e
    came_run = of_command asked.command asked.request names.0.1

    by_both : IsOverScript run c.content file script (tells_of asked.command asked.request)
    by_both = over_both c.content asked.command asked.request file script names.0.2 names.0.3

    silent : (s : Status) → tells_of asked.command asked.request t s → ⊥
    silent = knows words asked.command asked.request names.0.1 t known

    pub longer_script_is_too_big : script_limit < length us → IsUnlessMemory r (status.TooBig 2)
    longer_script_is_too_big =
        both.longer_script_is_too_big run c o e came_run r same file script (tells_of asked.command asked.request) by_both bytes names.1 sure.0 short t reads silent us names.2 sure.1

    module _ (few : length us ≤ script_limit) (quiet : Rose o.faults o.faults_after → ⊥) where
      pub script_is_done : Runs (names_of t) (system_of t) us → IsUnlessMemory r status.Done
      script_is_done =
          both.script_is_done run c o e came_run r same file script (tells_of asked.command asked.request) by_both bytes names.1 sure.0 short t reads silent us names.2 sure.1 few quiet

      pub stopped_script_is_told : (k : ℕ) (reason : StopWhy) → StopsIn (names_of t) (system_of t) us k (cause reason) → IsUnlessMemory r (status.Stopped k reason)
      stopped_script_is_told =
          both.stopped_script_is_told run c o e came_run r same file script (tells_of asked.command asked.request) by_both bytes names.1 sure.0 short t reads silent us names.2 sure.1 few quiet

  -- the command that stops on its way runs a script
  pub stopped_at : (k : ℕ) (reason : StopWhy) → r ≡ status.Stopped k reason
      → (file : Text) × (script : Text) × AsksScript words file script × OfScript c.content file script (λ t us. StopsIn (names_of t) (system_of t) us k (cause reason))
  stopped_at k reason z = let w = call.halted_so (tool_work words c.content) c o e came r same k reason z in go w.1.0.command w.1.0.request w.1.1 w.0 w.1.2
    where
      go : (j : Command) (q : Request j) → IsFor j words q → (text : Text) → (work_of j q c.content).halts (status.Stopped k reason) text
          → (file : Text) × (script : Text) × AsksScript words file script × OfScript c.content file script (λ t us. StopsIn (names_of t) (system_of t) us k (cause reason))
      go check q is text h = absurd h
      go generate q is text h = absurd h
      go replay q is text h = absurd h
      go batch q is text h = absurd h
      go simulate q is text h = by q.which refl
        where
          by : (w : Which) → q.which ≡ w
              → (file : Text) × (script : Text) × AsksScript words file script × OfScript c.content file script (λ t us. StopsIn (names_of t) (system_of t) us k (cause reason))
          by (by_script script) which = (
            q.file,
            script,
            (record { command = simulate; request = q }, is, refl, ap script_in which),
            (is_over_script q c.content script which).halts (status.Stopped k reason) text h,
          )
          by (by_first steps) which = absurd (subst (λ w. halts_by c.content q.file w (status.Stopped k reason) text) which h)
      go why q is text h =
          (q.file, q.script, (record { command = why; request = q }, is, refl, refl), (event.is_over_script q c.content).halts (status.Stopped k reason) text h)

  pub part_of_run : r ≡ status.WriteFault → (q : Simulate) → IsSimulate words q → IsPartOfRun c.content q o.old o.new
  part_of_run z q is = subst (λ s. Output (simulate_work q c.content) o.old o.new s) z (call.output (simulate_work q c.content) c o e (of_command simulate q is) r same)

  pub part_at_memory : r ≡ status.Memory → (q : Simulate) → IsSimulate words q → (o.new ≡ o.old) ⊎ IsPartOfRun c.content q o.old o.new
  part_at_memory z q is = subst (λ s. Output (simulate_work q c.content) o.old o.new s) z (call.output (simulate_work q c.content) c o e (of_command simulate q is) r same)

  pub no_event : r ≡ status.NoEvent → (q : Why) × IsWhy words q × OfSource c.content q.file (λ t. LacksEvent t q.event)
  no_event z = let h = ended status.NoEvent (λ x. cc) refl (λ x. cc) z in go h.0.command h.0.request h.1 h.2
    where
      go : (j : Command) (q : Request j) → IsFor j words q → (work_of j q c.content).ends status.NoEvent e.variable
          → (y : Why) × IsWhy words y × OfSource c.content y.file (λ t. LacksEvent t y.event)
      go check q is h = elim h [ inl x ↦ absurd x | inr x ↦ absurd x.2 ]
      go generate q is h = elim h [ inl x ↦ absurd x | inr x ↦ absurd x.2 ]
      go replay q is h = absurd h
      go batch q is h = absurd h
      go simulate q is h = absurd h
      go why q is h = elim h [ inl x ↦ absurd x | inr x ↦ (q, is, x.1) ]

  -- ---- a program, and rows or cases

  -- what became of a command over a program and a second file, whichever way it judges that file
  of_judge : (x : Replay) → AsksProgram words x → (j : Judge) × Comes (judged_work j x c.content) c o e
  of_judge x (inl is) = (rows_judge, of_command replay x is)
  of_judge x (inr (b, is, at)) = (cases_judge, subst (λ y. Comes (judged_work cases_judge y c.content) c o e) at (of_command batch b is))

  pub program_refused : (reason : StRefusal) → r ≡ status.StRefused reason → (x : Replay) × AsksProgram words x × OfFirst c.content x (λ st. IsStRefused st reason)
  program_refused reason z = let h = ended (status.StRefused reason) (λ x. cc) refl (λ x. cc) z in go h.0.command h.0.request h.1 h.2
    where
      go : (k : Command) (q : Request k) → IsFor k words q → (work_of k q c.content).ends (status.StRefused reason) e.variable
          → (x : Replay) × AsksProgram words x × OfFirst c.content x (λ st. IsStRefused st reason)
      go replay q is h = (q, inl is, (h.0, h.1, h.2, h.3.0))
      go batch q is h = (files_of q, inr (q, is, refl), (h.0, h.1, h.2, h.3.0))
      go check q is h = elim h [ inl x ↦ absurd x | inr x ↦ absurd x.2 ]
      go generate q is h = elim h [ inl x ↦ absurd x | inr x ↦ absurd x.2 ]
      go simulate q is h = absurd h
      go why q is h = elim h [ inl x ↦ absurd x | inr x ↦ let other = x.0 in absurd cc ]

  pub rows_refused : (reason : RowErr) → r ≡ status.RowRefused reason → RowsAreRefused words c.content reason
  rows_refused reason z = let h = ended (status.RowRefused reason) (λ x. cc) refl (λ x. cc) z in go h.0.command h.0.request h.1 h.2
    where
      go : (k : Command) (q : Request k) → IsFor k words q → (work_of k q c.content).ends (status.RowRefused reason) e.variable
          → RowsAreRefused words c.content reason
      go replay q is h = inl (q, is, h)
      go batch q is h = inr (q, is, h)
      go check q is h = elim h [ inl x ↦ absurd x | inr x ↦ absurd x.2 ]
      go generate q is h = elim h [ inl x ↦ absurd x | inr x ↦ absurd x.2 ]
      go simulate q is h = absurd h
      go why q is h = elim h [ inl x ↦ absurd x | inr x ↦ let other = x.0 in absurd cc ]

  pub scan_fault : (k : ℕ) (f : ScanErr) → r ≡ status.ScanFault k f
      → (f ≡ scan.Budget → ⊥) × ScanStopsAt words c.content k (stopped f)
  scan_fault k f z = let h = ended (status.ScanFault k f) (λ x. cc) refl (λ x. cc) z in go h.0.command h.0.request h.1 h.2
    where
      go : (j : Command) (q : Request j) → IsFor j words q → (work_of j q c.content).ends (status.ScanFault k f) e.variable
          → (f ≡ scan.Budget → ⊥) × ScanStopsAt words c.content k (stopped f)
      go replay q is h = (h.0, inl (q, is, (h.1.0, h.1.1, h.1.2, h.1.3, h.1.4, h.1.5, h.1.6.0)))
      go batch q is h = (h.0, inr (q, is, (h.1.0, h.1.1, h.1.2, h.1.3, h.1.4, h.1.5, h.1.6.0)))
      go check q is h = elim h [ inl x ↦ absurd x | inr x ↦ absurd x.2 ]
      go generate q is h = elim h [ inl x ↦ absurd x | inr x ↦ absurd x.2 ]
      go simulate q is h = absurd h
      go why q is h = elim h [ inl x ↦ absurd x | inr x ↦ let other = x.0 in absurd cc ]

  pub budget : (k : ℕ) → r ≡ status.Budget k → ScanStopsAt words c.content k OutOfTurns
  budget k z = let h = ended (status.Budget k) (λ x. cc) refl (λ x. cc) z in go h.0.command h.0.request h.1 h.2
    where
      go : (j : Command) (q : Request j) → IsFor j words q → (work_of j q c.content).ends (status.Budget k) e.variable
          → ScanStopsAt words c.content k OutOfTurns
      go replay q is h = inl (q, is, h)
      go batch q is h = inr (q, is, h)
      go check q is h = elim h [ inl x ↦ absurd x | inr x ↦ absurd x.2 ]
      go generate q is h = elim h [ inl x ↦ absurd x | inr x ↦ absurd x.2 ]
      go simulate q is h = absurd h
      go why q is h = elim h [ inl x ↦ absurd x | inr x ↦ let other = x.0 in absurd cc ]

  module _ (x : Replay) (asks : AsksProgram words x) (st : Text) (told : c.content x.st ≡ Some st) (sure : Rose (c.faults x.st) (c.faults_after x.st) → ⊥) where
    pub longer_program_is_too_big : st_limit < length st → IsUnlessMemory r (status.TooBig 1)
    longer_program_is_too_big = let j = of_judge x asks in judged.longer_program_is_too_big j.0 x c o e j.1 r same st told sure

    pub other_program_is_refused : length st ≤ st_limit → ((p : Program) → ReadsAsProgram st p → ⊥)
        → ((reason : StRefusal) × (r ≡ status.StRefused reason)) ⊎ (r ≡ status.Memory)
    other_program_is_refused = let j = of_judge x asks in judged.other_program_is_refused j.0 x c o e j.1 r same st told sure

    pub longer_second_is_too_big : (second : Text) → c.content x.rows ≡ Some second → (Rose (c.faults x.rows) (c.faults_after x.rows) → ⊥)
        → length st ≤ st_limit → Reads st → rows_limit < length second → IsUnlessMemory r (status.TooBig 2)
    longer_second_is_too_big = let j = of_judge x asks in judged.longer_rows_are_too_big j.0 x c o e j.1 r same st told sure
