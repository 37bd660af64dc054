-- Which answer a command that runs a script of a source has, where both files are told and no read of them fails, want of memory aside.
use Rattle.std.proofs.Common.{◌≡◌, ℕ, ◌<◌, ◌≤◌, ◌⊎◌, length, Some, refl, sym, ap, subst, ◌∙◌, inl, inr, arith}
use Rattle.grammar.specs.Pieces.{Text}
use Rattle.cif_sim_model.specs.Simulation.{Runs, StopsAt}
use Rattle.cif_sim_model.proofs.StopLaws.{stops-once}
use Rattle.cif_sim_names.specs.Sources.{names_of}
use Rattle.cif_source.specs.Source.{Source}
use Rattle.cif_source.specs.Step.{system_of}
use Rattle.cif_io.specs.Faults.{Rose}
use Rattle.cif_run.specs.declared.status.Status.{Status}
use Rattle.cif_run.specs.declared.status.Status.TheVariants as status
use Rattle.cif_run.specs.declared.status.StopWhy.{StopWhy}
use Rattle.cif_run.specs.declared.status.StopWhy.TheVariants as stop
use Rattle.cif_run.specs.declared.ended.Ended.{Ended}
use Rattle.cif_run.specs.Groups.{group_of, IsUnlessMemory}
use Rattle.cif_run.specs.Works.{Comes, Content, Failed, Input, Reading, Work, WroteIn, Writing}
use Rattle.cif_run.proofs.CallLaws.{came_how, want, wrote_begins}
use Rattle.cif_run.proofs.CallLaws as call
use Rattle.cif_front.specs.Loads.{ReadsAsSource}
use Rattle.cif_accept.specs.Accepts.{FileRefused, HasSource, OfSource, source_input, source_limit}
use Rattle.cif_simulate.specs.Scripts.{IsStop, OfScript, cause, script_input, script_limit}
use Rattle.cif_accept.proofs.OverSource.{IsOverSource, held, longer_told, not_refused, this}

-- ends by which a command tells something of a source
abbrev pub Tells : Type 1
Tells = Source → Status → Type 0

-- The script is asked for only where the first file holds a source. Done means that the script ran to its end, and what halts the
-- command is a line of the script. Beside a refusal only what E says of the source is told.
pub record IsOverScript (w : Work) (content : Content) (file script : Text) (E : Tells) : Type 0 where
  pub asks : (i : Input) → w.asks i → (i ≡ source_input file) ⊎ ((i ≡ script_input script) × HasSource content file)
  pub ends : (s : Status) (name : Text) → w.ends s name → FileRefused content file s name ⊎ OfSource content file (λ t. E t s)
  pub parts : (text : Text) → w.parts text → OfScript content file script (λ t bytes. Unit {0})
  pub writes : (text : Text) → w.writes text → OfScript content file script (λ t bytes. Runs (names_of t) (system_of t) bytes)
  pub halts : (s : Status) (text : Text) → w.halts s text → OfScript content file script (λ t bytes. IsStop (names_of t) (system_of t) bytes s)

pub over_source : (w : Work) (content : Content) (file script : Text) (E : Tells) → IsOverScript w content file script E → IsOverSource w content file
over_source w content file script E over = record {
  asks = λ i h. elim (over.asks i h) [ inl a ↦ inl a | inr a ↦ inr a.1 ];
  ends = λ s name h. elim (over.ends s name h) [ inl a ↦ inl a | inr a ↦ inr (a.0, a.1, tt) ];
  parts = λ text h. let q = over.parts text h in (q.0, q.1, tt);
}

one_cause : (a b : StopWhy) → cause a ≡ cause b → a ≡ b
one_cause (stop.OutOfRange y) (stop.OutOfRange z) e = let same : y ≡ z = cc in ap (λ v. stop.OutOfRange v) same
one_cause (stop.OutOfRange y) stop.NotEnabled e = absurd cc
one_cause (stop.OutOfRange y) stop.BadLine e = absurd cc
one_cause stop.NotEnabled (stop.OutOfRange z) e = absurd cc
one_cause stop.NotEnabled stop.NotEnabled e = refl
one_cause stop.NotEnabled stop.BadLine e = absurd cc
one_cause stop.BadLine (stop.OutOfRange z) e = absurd cc
one_cause stop.BadLine stop.NotEnabled e = absurd cc
one_cause stop.BadLine stop.BadLine e = refl

module _ (w : Work) (c : Reading) (o : Writing) (e : Ended) (came : Comes w c o e) (r : Status) (same : IsUnlessMemory r e.status)
    (file script : Text) (E : Tells) (over : IsOverScript w c.content file script E)
    (bytes : Text) (told : c.content file ≡ Some bytes) (sure : Rose (c.faults file) (c.faults_after file) → ⊥) (short : length bytes ≤ source_limit)
    (t : Source) (reads : ReadsAsSource bytes t) (silent : (s : Status) → E t s → ⊥)
    (us : Text) (told_script : c.content script ≡ Some us) (sure_script : Rose (c.faults script) (c.faults_after script) → ⊥) where
  -- what is so of both files is so of these
  at_both : (P : Source → Text → Type 0) → OfScript c.content file script P → (length us ≤ script_limit) × P t us
  at_both P h =
      let is = held (c.content script) us h.2.0 told_script h.2.1 in (
        subst (λ b. length b ≤ script_limit) is h.2.2,
        subst (λ u. P u us) (this c file bytes told t reads h.0 h.1) (subst (λ b. P h.0 b) is h.2.3),
      )

  not_long : source_limit < length bytes → ⊥
  not_long q = omega (arith, q, short)

  not_ended : w.ends e.status e.variable → ⊥
  not_ended h = elim (over.ends e.status e.variable h) [
    | inl a ↦ not_refused c file bytes told t reads e.status e.variable a
    | inr a ↦ silent e.status (subst (λ u. E u e.status) (this c file bytes told t reads a.0 a.1) a.2)
  ]

  -- what became of the call
  ran : (B : Type 0) → (script_limit < length us → e.status ≡ status.TooBig 2 → B)
      → ((text : Text) → WroteIn w text o (group_of e.status) → B) → (r ≡ status.Memory → B) → B
  ran B long wrote memory = came_how w c o e came r same B
      (λ k h. elim (over.asks h.0 h.1) [
        | inl a ↦ absurd (sure (subst (λ (i : Input). Failed c i) a h.3))
        | inr a ↦ absurd (sure_script (subst (λ (i : Input). Failed c i) a.0 h.3))
      ])
      (λ k is h. elim (over.asks h.0 h.1) [
        | inl a ↦ absurd (not_long (longer_told c h.0 (source_input file) bytes told a h.3))
        | inr a ↦ long (longer_told c h.0 (script_input script) us told_script a.0 h.3) (is ∙ ap (λ n. status.TooBig n) (sym h.2 ∙ ap (λ (i : Input). i.word) a.0))
      ])
      (λ h. absurd (not_ended h))
      wrote
      memory

  pub longer_script_is_too_big : script_limit < length us → IsUnlessMemory r (status.TooBig 2)
  longer_script_is_too_big more = ran (IsUnlessMemory r (status.TooBig 2))
      (λ q is. call.answers w c o e came r same (status.TooBig 2) is)
      (λ text h. let q = (at_both (λ u b. Unit {0}) (over.parts text (wrote_begins w o text (group_of e.status) h))).0 in absurd (omega (arith, q, more)))
      (λ m. inr m)

  module _ (few : length us ≤ script_limit) (quiet : Rose o.faults o.faults_after → ⊥) where
    runs : (text : Text) → w.writes text → Runs (names_of t) (system_of t) us
    runs text h = (at_both (λ u b. Runs (names_of u) (system_of u) b) (over.writes text h)).1

    stops : (text : Text) (j : ℕ) (other : StopWhy) → w.halts (status.Stopped j other) text → StopsAt (names_of t) (system_of t) us j (cause other)
    stops text j other h = (at_both (λ u b. IsStop (names_of u) (system_of u) b (status.Stopped j other)) (over.halts (status.Stopped j other) text h)).1

    pub script_is_done : Runs (names_of t) (system_of t) us → IsUnlessMemory r status.Done
    script_is_done so = ran (IsUnlessMemory r status.Done) (λ q is. absurd (omega (arith, q, few))) (λ text h. by text e.status refl h) (λ m. inr m)
      where
        by : (text : Text) (s : Status) → e.status ≡ s → WroteIn w text o (group_of s) → IsUnlessMemory r status.Done
        by text status.Done is h = call.answers w c o e came r same status.Done is
        by text status.WriteFault is h = absurd (quiet h.1)
        by text status.Memory is h = inr (want w c o e came r same is)
        by text (status.Stopped j other) is h = absurd (so j (cause other) (stops text j other h.0))
        by text _ is h = absurd h

    pub stopped_script_is_told : (k : ℕ) (why : StopWhy) → StopsAt (names_of t) (system_of t) us k (cause why) → IsUnlessMemory r (status.Stopped k why)
    stopped_script_is_told k why so =
        ran (IsUnlessMemory r (status.Stopped k why)) (λ q is. absurd (omega (arith, q, few))) (λ text h. by text e.status refl h) (λ m. inr m)
      where
        by : (text : Text) (s : Status) → e.status ≡ s → WroteIn w text o (group_of s) → IsUnlessMemory r (status.Stopped k why)
        by text status.Done is h = absurd (runs text h.0 k (cause why) so)
        by text status.WriteFault is h = absurd (quiet h.1)
        by text status.Memory is h = inr (want w c o e came r same is)
        by text (status.Stopped j other) is h =
            let one = stops-once (names_of t) (system_of t) us j k (cause other) (cause why) (stops text j other h.0) so in
            call.answers w c o e came r same (status.Stopped k why) (is ∙ ap (λ n. status.Stopped n other) one.0 ∙ ap (λ y. status.Stopped k y) (one_cause other why one.1))
        by text _ is h = absurd h
