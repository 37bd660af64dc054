-- What kind of command `why` is, and that it tells where no event has the path.
use Rattle.std.proofs.Common.{◌≡◌, ℕ, ◌≤◌, length, Some, sym, subst, ◌∙◌, inl, inr, arith}
use Rattle.cif_system.proofs.Lists.{none-some}
use Rattle.grammar.specs.Pieces.{Text}
use Rattle.cif_sim_names.specs.Sources.{names_of}
use Rattle.cif_source.specs.Source.{Source}
use Rattle.cif_io.specs.Faults.{Rose}
use Rattle.cif_run.specs.declared.status.Status.{Status}
use Rattle.cif_run.specs.declared.status.Status.TheVariants as status
use Rattle.cif_run.specs.declared.ended.Ended.{Ended}
use Rattle.cif_run.specs.Groups.{group_of, IsUnlessMemory}
use Rattle.cif_run.specs.Works.{Comes, Content, Failed, Input, Reading, Work, Writing}
use Rattle.cif_run.proofs.CallLaws.{came_how, wrote_begins}
use Rattle.cif_run.proofs.CallLaws as call
use Rattle.cif_front.specs.Loads.{ReadsAsSource}
use Rattle.cif_accept.specs.Accepts.{SourceIs, source_input, source_limit}
use Rattle.cif_simulate.proofs.OverScript.{IsOverScript, Tells}
use Rattle.cif_accept.proofs.OverSource.{longer_told, not_refused, this}
use Rattle.cif_why_command.specs.Words.{Why}
use Rattle.cif_why_command.specs.Explains.{LacksEvent, event_of, why_work}

-- beside a refusal it tells that no event has the path
abbrev pub tells_event : (path : Text) → Tells
tells_event path t s = (s ≡ status.NoEvent) × LacksEvent t path

pub is_over_script : (q : Why) (content : Content) → IsOverScript (why_work q content) content q.file q.script (tells_event q.event)
is_over_script q content = record {
  asks = λ i h. elim h [ inl a ↦ inl a | inr a ↦ inr (a.0, (a.1.0, a.1.1, tt)) ];
  ends = λ s name h. elim h [ inl a ↦ inl a | inr a ↦ inr (a.1.0, a.1.1, (a.0, a.1.2)) ];
  parts = λ text h. (h.0, h.1, (h.2.0, h.2.1, h.2.2, tt));
  writes = λ text h. (h.0, h.1, (h.2.0, h.2.1, h.2.2, h.2.3.2.0));
  halts = λ s text h. (h.0, h.1, (h.2.0, h.2.1, h.2.2, h.2.3.2.0));
}

module _ (q : Why) (c : Reading) (o : Writing) (e : Ended) (came : Comes (why_work q c.content) c o e) (r : Status) (same : IsUnlessMemory r e.status)
    (bytes : Text) (told : c.content q.file ≡ Some bytes) (sure : Rose (c.faults q.file) (c.faults_after q.file) → ⊥) (short : length bytes ≤ source_limit)
    (t : Source) (reads : ReadsAsSource bytes t) where
  abbrev work : Work
  work = why_work q c.content

  pub no_event_is_told : LacksEvent t q.event → IsUnlessMemory r status.NoEvent
  no_event_is_told lacks = came_how work c o e came r same (IsUnlessMemory r status.NoEvent)
      (λ k h. elim h.1 [ inl a ↦ absurd (sure (subst (λ (i : Input). Failed c i) a h.3)) | inr a ↦ none a.1.0 a.1.1 a.1.2.0 a.1.2.1 ])
      (λ k is h. elim h.1 [
        | inl a ↦ let more = longer_told c h.0 (source_input q.file) bytes told a h.3 in absurd (omega (arith, more, short))
        | inr a ↦ none a.1.0 a.1.1 a.1.2.0 a.1.2.1
      ])
      (λ h. elim h [
        | inl a ↦ absurd (not_refused c q.file bytes told t reads e.status e.variable a)
        | inr a ↦ call.answers work c o e came r same status.NoEvent a.0
      ])
      (λ text w. let h = wrote_begins work o text (group_of e.status) w in none h.0 h.1 h.2.3.0 h.2.3.1)
      (λ m. inr m)
    where
      none : (u : Source) → SourceIs c.content q.file u → (n : ℕ) → event_of (names_of u) q.event ≡ Some n → IsUnlessMemory r status.NoEvent
      none u is n some =
          let here : event_of (names_of t) q.event ≡ Some n = subst (λ x. event_of (names_of x) q.event ≡ Some n) (this c q.file bytes told t reads u is) some in
          absurd (none-some n (sym lacks ∙ here))
