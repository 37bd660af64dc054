-- Which answer a command over the source in a file has, where the file is told and no read of it fails, want of memory aside.
use Rattle.std.proofs.Common.{◌≡◌, ℕ, ◌<◌, ◌≤◌, ◌⊎◌, length, Option, Some, refl, sym, ap, subst, ◌∙◌, inl, inr, arith}
use Rattle.std.specs.Prelude.{IfSome, MatchOption}
use Rattle.grammar.specs.Pieces.{Text}
use Rattle.cif_refusal.specs.declared.refusal.Refusal.{Refusal}
use Rattle.cif_source.specs.Source.{Source}
use Rattle.cif_io.specs.Faults.{Rose}
use Rattle.cif_run.specs.declared.status.Status.{Status}
use Rattle.cif_run.specs.declared.status.Status.TheVariants as status
use Rattle.cif_run.specs.declared.status.ProfileWhy.TheVariants as profile
use Rattle.cif_run.specs.declared.ended.Ended.{Ended}
use Rattle.cif_run.specs.Groups.{group_of, IsUnlessMemory}
use Rattle.cif_run.specs.Works.{Comes, Content, Failed, Holds, Input, IsLonger, Reading, Work, Writing}
use Rattle.cif_run.proofs.CallLaws.{came_how, wrote_begins}
use Rattle.cif_run.proofs.CallLaws as call
use Rattle.cif_front.specs.Dues.{HasTooMany, IsRefused}
use Rattle.cif_front.specs.Loads.{ReadsAsSource}
use Rattle.cif_accept.specs.Accepts.{FileRefused, HasSource, SourceHas, SourceHasTooMany, SourceIs, SourceRefused, source_input, source_limit}
use Rattle.cif_accept.proofs.SourceLaws.{one_source, refused_reads_none, too_many_none}

-- Another file is asked for, a text is written, and what isn't a refusal of the source is told, only where the file holds a source.
pub record IsOverSource (w : Work) (content : Content) (file : Text) : Type 0 where
  pub asks : (i : Input) → w.asks i → (i ≡ source_input file) ⊎ HasSource content file
  pub ends : (s : Status) (name : Text) → w.ends s name → FileRefused content file s name ⊎ HasSource content file
  pub parts : (text : Text) → w.parts text → HasSource content file

-- ---- files that are told

pub longer_told : (c : Reading) (i j : Input) (bytes : Text) → c.content j.name ≡ Some bytes → i ≡ j → IsLonger c i → j.limit < length bytes
longer_told c i j bytes told is h = subst (λ (y : Option Text). MatchOption y (j.limit < c.most_after j.name) (λ b. j.limit < length b)) told
    (subst (λ (x : Input). IsLonger c x) is h)

pub held : (told : Option Text) (bytes b : Text) → told ≡ Some bytes → Holds told b → b ≡ bytes
held told bytes b is h = subst (λ (y : Option Text). IfSome y (λ z. b ≡ z)) is h

-- ---- a source that is refused

-- the statuses by which a source is refused
abbrev Refuses : Content → Text → Status → Type 0
Refuses content file s = ((why : Refusal) × (s ≡ status.Refused why) × SourceRefused content file why)
    ⊎ ((count : ℕ) × (s ≡ status.OutsideProfile (profile.TooManyChoices count)) × SourceHasTooMany content file count)

refused_as : (content : Content) (file : Text) (s : Status) (name : Text) → FileRefused content file s name → Refuses content file s
refused_as content file (status.Refused why) name h = inl (why, refl, (h.0, h.1, h.2, h.3.0))
refused_as content file (status.OutsideProfile (profile.TooManyChoices count)) name h = inr (count, refl, h)
refused_as content file (status.OutsideProfile (profile.Unclassed event)) name h = absurd h
refused_as content file _ name h = absurd h

module _ (c : Reading) (file bytes : Text) (told : c.content file ≡ Some bytes) where
  of_bytes : (Q : Text → Type 0) → SourceHas c.content file Q → (length bytes ≤ source_limit) × Q bytes
  of_bytes Q h =
      let is = held (c.content file) bytes h.0 told h.1 in
      (subst (λ b. length b ≤ source_limit) is h.2, subst Q is h.3)

  pub is_read : (t : Source) → SourceIs c.content file t → (length bytes ≤ source_limit) × ReadsAsSource bytes t
  is_read t h = of_bytes (λ b. ReadsAsSource b t) h

  refused_short : (s : Status) (name : Text) → FileRefused c.content file s name → length bytes ≤ source_limit
  refused_short s name h = elim (refused_as c.content file s name h) [
    | inl q ↦ (of_bytes (λ b. IsRefused b q.0) q.2).0
    | inr q ↦ (of_bytes (λ b. HasTooMany b q.0) q.2).0
  ]

  module _ (t : Source) (reads : ReadsAsSource bytes t) where
    pub not_refused : (s : Status) (name : Text) → FileRefused c.content file s name → ⊥
    not_refused s name h = elim (refused_as c.content file s name h) [
      | inl q ↦ refused_reads_none bytes t reads q.0 (of_bytes (λ b. IsRefused b q.0) q.2).1
      | inr q ↦ too_many_none bytes t reads q.0 (of_bytes (λ b. HasTooMany b q.0) q.2).1
    ]

    pub this : (u : Source) → SourceIs c.content file u → u ≡ t
    this u h = one_source bytes u t (is_read u h).1 reads

-- ---- the answers

module _ (w : Work) (c : Reading) (o : Writing) (e : Ended) (came : Comes w c o e) (r : Status) (same : IsUnlessMemory r e.status)
    (file : Text) (over : IsOverSource w c.content file) (bytes : Text) (told : c.content file ≡ Some bytes)
    (sure : Rose (c.faults file) (c.faults_after file) → ⊥) where
  -- what became of the call where the file holds no source
  by_source : (B : Type 0) → (HasSource c.content file → B) → (source_limit < length bytes → e.status ≡ status.TooBig 1 → B)
      → (FileRefused c.content file e.status e.variable → B) → (r ≡ status.Memory → B) → B
  by_source B some long refused memory = came_how w c o e came r same B
      (λ k h. elim (over.asks h.0 h.1) [ inl a ↦ absurd (sure (subst (λ (i : Input). Failed c i) a h.3)) | inr a ↦ some a ])
      (λ k is h. elim (over.asks h.0 h.1) [
        | inl a ↦ long (longer_told c h.0 (source_input file) bytes told a h.3) (is ∙ ap (λ n. status.TooBig n) (sym h.2 ∙ ap (λ (i : Input). i.word) a))
        | inr a ↦ some a
      ])
      (λ h. elim (over.ends e.status e.variable h) [ inl a ↦ refused a | inr a ↦ some a ])
      (λ text h. some (over.parts text (wrote_begins w o text (group_of e.status) h)))
      memory

  pub longer_is_too_big : source_limit < length bytes → IsUnlessMemory r (status.TooBig 1)
  longer_is_too_big more = by_source (IsUnlessMemory r (status.TooBig 1))
      (λ h. not_short (is_read c file bytes told h.0 h.1).0)
      (λ q is. call.answers w c o e came r same (status.TooBig 1) is)
      (λ h. not_short (refused_short c file bytes told e.status e.variable h))
      (λ m. inr m)
    where
      not_short : length bytes ≤ source_limit → IsUnlessMemory r (status.TooBig 1)
      not_short short = absurd (omega (arith, short, more))

  pub other_text_is_refused : length bytes ≤ source_limit → ((t : Source) → ReadsAsSource bytes t → ⊥)
      → ((why : Refusal) × (r ≡ status.Refused why)) ⊎ ((count : ℕ) × (r ≡ status.OutsideProfile (profile.TooManyChoices count))) ⊎ (r ≡ status.Memory)
  other_text_is_refused short none =
      by_source (((why : Refusal) × (r ≡ status.Refused why)) ⊎ ((count : ℕ) × (r ≡ status.OutsideProfile (profile.TooManyChoices count))) ⊎ (r ≡ status.Memory))
      (λ h. absurd (none h.0 (is_read c file bytes told h.0 h.1).1))
      (λ q is. absurd (omega (arith, q, short)))
      (λ h. elim (refused_as c.content file e.status e.variable h) [
        | inl q ↦ elim (call.answers w c o e came r same (status.Refused q.0) q.1) [ inl z ↦ inl (q.0, z) | inr z ↦ inr (inr z) ]
        | inr q ↦ elim (call.answers w c o e came r same (status.OutsideProfile (profile.TooManyChoices q.0)) q.1) [ inl z ↦ inr (inl (q.0, z)) | inr z ↦ inr (inr z) ]
      ])
      (λ m. inr (inr m))
