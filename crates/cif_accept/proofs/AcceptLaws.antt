-- What the clauses about one source say, from how a call over it came to its end.
use Rattle.std.proofs.Common.{◌≡◌, ℕ, ◌≤◌, length, Some, refl, sym, subst, inl, inr, arith}
use Rattle.grammar.specs.Pieces.{Text}
use Rattle.cif_io.specs.Faults.{Rose}
use Rattle.cif_refusal.specs.declared.refusal.Refusal.{Refusal}
use Rattle.cif_run.specs.declared.status.Status.{Status}
use Rattle.cif_run.specs.declared.status.Status.TheVariants as status
use Rattle.cif_run.specs.declared.status.ProfileWhy.TheVariants as profile
use Rattle.cif_run.specs.declared.ended.Ended.{Ended}
use Rattle.cif_run.specs.Groups.{group_of, IsUnlessMemory}
use Rattle.cif_run.specs.Works.{Comes, Content, Failed, Holds, Input, Overlong, Reading, StopsIn, Unread, Work, Writing}
use Rattle.cif_run.proofs.CallLaws.{IsWhole, IsWithin, came_whole, ended_so, finished}
use Rattle.cif_source.specs.Source.{Source}
use Rattle.cif_front.specs.Loads.{ReadsAsSource}
use Rattle.cif_net.specs.declared.guarded.Guarded.{Guarded}
use Rattle.cif_front.specs.Loads.{Loads}
use Rattle.cif_accept.specs.Accepts.{CommandEnds, FileRefused, IsLoaded, SourceEnds, SourceHasTooMany, SourceRefused, silent_work, source_input, source_limit, source_work}
use Rattle.cif_accept.proofs.OverSource.{IsOverSource, longer_told, not_refused, this}

-- ---- the reader

-- the source of the file ends a command so
pub source_stops : (content : Content) (file bytes : Text) → Holds (content file) bytes → length bytes ≤ source_limit → (c : Reading) (e : Ended) (s : Status)
    → e.status ≡ s → SourceEnds bytes s e.variable → StopsIn (silent_work content file) c e (group_of s)
source_stops content file bytes holds short c e (status.Refused why) is h =
    inl (subst (λ x. FileRefused content file x e.variable) (sym is) (bytes, holds, short, h))
source_stops content file bytes holds short c e (status.OutsideProfile (profile.TooManyChoices count)) is h =
    inl (subst (λ x. FileRefused content file x e.variable) (sym is) (bytes, holds, short, h))
source_stops content file bytes holds short c e (status.OutsideProfile (profile.Unclassed event)) is h = absurd h
source_stops content file bytes holds short c e status.Memory is h = tt
source_stops content file bytes holds short c e _ is h = absurd h

-- the net of the bytes of the file is that of the source in it
pub file_loaded : (content : Content) (file bytes : Text) (g : Guarded) → Holds (content file) bytes → length bytes ≤ source_limit → Loads bytes g → IsLoaded content file g
file_loaded content file bytes g holds short l = (l.0, (bytes, holds, short, l.1), l.2)

-- a command over the source may end as one that writes nothing
pub silent_within : (content : Content) (file : Text) (P : Source → Text → Type 0) (E : CommandEnds) → IsWithin (silent_work content file) (source_work content file P E)
silent_within content file P E = record {
  asks = λ i h. h;
  writes = λ text h. absurd h.2;
  parts = λ text h. absurd h.2;
  ends = λ s name h. elim h [ inl x ↦ inl x | inr x ↦ absurd x.2 ];
  halts = λ s text h. absurd h;
}

-- it is a command over the source
pub over_source : (content : Content) (file : Text) (P : Source → Text → Type 0) (E : CommandEnds) → IsOverSource (source_work content file P E) content file
over_source content file P E = record {
  asks = λ i h. inl h;
  ends = λ s name h. elim h [ inl x ↦ inl x | inr x ↦ inr (x.0, x.1, tt) ];
  parts = λ text h. (h.0, h.1, tt);
}

-- ---- the clauses

-- a command tells of a source that breaks no rule by statuses of its own
pub record TellsItsOwn (E : CommandEnds) : Type 0 where
  pub refused : (t : Source) (why : Refusal) (name : Text) → E t (status.Refused why) name → ⊥
  pub many : (t : Source) (count : ℕ) (name : Text) → E t (status.OutsideProfile (profile.TooManyChoices count)) name → ⊥

module _ (file : Text) (P : Source → Text → Type 0) (E : CommandEnds) (c : Reading) (o : Writing) (e : Ended)
    (came : Comes (source_work c.content file P E) c o e) (r : Status) (same : IsUnlessMemory r e.status) where
  abbrev work : Work
  work = source_work c.content file P E

  whole : IsWhole work
  whole = record { parts = λ text h. h; never = λ s text h. h }

  pub refused : TellsItsOwn E → (why : Refusal) → r ≡ status.Refused why → SourceRefused c.content file why
  refused own why q = elim (ended_so work c o e came r same (status.Refused why) (λ z. cc) refl q) [
    | inl h ↦ (h.0, h.1, h.2, h.3.0)
    | inr h ↦ absurd (own.refused h.0 why e.variable h.2)
  ]

  pub too_many : TellsItsOwn E → (count : ℕ) → r ≡ status.OutsideProfile (profile.TooManyChoices count) → SourceHasTooMany c.content file count
  too_many own count q = elim (ended_so work c o e came r same (status.OutsideProfile (profile.TooManyChoices count)) (λ z. cc) refl q) [
    | inl h ↦ h
    | inr h ↦ absurd (own.many h.0 count e.variable h.2)
  ]

  module _ (bytes : Text) (told : c.content file ≡ Some bytes) (sure : Rose (c.faults file) (c.faults_after file) → ⊥) (short : length bytes ≤ source_limit)
      (t : Source) (reads : ReadsAsSource bytes t) where
    no_file : {B : Type 0} (k : ℕ) → Unread work c k → B
    no_file k h = absurd (sure (subst (λ (i : Input). Failed c i) h.1 h.3))

    not_long : {B : Type 0} (k : ℕ) → e.status ≡ status.TooBig k → Overlong work c k → B
    not_long k is h = let q = longer_told c h.0 (source_input file) bytes told h.1 h.3 in absurd (omega (arith, q, short))

    tells : {B : Type 0} → (E t e.status e.variable → B) → work.ends e.status e.variable → B
    tells ends (inl x) = absurd (not_refused c file bytes told t reads e.status e.variable x)
    tells ends (inr x) = ends (subst (λ u. E u e.status e.variable) (this c file bytes told t reads x.0 x.1) x.2)

    has_text : (text : Text) → work.writes text → P t text
    has_text text h = subst (λ u. P u text) (this c file bytes told t reads h.0 h.1) h.2

    -- a source that breaks no rule has its text, or the command tells of it
    pub source_is_done : (Rose o.faults o.faults_after → ⊥) → ((s : Status) (name : Text) → E t s name → ⊥) → IsUnlessMemory r status.Done
    source_is_done quiet none = came_whole work c o e came r same whole (IsUnlessMemory r status.Done) no_file not_long
        (tells (λ h. absurd (none e.status e.variable h)))
        (λ text h w. finished work c o e came r same quiet whole.never text e.status refl w)
        (λ m. inr m)

    -- what has no text is told by the command, whether the output fails or not
    pub told_of : (B : Type 0) → (E t e.status e.variable → B) → ((text : Text) → P t text → ⊥) → (r ≡ status.Memory → B) → B
    told_of B ends none memory = came_whole work c o e came r same whole B no_file not_long (tells ends)
        (λ text h w. absurd (none text (has_text text h)))
        memory
