-- What the clauses say that are the same for every command, from how its call came to its end, where the answer is the status
-- of that end or want of memory.
use Rattle.std.proofs.Common.{◌≡◌, ℕ, Option, refl, sym, ap, subst, ◌∙◌, inl, inr}
use Rattle.std.specs.Prelude.{List}
use Rattle.grammar.specs.Pieces.{Text}
use Rattle.cif_io.specs.Faults.{Rose}
use Rattle.cif_io.specs.Written.{grown}
use Rattle.cif_run.specs.declared.status.Status.{Status}
use Rattle.cif_run.specs.declared.status.Status.TheVariants as status
use Rattle.cif_run.specs.declared.status.StopWhy.{StopWhy}
use Rattle.cif_run.specs.declared.ended.Ended.{Ended}
use Rattle.cif_run.specs.Groups.{Group, done, unread, too_long, unwritten, wanting, judged, halted, group_of, IsUnlessMemory}
use Rattle.cif_run.specs.Works.{Comes, GrewByPart, Input, Output, OutputIn, Overlong, Reading, StopsIn, Unread, Work, WroteIn, Writing, text_work}
use Rattle.cif_run.specs.Tells.{Tells, Told}
use Rattle.cif_run.proofs.TellLaws.{begins-all}

-- ---- groups

too_long_status : (s : Status) (k : ℕ) → group_of s ≡ too_long k → s ≡ status.TooBig k
too_long_status (status.TooBig j) k e = let same : j ≡ k = cc in ap (λ n. status.TooBig n) same
too_long_status _ k e = absurd cc

wanting_status : (s : Status) → group_of s ≡ wanting → s ≡ status.Memory
wanting_status status.Memory e = refl
wanting_status _ e = absurd cc

-- ---- works

-- one work does what another does
pub record IsWithin (v w : Work) : Type 0 where
  pub asks : (i : Input) → v.asks i → w.asks i
  pub writes : (text : Text) → v.writes text → w.writes text
  pub parts : (text : Text) → v.parts text → w.parts text
  pub ends : (s : Status) (name : Text) → v.ends s name → w.ends s name
  pub halts : (s : Status) (text : Text) → v.halts s text → w.halts s text

module _ (v w : Work) (within : IsWithin v w) (c : Reading) (o : Writing) (e : Ended) where
  within_stops : (g : Group) → StopsIn v c e g → StopsIn w c e g
  within_stops (unread k) h = (h.0, within.asks h.0 h.1, h.2, h.3)
  within_stops (too_long k) h = (h.0, within.asks h.0 h.1, h.2, h.3, h.4)
  within_stops wanting h = tt
  within_stops judged h = within.ends e.status e.variable h
  within_stops done h = absurd h
  within_stops unwritten h = absurd h
  within_stops (halted s) h = absurd h

  within_wrote : (text : Text) (g : Group) → WroteIn v text o g → WroteIn w text o g
  within_wrote text done h = (within.writes text h.0, h.1)
  within_wrote text unwritten h = (within.parts text h.0, h.1, h.2)
  within_wrote text wanting h = (within.parts text h.0, h.1)
  within_wrote text (halted s) h = (within.halts s text h.0, h.1)
  within_wrote text (unread k) h = absurd h
  within_wrote text (too_long k) h = absurd h
  within_wrote text judged h = absurd h

  pub within_comes : Comes v c o e → Comes w c o e
  within_comes (inl h) = inl (within_stops (group_of e.status) h.0, h.1)
  within_comes (inr h) = inr (h.0, within_wrote h.0 (group_of e.status) h.1)

-- a text that the command may write was put
module _ (w : Work) (o : Writing) (text : Text) (may : w.writes text) where
  put_wrote : (g : Group) → WroteIn (text_work text) text o g → WroteIn w text o g
  put_wrote done h = (may, h.1)
  put_wrote unwritten h = (w.whole_begins text may, h.1, h.2)
  put_wrote wanting h = (w.whole_begins text may, h.1)
  put_wrote (halted s) h = absurd h.0
  put_wrote (unread k) h = absurd h
  put_wrote (too_long k) h = absurd h
  put_wrote judged h = absurd h

  pub put_comes : (c : Reading) (e : Ended) → WroteIn (text_work text) text o (group_of e.status) → Comes w c o e
  put_comes c e h = inr (text, put_wrote (group_of e.status) h)

-- ---- commands that write nothing before their whole text is built

-- only a text that may be written whole has a beginning that may be written, and the command never halts
pub record IsWhole (w : Work) : Type 0 where
  pub parts : (text : Text) → w.parts text → w.writes text
  pub never : (s : Status) (text : Text) → w.halts s text → ⊥

whole_writes : (w : Work) → IsWhole w → (o : Writing) (text : Text) (g : Group) → WroteIn w text o g → w.writes text
whole_writes w whole o text done h = h.0
whole_writes w whole o text unwritten h = whole.parts text h.0
whole_writes w whole o text wanting h = whole.parts text h.0
whole_writes w whole o text (halted s) h = absurd (whole.never s text h.0)
whole_writes w whole o text (unread k) h = absurd h
whole_writes w whole o text (too_long k) h = absurd h
whole_writes w whole o text judged h = absurd h

-- of every command, a beginning of the text may be written
pub wrote_begins : (w : Work) (o : Writing) (text : Text) (g : Group) → WroteIn w text o g → w.parts text
wrote_begins w o text done h = w.whole_begins text h.0
wrote_begins w o text unwritten h = h.0
wrote_begins w o text wanting h = h.0
wrote_begins w o text (halted s) h = w.halted_begins s text h.0
wrote_begins w o text (unread k) h = absurd h
wrote_begins w o text (too_long k) h = absurd h
wrote_begins w o text judged h = absurd h

-- ---- the output

module _ (w : Work) (o : Writing) where
  wrote_output : (g : Group) (text : Text) → WroteIn w text o g → OutputIn w o.old o.new g
  wrote_output done text r = (text, r.0, r.1)
  wrote_output unwritten text r = (text, r.0, r.2)
  wrote_output wanting text r = inr (text, r.0, r.1)
  wrote_output (halted s) text r = (text, r.0, r.1)
  wrote_output (unread k) text r = absurd r
  wrote_output (too_long k) text r = absurd r
  wrote_output judged text r = absurd r

  wrote_part : (g : Group) (text : Text) → WroteIn w text o g → GrewByPart text o.old o.new
  wrote_part done text r = begins-all text o.old o.new r.1
  wrote_part unwritten text r = r.2
  wrote_part wanting text r = r.1
  wrote_part (halted s) text r = begins-all text o.old o.new r.1
  wrote_part (unread k) text r = absurd r
  wrote_part (too_long k) text r = absurd r
  wrote_part judged text r = absurd r

module _ (w : Work) (c : Reading) (o : Writing) (e : Ended) (came : Comes w c o e) where
  stopped_output : (g : Group) → StopsIn w c e g → o.new ≡ o.old → OutputIn w o.old o.new g
  stopped_output (unread k) h same = same
  stopped_output (too_long k) h same = same
  stopped_output wanting h same = inl same
  stopped_output judged h same = same
  stopped_output done h same = absurd h
  stopped_output unwritten h same = absurd h
  stopped_output (halted s) h same = absurd h

  came_output : Output w o.old o.new e.status
  came_output = go came
    where
      go : Comes w c o e → Output w o.old o.new e.status
      go (inl h) = stopped_output (group_of e.status) h.0 h.1
      go (inr h) = wrote_output w o (group_of e.status) h.0 h.1

  wanting_output : OutputIn w o.old o.new wanting
  wanting_output = go came
    where
      go : Comes w c o e → OutputIn w o.old o.new wanting
      go (inl h) = inl h.1
      go (inr h) = inr (h.0, wrote_begins w o h.0 (group_of e.status) h.1, wrote_part w o (group_of e.status) h.0 h.1)

  module _ (r : Status) (same : IsUnlessMemory r e.status) where
    -- an answer other than want of memory is the status
    pub came_to : (t : Status) → (t ≡ status.Memory → ⊥) → r ≡ t → e.status ≡ t
    came_to t other q = elim same [ inl p ↦ sym p ∙ q | inr p ↦ absurd (other (sym q ∙ p)) ]

    -- where the call came to t, so is the answer, want of memory aside
    pub answers : (t : Status) → e.status ≡ t → IsUnlessMemory r t
    answers t q = elim same [ inl p ↦ inl (p ∙ q) | inr p ↦ inr p ]

    pub want : e.status ≡ status.Memory → r ≡ status.Memory
    want is = elim same [ inl p ↦ p ∙ is | inr p ↦ p ]

    -- there was no text, where a text does not lead to this status
    stopped_at : (t : Status) → (t ≡ status.Memory → ⊥) → ((text : Text) → WroteIn w text o (group_of t) → ⊥) → r ≡ t → StopsIn w c e (group_of t)
    stopped_at t other none q = go came
      where
        is : e.status ≡ t
        is = came_to t other q

        go : Comes w c o e → StopsIn w c e (group_of t)
        go (inl h) = subst (λ s. StopsIn w c e (group_of s)) is h.0
        go (inr h) = absurd (none h.0 (subst (λ s. WroteIn w h.0 o (group_of s)) is h.1))

    -- a text was written, where without one the command does not come to this status
    wrote_at : (t : Status) → (t ≡ status.Memory → ⊥) → (StopsIn w c e (group_of t) → ⊥) → r ≡ t → (text : Text) × WroteIn w text o (group_of t)
    wrote_at t other none q = go came
      where
        is : e.status ≡ t
        is = came_to t other q

        go : Comes w c o e → (text : Text) × WroteIn w text o (group_of t)
        go (inl h) = absurd (none (subst (λ s. StopsIn w c e (group_of s)) is h.0))
        go (inr h) = (h.0, subst (λ s. WroteIn w h.0 o (group_of s)) is h.1)

    pub read_fault : (k : ℕ) → r ≡ status.ReadFault k → Unread w c k
    read_fault k q = stopped_at (status.ReadFault k) (λ z. cc) (λ t h. h) q

    pub too_big : (k : ℕ) → r ≡ status.TooBig k → Overlong w c k
    too_big k q = let h = stopped_at (status.TooBig k) (λ z. cc) (λ t x. x) q in (h.0, h.1, h.2, h.3)

    -- a status of which the command says why
    pub ended_so : (t : Status) → (t ≡ status.Memory → ⊥) → group_of t ≡ judged → r ≡ t → w.ends t e.variable
    ended_so t other is_judged q =
        let h : StopsIn w c e judged = subst (StopsIn w c e) is_judged (stopped_at t other (λ text x. subst (WroteIn w text o) is_judged x) q) in
        subst (λ s. w.ends s e.variable) (came_to t other q) h

    pub write_fault : r ≡ status.WriteFault → Rose o.faults o.faults_after
    write_fault q = let h = wrote_at status.WriteFault (λ z. cc) (λ x. x) q in h.1.1

    pub written : r ≡ status.Done → (text : Text) × w.writes text × (o.new ≡ grown o.old text)
    written q = let h = wrote_at status.Done (λ z. cc) (λ x. x) q in (h.0, h.1.0, h.1.1)

    -- a status with which the command stopped on its way
    pub halted_so : (k : ℕ) (why : StopWhy) → r ≡ status.Stopped k why → (text : Text) × w.halts (status.Stopped k why) text × (o.new ≡ grown o.old text)
    halted_so k why q = let h = wrote_at (status.Stopped k why) (λ z. cc) (λ x. x) q in (h.0, h.1.0, h.1.1)

    pub output : Output w o.old o.new r
    output = elim same [
      | inl p ↦ subst (Output w o.old o.new) (sym p) came_output
      | inr p ↦ subst (Output w o.old o.new) (sym p) wanting_output
    ]

    pub told : (words : List Text) (old new : Option Text) (rose : Type 0) → Tells words e old new rose r → Told words w c o old new rose r
    told words old new rose h = (e, came, h)

    -- where the output did not fail, a command with a text that does not halt is done
    pub finished : (Rose o.faults o.faults_after → ⊥) → ((s : Status) (text : Text) → w.halts s text → ⊥) → (text : Text) (t : Status) → e.status ≡ t
        → WroteIn w text o (group_of t) → IsUnlessMemory r status.Done
    finished quiet never text status.Done is h = answers status.Done is
    finished quiet never text status.WriteFault is h = absurd (quiet h.1)
    finished quiet never text status.Memory is h = inr (want is)
    finished quiet never text (status.Stopped k why) is h = absurd (never (status.Stopped k why) text h.0)
    finished quiet never text _ is h = absurd h

    -- What became of a call: a file was not read or is too long, the command ended so, it has a text, or no memory was found.
    pub came_how : (B : Type 0) → ((k : ℕ) → Unread w c k → B) → ((k : ℕ) → e.status ≡ status.TooBig k → Overlong w c k → B)
        → (w.ends e.status e.variable → B) → ((text : Text) → WroteIn w text o (group_of e.status) → B)
        → (r ≡ status.Memory → B) → B
    came_how B unread_file long_file ended wrote memory = go came
      where
        by : (g : Group) → group_of e.status ≡ g → StopsIn w c e g → B
        by (unread k) is h = unread_file k h
        by (too_long k) is h = long_file k (too_long_status e.status k is) (h.0, h.1, h.2, h.3)
        by wanting is h = memory (want (wanting_status e.status is))
        by judged is h = ended h
        by done is h = absurd h
        by unwritten is h = absurd h
        by (halted s) is h = absurd h

        go : Comes w c o e → B
        go (inl h) = by (group_of e.status) refl h.0
        go (inr h) = wrote h.0 h.1

    -- the same of a command that writes nothing before its whole text is built
    pub came_whole : IsWhole w → (B : Type 0) → ((k : ℕ) → Unread w c k → B) → ((k : ℕ) → e.status ≡ status.TooBig k → Overlong w c k → B)
        → (w.ends e.status e.variable → B) → ((text : Text) → w.writes text → WroteIn w text o (group_of e.status) → B)
        → (r ≡ status.Memory → B) → B
    came_whole whole B unread_file long_file ended wrote memory =
        came_how B unread_file long_file ended (λ text h. wrote text (whole_writes w whole o text (group_of e.status) h) h) memory
