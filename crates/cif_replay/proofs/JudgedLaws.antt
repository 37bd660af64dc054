-- What a command over a program and a second file promises, from how its call came to its end, where the answer is the status of that
-- end or want of memory.
use Rattle.std.proofs.Common.{◌≡◌, ℕ, ◌<◌, ◌≤◌, ◌⊎◌, length, Option, Some, refl, sym, ap, subst, ◌∙◌, inl, inr, arith}
use Rattle.std.specs.Prelude.{IfSome, MatchOption}
use Rattle.grammar.specs.Pieces.{Text}
use Rattle.cif_io.specs.Faults.{Rose}
use Rattle.cif_io.specs.Written.{grown}
use Rattle.st_ast.specs.Tree.{Program}
use Rattle.st_ast.specs.Exec.{Outcome, OutOfTurns}
use Rattle.st_ast.specs.ReadsAs.{ReadsAsProgram}
use Rattle.st_scan.specs.Endings.{stopped}
use Rattle.st_scan.specs.declared.error.ScanErr.{ScanErr}
use Rattle.st_scan.specs.declared.error.ScanErr.TheVariants as scan
use Rattle.plc_rows.specs.declared.error.RowErr.{RowErr}
use Rattle.cif_run.specs.declared.status.Status.{Status}
use Rattle.cif_run.specs.declared.status.Status.TheVariants as status
use Rattle.cif_run.specs.declared.status.StRefusal.{StRefusal}
use Rattle.cif_run.specs.declared.ended.Ended.{Ended}
use Rattle.cif_run.specs.Groups.{group_of, IsUnlessMemory}
use Rattle.cif_run.specs.Works.{Comes, Content, Failed, Holds, Input, IsLonger, Reading, Unread, Work, WroteIn, Writing}
use Rattle.cif_run.proofs.CallLaws.{IsWhole, came_whole, ended_so, finished, written}
use Rattle.cif_run.proofs.CallLaws as call
use Rattle.cif_replay.specs.Words.{Replay}
use Rattle.cif_replay.specs.Replaying.{IsStRefused, Reads, status_of_scan}
use Rattle.cif_replay.specs.Judged.{AreRefused, Judge, JudgedEnds, OfBoth, OfFirst, Stop, Write, judged_work, rows_input, rows_limit, st_input, st_limit}
use Rattle.cif_replay.proofs.ReplayLemmas.{refused_reads_none}

-- What is judged of a text is one thing.
pub record Lawful (j : Judge) : Type 0 where
  pub one_rule : (p : Program) (text : Text) (a b : RowErr) → j.refused p text a → j.refused p text b → a ≡ b
  pub not_stopped : (p : Program) (text : Text) (why : RowErr) (k : ℕ) (f : ScanErr) → j.refused p text why → j.stops p text k (stopped f) → ⊥
  pub not_written : (p : Program) (text : Text) (why : RowErr) (out : Text) → j.refused p text why → j.writes p text out → ⊥
  pub one_scan : (p : Program) (text : Text) (i k : ℕ) (f g : ScanErr) → j.stops p text i (stopped f) → j.stops p text k (stopped g) → (i ≡ k) × (f ≡ g)
  pub stopped_writes_none : (p : Program) (text : Text) (k : ℕ) (f : ScanErr) (out : Text) → j.stops p text k (stopped f) → j.writes p text out → ⊥

-- which of the ends it was
ended_how : (j : Judge) (content : Content) (x : Replay) (B : Type 0) (s : Status) (name : Text) → JudgedEnds j content x s name
    → ((why : StRefusal) → s ≡ status.StRefused why → OfFirst content x (λ st. IsStRefused st why) → B)
    → ((why : RowErr) → s ≡ status.RowRefused why → OfBoth content x (λ st rows. AreRefused j st rows why) → B)
    → ((k : ℕ) (f : ScanErr) → s ≡ status.ScanFault k f → (f ≡ scan.Budget → ⊥) → OfBoth content x (λ st rows. Stop j st rows k (stopped f)) → B)
    → ((k : ℕ) → s ≡ status.Budget k → OfBoth content x (λ st rows. Stop j st rows k OutOfTurns) → B) → B
ended_how j content x B (status.StRefused why) name h a b c d = a why refl (h.0, h.1, h.2, h.3.0)
ended_how j content x B (status.RowRefused why) name h a b c d = b why refl h
ended_how j content x B (status.ScanFault k f) name h a b c d = c k f refl h.0 (h.1.0, h.1.1, h.1.2, h.1.3, h.1.4, h.1.5, h.1.6.0)
ended_how j content x B (status.Budget k) name h a b c d = d k refl h
ended_how j content x B _ name h a b c d = absurd h

module _ (j : Judge) (x : Replay) (c : Reading) (o : Writing) (e : Ended) (came : Comes (judged_work j x c.content) c o e) (r : Status) (same : IsUnlessMemory r e.status) where
  abbrev work : Work
  work = judged_work j x c.content

  whole : IsWhole work
  whole = record { parts = λ text h. h; never = λ s text h. h }

  answer : (t : Status) → e.status ≡ t → IsUnlessMemory r t
  answer = call.answers work c o e came r same

  pub written_whole : r ≡ status.Done → (text : Text) × OfBoth c.content x (λ st rows. Write j st rows text) × (o.new ≡ grown o.old text)
  written_whole q = written work c o e came r same q

  pub program_refused : (why : StRefusal) → r ≡ status.StRefused why → OfFirst c.content x (λ st. IsStRefused st why)
  program_refused why q = let h = ended_so work c o e came r same (status.StRefused why) (λ z. cc) refl q in (h.0, h.1, h.2, h.3.0)

  pub rows_refused : (why : RowErr) → r ≡ status.RowRefused why → OfBoth c.content x (λ st rows. AreRefused j st rows why)
  rows_refused why q = ended_so work c o e came r same (status.RowRefused why) (λ z. cc) refl q

  pub scan_fault : (k : ℕ) (f : ScanErr) → r ≡ status.ScanFault k f → (f ≡ scan.Budget → ⊥) × OfBoth c.content x (λ st rows. Stop j st rows k (stopped f))
  scan_fault k f q =
      let h = ended_so work c o e came r same (status.ScanFault k f) (λ z. cc) refl q in
      (h.0, (h.1.0, h.1.1, h.1.2, h.1.3, h.1.4, h.1.5, h.1.6.0))

  pub budget : (k : ℕ) → r ≡ status.Budget k → OfBoth c.content x (λ st rows. Stop j st rows k OutOfTurns)
  budget k q = ended_so work c o e came r same (status.Budget k) (λ z. cc) refl q

  -- ---- the program

  module _ (st : Text) (told : c.content x.st ≡ Some st) (sure : Rose (c.faults x.st) (c.faults_after x.st) → ⊥) where
    held : (b : Text) → Holds (c.content x.st) b → b ≡ st
    held b h = subst (λ (y : Option Text). IfSome y (λ z. b ≡ z)) told h

    -- what is so of the first file is so of this text
    at_first : (P : Text → Type 0) → OfFirst c.content x P → (length st ≤ st_limit) × P st
    at_first P h = (subst (λ b. length b ≤ st_limit) (held h.0 h.1) h.2, subst P (held h.0 h.1) h.3)

    first_of : (P : Text → Text → Type 0) → OfBoth c.content x P → length st ≤ st_limit
    first_of P h = subst (λ b. length b ≤ st_limit) (held h.0 h.2) h.4

    long_first : (i : Input) → i ≡ st_input x → IsLonger c i → st_limit < length st
    long_first i is h = subst (λ (y : Option Text). MatchOption y (st_limit < c.most_after x.st) (λ b. st_limit < length b)) told (subst (λ (j : Input). IsLonger c j) is h)

    not_first : (i : Input) → i ≡ st_input x → Failed c i → ⊥
    not_first i is h = sure (subst (λ (j : Input). Failed c j) is h)

    pub longer_program_is_too_big : st_limit < length st → IsUnlessMemory r (status.TooBig 1)
    longer_program_is_too_big more =
        came_whole work c o e came r same whole (IsUnlessMemory r (status.TooBig 1))
        (λ k h. elim h.1 [ inl a ↦ absurd (not_first h.0 a h.3) | inr a ↦ not_short (at_first Reads a.1).0 ])
        (λ k is h. elim h.1 [
          | inl a ↦ answer (status.TooBig 1) (is ∙ ap (λ n. status.TooBig n) (sym h.2 ∙ ap (λ (i : Input). i.word) a))
          | inr a ↦ not_short (at_first Reads a.1).0
        ])
        (λ h. ended_how j c.content x (IsUnlessMemory r (status.TooBig 1)) e.status e.variable h
        (λ why is g. not_short (at_first (λ b. IsStRefused b why) g).0)
        (λ why is g. not_short (first_of (λ b us. AreRefused j b us why) g))
        (λ k f is nb g. not_short (first_of (λ b us. Stop j b us k (stopped f)) g))
        (λ k is g. not_short (first_of (λ b us. Stop j b us k OutOfTurns) g)))
        (λ text h w. not_short (first_of (λ b us. Write j b us text) h))
        (λ m. inr m)
      where
        not_short : {B : Type 0} → length st ≤ st_limit → B
        not_short short = absurd (omega (arith, short, more))

    abbrev Refused : Type 0
    Refused = ((why : StRefusal) × (r ≡ status.StRefused why)) ⊎ (r ≡ status.Memory)

    pub other_program_is_refused : length st ≤ st_limit → ((p : Program) → ReadsAsProgram st p → ⊥)
        → ((why : StRefusal) × (r ≡ status.StRefused why)) ⊎ (r ≡ status.Memory)
    other_program_is_refused short none =
        came_whole work c o e came r same whole Refused
        (λ k h. elim h.1 [ inl a ↦ absurd (not_first h.0 a h.3) | inr a ↦ absurd (let q = (at_first Reads a.1).1 in none q.0 q.1) ])
        (λ k is h. elim h.1 [
          | inl a ↦ let q = long_first h.0 a h.3 in absurd (omega (arith, q, short))
          | inr a ↦ absurd (let q = (at_first Reads a.1).1 in none q.0 q.1)
        ])
        (λ h. ended_how j c.content x Refused e.status e.variable h
        (λ why is g. elim (answer (status.StRefused why) is) [ inl q ↦ inl (why, q) | inr q ↦ inr q ])
        (λ why is g. absurd (read g.0 (held g.0 g.2) g.6.0 g.6.1))
        (λ k f is nb g. absurd (read g.0 (held g.0 g.2) g.6.0 g.6.1))
        (λ k is g. absurd (read g.0 (held g.0 g.2) g.6.0 g.6.1)))
        (λ text h w. absurd (read h.0 (held h.0 h.2) h.6.0 h.6.1))
        (λ m. inr m)
      where
        read : (b : Text) → b ≡ st → (p : Program) → ReadsAsProgram b p → ⊥
        read b is p h = none p (subst (λ y. ReadsAsProgram y p) is h)

    -- ---- the rows and the scans

    module _ (rows : Text) (told_rows : c.content x.rows ≡ Some rows) (sure_rows : Rose (c.faults x.rows) (c.faults_after x.rows) → ⊥)
        (fits : length st ≤ st_limit) where
      held_rows : (b : Text) → Holds (c.content x.rows) b → b ≡ rows
      held_rows b h = subst (λ (y : Option Text). IfSome y (λ z. b ≡ z)) told_rows h

      -- what is so of both files is so of these texts
      at_both : (P : Text → Text → Type 0) → OfBoth c.content x P → (length rows ≤ rows_limit) × P st rows
      at_both P h = (
        subst (λ b. length b ≤ rows_limit) (held_rows h.1 h.3) h.5,
        subst (λ b. P b rows) (held h.0 h.2) (subst (λ b. P h.0 b) (held_rows h.1 h.3) h.6),
      )

      long_second : (i : Input) → i ≡ rows_input x → IsLonger c i → rows_limit < length rows
      long_second i is h =
          subst (λ (y : Option Text). MatchOption y (rows_limit < c.most_after x.rows) (λ b. rows_limit < length b)) told_rows (subst (λ (j : Input). IsLonger c j) is h)

      not_second : (i : Input) → i ≡ rows_input x → Failed c i → ⊥
      not_second i is h = sure_rows (subst (λ (j : Input). Failed c j) is h)

      no_file : (k : ℕ) → Unread work c k → ⊥
      no_file k h = elim h.1 [ inl a ↦ not_first h.0 a h.3 | inr a ↦ not_second h.0 a.0 h.3 ]

      pub longer_rows_are_too_big : Reads st → rows_limit < length rows → IsUnlessMemory r (status.TooBig 2)
      longer_rows_are_too_big reads more =
          came_whole work c o e came r same whole (IsUnlessMemory r (status.TooBig 2))
          (λ k h. absurd (no_file k h))
          (λ k is h. elim h.1 [
            | inl a ↦ let q = long_first h.0 a h.3 in absurd (omega (arith, q, fits))
            | inr a ↦ answer (status.TooBig 2) (is ∙ ap (λ n. status.TooBig n) (sym h.2 ∙ ap (λ (i : Input). i.word) a.0))
          ])
          (λ h. ended_how j c.content x (IsUnlessMemory r (status.TooBig 2)) e.status e.variable h
          (λ why is g. absurd (refused_reads_none st why (at_first (λ b. IsStRefused b why) g).1 reads.0 reads.1))
          (λ why is g. not_short (at_both (λ b us. AreRefused j b us why) g).0)
          (λ k f is nb g. not_short (at_both (λ b us. Stop j b us k (stopped f)) g).0)
          (λ k is g. not_short (at_both (λ b us. Stop j b us k OutOfTurns) g).0))
          (λ text h w. not_short (at_both (λ b us. Write j b us text) h).0)
          (λ m. inr m)
        where
          not_short : {B : Type 0} → length rows ≤ rows_limit → B
          not_short short = absurd (omega (arith, short, more))

      module _ (short : length rows ≤ rows_limit) (p : Program) (reads : ReadsAsProgram st p) where
        -- with files of which none fails or is too long, and a program that is read
        both : {B : Type 0} → (r ≡ status.Memory → B)
            → ((why : RowErr) → e.status ≡ status.RowRefused why → AreRefused j st rows why → B)
            → ((k : ℕ) (f : ScanErr) → e.status ≡ status.ScanFault k f → (f ≡ scan.Budget → ⊥) → Stop j st rows k (stopped f) → B)
            → ((k : ℕ) → e.status ≡ status.Budget k → Stop j st rows k OutOfTurns → B)
            → ((text : Text) → Write j st rows text → WroteIn work text o (group_of e.status) → B)
            → B
        both {B = B} m a b d t =
            came_whole work c o e came r same whole B (λ k h. absurd (no_file k h))
            (λ k is h. elim h.1 [
              | inl q ↦ let z = long_first h.0 q h.3 in absurd (omega (arith, z, fits))
              | inr q ↦ let z = long_second h.0 q.0 h.3 in absurd (omega (arith, z, short))
            ])
            (λ h. ended_how j c.content x B e.status e.variable h
            (λ why is g. absurd (refused_reads_none st why (at_first (λ y. IsStRefused y why) g).1 p reads))
            (λ why is g. a why is (at_both (λ y us. AreRefused j y us why) g).1)
            (λ k f is nb g. b k f is nb (at_both (λ y us. Stop j y us k (stopped f)) g).1)
            (λ k is g. d k is (at_both (λ y us. Stop j y us k OutOfTurns) g).1))
            (λ text h w. t text (at_both (λ y us. Write j y us text) h).1 w)
            m

        -- what is said of the program that is read is said of this one
        of_this : (P : Program → Type 0) → (q : Program) → ((q' : Program) → ReadsAsProgram st q' → q' ≡ q) → P q → P p
        of_this P q one h = subst P (sym (one p reads)) h

        module _ (lawful : Lawful j) where
          -- what is judged of the program that is read is judged of this one
          refused_here : (why : RowErr) → AreRefused j st rows why → j.refused p rows why
          refused_here why h = of_this (λ z. j.refused z rows why) h.0 h.3 h.2

          stops_here : (k : ℕ) (y : Outcome) → Stop j st rows k y → j.stops p rows k y
          stops_here k y h = of_this (λ z. j.stops z rows k y) h.0 h.3 h.2

          writes_here : (text : Text) → Write j st rows text → j.writes p rows text
          writes_here text h = of_this (λ z. j.writes z rows text) h.0 h.3 h.2

          pub other_rows_are_refused : (why : RowErr) → j.refused p rows why → IsUnlessMemory r (status.RowRefused why)
          other_rows_are_refused why broken = both (λ m. inr m)
              (λ other is h. answer (status.RowRefused why) (is ∙ ap (λ z. status.RowRefused z) (lawful.one_rule p rows other why (refused_here other h) broken)))
              (λ k f is nb h. absurd (lawful.not_stopped p rows why k f broken (stops_here k (stopped f) h)))
              (λ k is h. absurd (lawful.not_stopped p rows why k scan.Budget broken (stops_here k OutOfTurns h)))
              (λ text h w. absurd (lawful.not_written p rows why text broken (writes_here text h)))

          pub stopped_scan_is_told : (k : ℕ) (f : ScanErr) → j.stops p rows k (stopped f) → IsUnlessMemory r (status_of_scan k f)
          stopped_scan_is_told k f so = both (λ m. inr m)
              (λ why is h. absurd (lawful.not_stopped p rows why k f (refused_here why h) so))
              (λ i g is nb h. let q = lawful.one_scan p rows i k g f (stops_here i (stopped g) h) so in told_as i k g f q.0 q.1 nb is)
              (λ i is h. let q = lawful.one_scan p rows i k scan.Budget f (stops_here i OutOfTurns h) so in
              answer (status_of_scan k f) (is ∙ ap (λ n. status.Budget n) q.0 ∙ ap (λ z. status_of_scan k z) q.1))
              (λ text h w. absurd (lawful.stopped_writes_none p rows k f text so (writes_here text h)))
            where
              told_as : (i k : ℕ) (g f : ScanErr) → i ≡ k → g ≡ f → (g ≡ scan.Budget → ⊥) → e.status ≡ status.ScanFault i g → IsUnlessMemory r (status_of_scan k f)
              told_as i k scan.Overflow f n q nb is = answer (status_of_scan k f) (is ∙ ap (λ m. status.ScanFault m scan.Overflow) n ∙ ap (λ z. status_of_scan k z) q)
              told_as i k scan.ZeroDivide f n q nb is = answer (status_of_scan k f) (is ∙ ap (λ m. status.ScanFault m scan.ZeroDivide) n ∙ ap (λ z. status_of_scan k z) q)
              told_as i k (scan.SubrangeLeft v z) f n q nb is = answer (status_of_scan k f) (is ∙ ap (λ m. status.ScanFault m (scan.SubrangeLeft v z)) n ∙ ap (λ y. status_of_scan k y) q)
              told_as i k scan.Budget f n q nb is = absurd (nb refl)

          pub rows_are_done : (Rose o.faults o.faults_after → ⊥) → (text : Text) → j.writes p rows text → IsUnlessMemory r status.Done
          rows_are_done still text all = both (λ m. inr m)
              (λ why is h. absurd (lawful.not_written p rows why text (refused_here why h) all))
              (λ i f is nb h. absurd (lawful.stopped_writes_none p rows i f text (stops_here i (stopped f) h) all))
              (λ i is h. absurd (lawful.stopped_writes_none p rows i scan.Budget text (stops_here i OutOfTurns h) all))
              (λ text h w. finished work c o e came r same still whole.never text e.status refl w)
