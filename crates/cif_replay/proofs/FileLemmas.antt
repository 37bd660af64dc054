-- How the parts of a command over a program and a second file end it, by its files.
use Rattle.std.proofs.Common.{◌≡◌, ℕ, ◌≤◌, length, Option, Result, Ok, Err, IfErr, refl, sym, subst, inr}
use Rattle.grammar.specs.Pieces.{Text}
use Rattle.st_ast.specs.Tree.{Program}
use Rattle.st_ast.specs.Exec.{OutOfTurns}
use Rattle.st_ast.specs.ReadsAs.{ReadsAsProgram}
use Rattle.st_read.proofs.Whole.{one-program, one_derives}
use Rattle.st_scan.specs.Endings.{stopped}
use Rattle.plc_back.specs.Texts.{TheProgram}
use Rattle.cif_run.specs.declared.status.Status.{Status}
use Rattle.cif_run.specs.declared.status.Status.TheVariants as status
use Rattle.cif_run.specs.declared.ended.Ended.{Ended}
use Rattle.cif_run.specs.Groups.{Group, group_of}
use Rattle.cif_run.specs.Works.{Content, FileEnds, Holds, Reading, StopsIn}
use Rattle.cif_run.proofs.FileLaws.{earlier_ends, file_stops}
use Rattle.cif_replay.specs.Words.{Replay}
use Rattle.cif_replay.specs.Replaying.{Reads}
use Rattle.cif_replay.specs.Ends.{IsNamed, IsNamedBy, StEnds}
use Rattle.cif_replay.specs.Judged.{Judge, JudgeEnds, JudgedEnds, OfFirst, judged_work, rows_input, rows_limit, st_limit}

the_one : (text : Text) (p : Program) (P : Program → Type 0) → ReadsAsProgram text p → P p → TheProgram text P
the_one text p P reads h = (p, reads, h, λ q rq. one-program text q p rq reads)

-- the name of a variable of the program is one of the text
named_by : (text : Text) (p : Program) → ReadsAsProgram text p → (s : Status) (name : Text) → IsNamed p s name → IsNamedBy text s name
named_by text p reads s name h q d =
    let one = one_derives text p q reads.derives d in
    subst (λ (x : Program). IsNamed x s name) one h

module _ (j : Judge) (content : Content) (r : Replay) (c : Reading) (e : Ended) (st : Text) (holds : Holds (content r.st) st) (short : length st ≤ st_limit) where
  -- the text in the first file is no program
  pub program_stops : (s : Status) → e.status ≡ s → StEnds st s → IsNamedBy st s e.variable → StopsIn (judged_work j r content) c e (group_of s)
  program_stops (status.StRefused why) is h named = subst (λ t. JudgedEnds j content r t e.variable) (sym is) (st, holds, short, (h, named))
  program_stops status.Memory is h named = tt
  program_stops _ is h named = absurd h

  module _ (p : Program) (reads : ReadsAsProgram st p) where
    pub reads_first : OfFirst content r Reads
    reads_first = (st, holds, short, the_one st p (λ q. Unit {0}) reads tt)

    -- the second file was not read
    pub second_stops : (d : Reading) → d.content r.rows ≡ c.content r.rows → c.faults r.rows ≤ d.faults r.rows → d.faults_after r.rows ≡ c.faults_after r.rows
        → d.most_after r.rows ≡ c.most_after r.rows → (g : Group) → FileEnds d (rows_input r) e.limit g → StopsIn (judged_work j r content) c e g
    second_stops d same more after most g h =
        file_stops (judged_work j r content) c (rows_input r) e g (inr (refl, reads_first)) (earlier_ends c d (rows_input r) e.limit g same more after most h)

    module _ (rows : Text) (holds_rows : Holds (content r.rows) rows) (few : length rows ≤ rows_limit) where
      pub rows_stop : (s : Status) → e.status ≡ s → JudgeEnds j p rows s → IsNamed p s e.variable → StopsIn (judged_work j r content) c e (group_of s)
      rows_stop (status.RowRefused why) is h named = subst (λ t. JudgedEnds j content r t e.variable) (sym is)
          (st, rows, holds, holds_rows, short, few, the_one st p (λ q. j.refused q rows why) reads h)
      rows_stop (status.ScanFault k f) is h named = subst (λ t. JudgedEnds j content r t e.variable) (sym is) (
        h.0,
        (
          st,
          rows,
          holds,
          holds_rows,
          short,
          few,
          (the_one st p (λ q. j.stops q rows k (stopped f)) reads h.1, named_by st p reads (status.ScanFault k f) e.variable named),
        ),
      )
      rows_stop (status.Budget k) is h named = subst (λ t. JudgedEnds j content r t e.variable) (sym is)
          (st, rows, holds, holds_rows, short, few, the_one st p (λ q. j.stops q rows k OutOfTurns) reads h)
      rows_stop status.Memory is h named = tt
      rows_stop _ is h named = absurd h

-- what is made of both texts may be written
pub writes_text : (j : Judge) (content : Content) (r : Replay) (st rows : Text) (p : Program) → Holds (content r.st) st → Holds (content r.rows) rows → length st ≤ st_limit
    → length rows ≤ rows_limit → ReadsAsProgram st p → (text : Text) → j.writes p rows text → (judged_work j r content).writes text
writes_text j content r st rows p holds holds_rows short few reads text h =
    (st, rows, holds, holds_rows, short, few, the_one st p (λ q. j.writes q rows text) reads h)

-- ---- slices

pub held_slice : (o p : Option Text) (items slice : Text) → p ≡ o → slice ≡ items → Holds p items → Holds o slice
held_slice o p items slice same is h = subst (λ t. Holds o t) (sym is) (subst (λ (q : Option Text). Holds q items) same h)

pub short_slice : (items slice : Text) (n : ℕ) → slice ≡ items → length items ≤ n → length slice ≤ n
short_slice items slice n is h = subst (λ t. length t ≤ n) (sym is) h

pub on_both : {A E : Type 0} (P Q R : E → Type 0) (r : Result A E) → ((e : E) → P e → Q e → R e) → IfErr r P → IfErr r Q → IfErr r R
on_both P Q R (Ok x) f h g = tt
on_both P Q R (Err e) f h g = f e h g
