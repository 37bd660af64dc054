-- What `replay` promises, from how its call came to its end, where the answer is the status of that end or want of memory.
use Rattle.std.proofs.Common.{◌≡◌, ℕ, ◌<◌, ◌≤◌, ◌⊎◌, ℤ, List, length, Some, refl, subst}
use Rattle.grammar.specs.Pieces.{Text}
use Rattle.cif_io.specs.Faults.{Rose}
use Rattle.cif_io.specs.Written.{grown}
use Rattle.st_ast.specs.Tree.{Program}
use Rattle.st_ast.specs.Exec.{OutOfTurns}
use Rattle.st_ast.specs.Scan.{start_memory}
use Rattle.st_ast.specs.ReadsAs.{ReadsAsProgram}
use Rattle.st_scan.specs.Endings.{stopped}
use Rattle.st_scan.specs.declared.error.ScanErr.{ScanErr}
use Rattle.st_scan.specs.declared.error.ScanErr.TheVariants as scan
use Rattle.plc_rows.specs.Rows.{RowsOf}
use Rattle.plc_rows.specs.declared.error.RowErr.{RowErr}
use Rattle.plc_tables.proofs.EndingLaws.{comes_once, ended_stops_none, one_stop, stopped_stops}
use Rattle.cif_run.specs.declared.status.Status.{Status}
use Rattle.cif_run.specs.declared.status.Status.TheVariants as status
use Rattle.cif_run.specs.declared.status.StRefusal.{StRefusal}
use Rattle.cif_run.specs.declared.ended.Ended.{Ended}
use Rattle.cif_run.specs.Groups.{IsUnlessMemory}
use Rattle.cif_run.specs.Works.{Comes, Reading, Writing}
use Rattle.cif_replay.specs.Words.{Replay}
use Rattle.cif_replay.specs.Replaying.{AllEnd, AreRowsRefused, ComesTo, IsRowRefused, IsStRefused, IsTableFor, Reads, StopsAt, status_of_scan, table_of}
use Rattle.cif_replay.specs.Replays.{OfBoth, OfFirst, replay_work, rows_judge, rows_limit, st_limit}
use Rattle.cif_replay.proofs.JudgedLaws.{Lawful}
use Rattle.cif_replay.proofs.JudgedLaws as judged
use Rattle.cif_replay.proofs.ReplayLemmas.{one_row_error, rows_not_refused, one_rows}

-- rows have one table, one first rule that they break, or one first scan that does not end
lawful : Lawful rows_judge
lawful = record {
  one_rule = one_row_error;
  not_stopped = λ p text why k f broken h. rows_not_refused p text h.0 why h.1 broken;
  not_written = λ p text why out broken h. rows_not_refused p text h.0 why h.1 broken;
  one_scan = λ p text i k f g h s.
      let same = one_rows p text s.0 h.0 s.1 h.1 in
      let once = comes_once p (start_memory p) h.0 i k (stopped f) (stopped g) h.2 (subst (λ (l : List (List ℤ)). ComesTo p (start_memory p) l k (stopped g)) same s.2) (stopped_stops f) (stopped_stops g) in
      (once.0, one_stop f g once.1);
  stopped_writes_none = λ p text k f out h w.
      let same = one_rows p text w.0 h.0 w.1 h.1 in
      ended_stops_none p (start_memory p) h.0 k (stopped f) (subst (λ (l : List (List ℤ)). AllEnd p l) same w.2) h.2 (stopped_stops f);
}

module _ (x : Replay) (c : Reading) (o : Writing) (e : Ended) (came : Comes (replay_work x c.content) c o e) (r : Status) (same : IsUnlessMemory r e.status) where
  pub replayed : r ≡ status.Done → (text : Text) × OfBoth c.content x (λ st rows. IsTableFor st rows text) × (o.new ≡ grown o.old text)
  replayed = judged.written_whole rows_judge x c o e came r same

  pub program_refused : (why : StRefusal) → r ≡ status.StRefused why → OfFirst c.content x (λ st. IsStRefused st why)
  program_refused = judged.program_refused rows_judge x c o e came r same

  pub rows_refused : (why : RowErr) → r ≡ status.RowRefused why → OfBoth c.content x (λ st rows. AreRowsRefused st rows why)
  rows_refused = judged.rows_refused rows_judge x c o e came r same

  pub scan_fault : (k : ℕ) (f : ScanErr) → r ≡ status.ScanFault k f → (f ≡ scan.Budget → ⊥) × OfBoth c.content x (λ st rows. StopsAt st rows k (stopped f))
  scan_fault = judged.scan_fault rows_judge x c o e came r same

  pub budget : (k : ℕ) → r ≡ status.Budget k → OfBoth c.content x (λ st rows. StopsAt st rows k OutOfTurns)
  budget = judged.budget rows_judge x c o e came r same

  module _ (st : Text) (told : c.content x.st ≡ Some st) (sure : Rose (c.faults x.st) (c.faults_after x.st) → ⊥) where
    pub longer_program_is_too_big : st_limit < length st → IsUnlessMemory r (status.TooBig 1)
    longer_program_is_too_big = judged.longer_program_is_too_big rows_judge x c o e came r same st told sure

    pub other_program_is_refused : length st ≤ st_limit → ((p : Program) → ReadsAsProgram st p → ⊥)
        → ((why : StRefusal) × (r ≡ status.StRefused why)) ⊎ (r ≡ status.Memory)
    other_program_is_refused = judged.other_program_is_refused rows_judge x c o e came r same st told sure

    module _ (rows : Text) (told_rows : c.content x.rows ≡ Some rows) (sure_rows : Rose (c.faults x.rows) (c.faults_after x.rows) → ⊥) (fits : length st ≤ st_limit) where
      pub longer_rows_are_too_big : Reads st → rows_limit < length rows → IsUnlessMemory r (status.TooBig 2)
      longer_rows_are_too_big = judged.longer_rows_are_too_big rows_judge x c o e came r same st told sure rows told_rows sure_rows fits

      module _ (short : length rows ≤ rows_limit) (p : Program) (reads : ReadsAsProgram st p) where
        pub other_rows_are_refused : (why : RowErr) → IsRowRefused p rows why → IsUnlessMemory r (status.RowRefused why)
        other_rows_are_refused = judged.other_rows_are_refused rows_judge x c o e came r same st told sure rows told_rows sure_rows fits short p reads lawful

        module _ (rs : List (List ℤ)) (are : RowsOf p.vars rows rs) where
          pub stopped_scan_is_told : (k : ℕ) (f : ScanErr) → ComesTo p (start_memory p) rs k (stopped f) → IsUnlessMemory r (status_of_scan k f)
          stopped_scan_is_told k f so =
              judged.stopped_scan_is_told rows_judge x c o e came r same st told sure rows told_rows sure_rows fits short p reads lawful k f (rs, are, so)

          pub replay_is_done : (Rose o.faults o.faults_after → ⊥) → AllEnd p rs → IsUnlessMemory r status.Done
          replay_is_done still all =
              judged.rows_are_done rows_judge x c o e came r same st told sure rows told_rows sure_rows fits short p reads lawful still (table_of p rs) (rs, are, all, refl)
