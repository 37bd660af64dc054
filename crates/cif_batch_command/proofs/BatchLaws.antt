-- What `batch` promises, from how its call came to its end, where the answer is the status of that end or want of memory.
use Rattle.std.proofs.Common.{◌≡◌, ℕ, ◌<◌, ◌≤◌, ◌⊎◌, List, length, Some, refl, sym, ap, subst, ◌∙◌}
use Rattle.grammar.specs.Pieces.{Text}
use Rattle.cif_io.specs.Faults.{Rose}
use Rattle.cif_io.specs.Written.{grown}
use Rattle.st_ast.specs.Tree.{Program}
use Rattle.st_ast.specs.Exec.{OutOfTurns}
use Rattle.st_ast.specs.ReadsAs.{ReadsAsProgram}
use Rattle.st_scan.specs.Endings.{stopped}
use Rattle.st_scan.specs.declared.error.ScanErr.{ScanErr}
use Rattle.st_scan.specs.declared.error.ScanErr.TheVariants as scan
use Rattle.plc_rows.specs.Rows.{CasesOf, first_case_fault}
use Rattle.plc_rows.specs.declared.error.RowErr.{RowErr}
use Rattle.plc_rows.proofs.CaseLaws.{one_cases}
use Rattle.plc_tables.proofs.EndingLaws.{one_stop}
use Rattle.cif_run.specs.declared.status.Status.{Status}
use Rattle.cif_run.specs.declared.status.Status.TheVariants as status
use Rattle.cif_run.specs.declared.status.StRefusal.{StRefusal}
use Rattle.cif_run.specs.declared.ended.Ended.{Ended}
use Rattle.cif_run.specs.Groups.{IsUnlessMemory}
use Rattle.cif_run.specs.Works.{Comes, Reading, Writing}
use Rattle.cif_replay.specs.Replaying.{IsStRefused, Reads, status_of_scan}
use Rattle.cif_replay.specs.Judged.{OfBoth, OfFirst, rows_limit, st_limit}
use Rattle.cif_replay.proofs.JudgedLaws.{Lawful}
use Rattle.cif_replay.proofs.JudgedLaws as judged
use Rattle.cif_replay.proofs.ReplayLemmas.{fault_told, one_error}
use Rattle.cif_batch.specs.CaseTexts.{AllCasesEnd, Case, FirstStopped, cases_text, row_of_file}
use Rattle.cif_batch.proofs.CaseLaws as cases
use Rattle.cif_batch_command.specs.Words.{Batch}
use Rattle.cif_batch_command.specs.Batching.{AreCasesRefused, AreTablesFor, CaseStopsAt, IsCasesRefused}
use Rattle.cif_batch_command.specs.Batches.{batch_work, cases_judge, files_of}

-- cases break no rule
cases_not_refused : (p : Program) (text : Text) (cs : List Case) (e : RowErr) → CasesOf p.vars text cs → IsCasesRefused p text e → ⊥
cases_not_refused p text cs e of h = let x = fault_told (first_case_fault p.vars text) e h in let none = of.right in let some = x.1 in absurd cc

-- cases have their tables, or one first rule that they break, or one first case that does not end
lawful : Lawful cases_judge
lawful = record {
  one_rule = λ p text a b h g. one_error (first_case_fault p.vars text) a b h g;
  not_stopped = λ p text why k f broken h. cases_not_refused p text h.0 why h.1 broken;
  not_written = λ p text why out broken h. cases_not_refused p text h.0 why h.1 broken;
  one_scan = λ p text i k f g h s.
      let same = one_cases p.vars text s.0 h.0 s.1 h.1 in
      let once = cases.one_stop p h.0 h.2.0 s.2.0 h.2.1 s.2.1 (stopped f) (stopped g) h.2.2 (subst (λ (l : List Case). FirstStopped p l s.2.0 s.2.1 (stopped g)) same s.2.2) in
      let row : row_of_file h.0 h.2.0 h.2.1 ≡ row_of_file s.0 s.2.0 s.2.1 =
      ap (λ n. row_of_file h.0 n h.2.1) once.0 ∙ ap (row_of_file h.0 s.2.0) once.1 ∙ ap (λ l. row_of_file l s.2.0 s.2.1) (sym same) in
      (h.2.3 ∙ row ∙ sym s.2.3, one_stop f g once.2);
  stopped_writes_none = λ p text k f out h w.
      let same = one_cases p.vars text w.0 h.0 w.1 h.1 in
      cases.not_both p h.0 (subst (AllCasesEnd p) same w.2.0) h.2.0 h.2.1 (stopped f) h.2.2;
}

module _ (b : Batch) (c : Reading) (o : Writing) (e : Ended) (came : Comes (batch_work b c.content) c o e) (r : Status) (same : IsUnlessMemory r e.status) where
  pub batched : r ≡ status.Done → (text : Text) × OfBoth c.content (files_of b) (λ st cases. AreTablesFor st cases text) × (o.new ≡ grown o.old text)
  batched = judged.written_whole cases_judge (files_of b) c o e came r same

  pub program_refused : (why : StRefusal) → r ≡ status.StRefused why → OfFirst c.content (files_of b) (λ st. IsStRefused st why)
  program_refused = judged.program_refused cases_judge (files_of b) c o e came r same

  pub cases_refused : (why : RowErr) → r ≡ status.RowRefused why → OfBoth c.content (files_of b) (λ st cases. AreCasesRefused st cases why)
  cases_refused = judged.rows_refused cases_judge (files_of b) c o e came r same

  pub scan_fault : (k : ℕ) (f : ScanErr) → r ≡ status.ScanFault k f → (f ≡ scan.Budget → ⊥) × OfBoth c.content (files_of b) (λ st cases. CaseStopsAt st cases k (stopped f))
  scan_fault = judged.scan_fault cases_judge (files_of b) c o e came r same

  pub budget : (k : ℕ) → r ≡ status.Budget k → OfBoth c.content (files_of b) (λ st cases. CaseStopsAt st cases k OutOfTurns)
  budget = judged.budget cases_judge (files_of b) c o e came r same

  module _ (st : Text) (told : c.content b.st ≡ Some st) (sure : Rose (c.faults b.st) (c.faults_after b.st) → ⊥) where
    pub longer_program_is_too_big : st_limit < length st → IsUnlessMemory r (status.TooBig 1)
    longer_program_is_too_big = judged.longer_program_is_too_big cases_judge (files_of b) c o e came r same st told sure

    pub other_program_is_refused : length st ≤ st_limit → ((p : Program) → ReadsAsProgram st p → ⊥)
        → ((why : StRefusal) × (r ≡ status.StRefused why)) ⊎ (r ≡ status.Memory)
    other_program_is_refused = judged.other_program_is_refused cases_judge (files_of b) c o e came r same st told sure

    module _ (text : Text) (told_cases : c.content b.cases ≡ Some text) (sure_cases : Rose (c.faults b.cases) (c.faults_after b.cases) → ⊥) (fits : length st ≤ st_limit) where
      pub longer_cases_are_too_big : Reads st → rows_limit < length text → IsUnlessMemory r (status.TooBig 2)
      longer_cases_are_too_big = judged.longer_rows_are_too_big cases_judge (files_of b) c o e came r same st told sure text told_cases sure_cases fits

      module _ (short : length text ≤ rows_limit) (p : Program) (reads : ReadsAsProgram st p) where
        pub other_cases_are_refused : (why : RowErr) → IsCasesRefused p text why → IsUnlessMemory r (status.RowRefused why)
        other_cases_are_refused = judged.other_rows_are_refused cases_judge (files_of b) c o e came r same st told sure text told_cases sure_cases fits short p reads lawful

        module _ (cs : List Case) (are : CasesOf p.vars text cs) where
          -- the first case in order that does not end is told, whatever a later one comes to
          pub stopped_case_is_told : (number row : ℕ) (f : ScanErr) → FirstStopped p cs number row (stopped f) → IsUnlessMemory r (status_of_scan (row_of_file cs number row) f)
          stopped_case_is_told number row f so =
              judged.stopped_scan_is_told cases_judge (files_of b) c o e came r same st told sure text told_cases sure_cases fits short p reads lawful
              (row_of_file cs number row) f (cs, are, (number, row, so, refl))

          pub batch_is_done : (Rose o.faults o.faults_after → ⊥) → AllCasesEnd p cs → IsUnlessMemory r status.Done
          batch_is_done still all =
              judged.rows_are_done cases_judge (files_of b) c o e came r same st told sure text told_cases sure_cases fits short p reads lawful still (cases_text p cs) (cs, are, (all, refl))
