use Rattle.std.proofs.Common.{Vec, ℕ, Global, refl}
use Rattle.st_ast.specs.View.{view}
use Rattle.cif_run.specs.Groups.{group_of}
use Rattle.cif_run.specs.Works.{Stops, reading}
use Rattle.cif_run.specs.declared.ended.Ended.{Ended}
use Rattle.cif_replay.specs.Ends.{IsNamed}
use Rattle.cif_replay.specs.Judged.{JudgeEnds}
use Rattle.cif_batch_command.specs.Batching.{AreTablesOf}
use Rattle.cif_batch_command.specs.Batches.{batch_of, batch_work, cases_judge, files_of}
use Rattle.cif_replay.proofs.FileLemmas.{held_slice, on_both, rows_stop, second_stops, short_slice, writes_text}
use Rattle.cif_replay.proofs.ReplayLemmas.{on_ok}
use Rattle.cif_batch_command.proofs.command.text.Goals as goal

pub returns-clause-stops : goal.returns-clause-stops
returns-clause-stops g c =
    let r = files_of (batch_of c.args.asked.now) in
    let content = g.F.Files.content c.args.files.now in
    let after = g.F.Files.faults c.read_file.new.files in
    let most = g.F.Files.most c.read_file.new.files in
    let files = reading content (g.F.Files.faults c.args.files.now) after most in
    let rest = reading (g.F.Files.content c.first_program.new.files) (g.F.Files.faults c.first_program.new.files) after most in
    let first = c.in_ok-program.ensures.reads in
    let e = c.in-Err.ended in
    second_stops cases_judge content r files e first.0 first.1 first.2 (view c.in_ok-program.program) first.3 rest
    (c.first_program.ensures.kept r.rows) (c.first_program.ensures.faults_stay_or_rise r.rows) refl refl (group_of e.status) c.in-Err.ensures.ends

pub returns-in-Ok-clause-writes : goal.returns-in-Ok-clause-writes
returns-in-Ok-clause-writes g c =
    let r = files_of (batch_of c.args.asked.now) in
    let content = g.F.Files.content c.args.files.now in
    let first = c.in_ok-program.ensures.reads in
    let p = view c.in_ok-program.program in
    let rows = c.as_slice.result.now in
    on_ok (λ (t : Vec ℕ Global). AreTablesOf p rows t.items) (λ (t : Vec ℕ Global). (batch_work (batch_of c.args.asked.now) content).writes t.items) c.cases_text.result
    (λ t h. writes_text cases_judge content r first.0 rows p first.1
    (held_slice _ _ _ _ (c.first_program.ensures.kept r.rows) c.as_slice.ensures.value c.in-Ok.ensures.whole) first.2
    (short_slice _ _ _ c.as_slice.ensures.value c.in-Ok.ensures.within) first.3 t.items h) c.cases_text.ensures.tables

pub returns-in-Ok-clause-stops : goal.returns-in-Ok-clause-stops
returns-in-Ok-clause-stops g c =
    let r = files_of (batch_of c.args.asked.now) in
    let content = g.F.Files.content c.args.files.now in
    let files = reading content (g.F.Files.faults c.args.files.now) (g.F.Files.faults c.read_file.new.files) (g.F.Files.most c.read_file.new.files) in
    let first = c.in_ok-program.ensures.reads in
    let p = view c.in_ok-program.program in
    let rows = c.as_slice.result.now in
    on_both (λ (e : Ended). JudgeEnds cases_judge p rows e.status) (λ (e : Ended). IsNamed p e.status e.variable) (Stops (batch_work (batch_of c.args.asked.now) content) files) c.cases_text.result
    (λ e h named. rows_stop cases_judge content r files e first.0 first.1 first.2 p first.3 rows
    (held_slice _ _ _ _ (c.first_program.ensures.kept r.rows) c.as_slice.ensures.value c.in-Ok.ensures.whole)
    (short_slice _ _ _ c.as_slice.ensures.value c.in-Ok.ensures.within) e.status refl h named) c.cases_text.ensures.ends c.cases_text.ensures.named
