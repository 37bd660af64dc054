use Rattle.std.proofs.Common.{Vec, ℕ, Global, refl}
use Rattle.st_ast.specs.View.{view}
use Rattle.cif_run.specs.Groups.{group_of}
use Rattle.cif_run.specs.Works.{Stops, reading}
use Rattle.cif_run.specs.declared.ended.Ended.{Ended}
use Rattle.cif_replay.specs.Ends.{IsNamed}
use Rattle.cif_replay.specs.Replaying.{IsTableOf}
use Rattle.cif_replay.specs.Replays.{RowsEnds, replay_of, replay_work, rows_judge}
use Rattle.cif_replay.proofs.FileLemmas.{held_slice, on_both, rows_stop, second_stops, short_slice, writes_text}
use Rattle.cif_replay.proofs.ReplayLemmas.{on_ok}
use Rattle.cif_replay.proofs.command.ReplayCommand.text.Goals as goal

pub returns-clause-stops : goal.returns-clause-stops
returns-clause-stops g c =
    let r = replay_of c.args.self.now in
    let content = g.F.Files.content c.args.files.now in
    let after = g.F.Files.faults c.read_file.new.files in
    let most = g.F.Files.most c.read_file.new.files in
    let files = reading content (g.F.Files.faults c.args.files.now) after most in
    let rest = reading (g.F.Files.content c.first_program.new.files) (g.F.Files.faults c.first_program.new.files) after most in
    let first = c.in_ok-program.ensures.reads in
    let e = c.in-Err.ended in
    second_stops rows_judge content r files e first.0 first.1 first.2 (view c.in_ok-program.program) first.3 rest
    (c.first_program.ensures.kept r.rows) (c.first_program.ensures.faults_stay_or_rise r.rows) refl refl (group_of e.status) c.in-Err.ensures.ends

pub returns-in-Ok-clause-writes : goal.returns-in-Ok-clause-writes
returns-in-Ok-clause-writes g c =
    let r = replay_of c.args.self.now in
    let content = g.F.Files.content c.args.files.now in
    let first = c.in_ok-program.ensures.reads in
    let p = view c.in_ok-program.program in
    let rows = c.as_slice.result.now in
    on_ok (λ (t : Vec ℕ Global). IsTableOf p rows t.items) (λ (t : Vec ℕ Global). (replay_work r content).writes t.items) c.rows_table.result
    (λ t h. writes_text rows_judge content r first.0 rows p first.1
    (held_slice _ _ _ _ (c.first_program.ensures.kept r.rows) c.as_slice.ensures.value c.in-Ok.ensures.whole) first.2
    (short_slice _ _ _ c.as_slice.ensures.value c.in-Ok.ensures.within) first.3 t.items h) c.rows_table.ensures.table

pub returns-in-Ok-clause-stops : goal.returns-in-Ok-clause-stops
returns-in-Ok-clause-stops g c =
    let r = replay_of c.args.self.now in
    let content = g.F.Files.content c.args.files.now in
    let files = reading content (g.F.Files.faults c.args.files.now) (g.F.Files.faults c.read_file.new.files) (g.F.Files.most c.read_file.new.files) in
    let first = c.in_ok-program.ensures.reads in
    let p = view c.in_ok-program.program in
    let rows = c.as_slice.result.now in
    on_both (λ (e : Ended). RowsEnds p rows e.status) (λ (e : Ended). IsNamed p e.status e.variable) (Stops (replay_work r content) files) c.rows_table.result
    (λ e h named. rows_stop rows_judge content r files e first.0 first.1 first.2 p first.3 rows
    (held_slice _ _ _ _ (c.first_program.ensures.kept r.rows) c.as_slice.ensures.value c.in-Ok.ensures.whole)
    (short_slice _ _ _ c.as_slice.ensures.value c.in-Ok.ensures.within) e.status refl h named) c.rows_table.ensures.ends c.rows_table.ensures.named
