use Rattle.std.proofs.Common.{inl, refl}
use Rattle.cif_run.specs.Groups.{group_of}
use Rattle.cif_run.specs.Works.{reading}
use Rattle.cif_run.proofs.FileLaws.{file_stops}
use Rattle.cif_replay.specs.Judged.{st_input}
use Rattle.cif_batch_command.specs.Batches.{batch_of, batch_work, files_of}
use Rattle.cif_batch_command.proofs.command.first_program.Goals as goal

pub returns-in-Err-clause-stops : goal.returns-in-Err-clause-stops
returns-in-Err-clause-stops g c =
    let b = batch_of c.args.asked.now in
    let r = files_of b in
    let content = g.F.Files.content c.args.files.now in
    let files = reading content (g.F.Files.faults c.args.files.now) (g.F.Files.faults c.read_file.new.files) (g.F.Files.most c.read_file.new.files) in
    let e = c.in-Err.ended in
    file_stops (batch_work b content) files (st_input r) e (group_of e.status) (inl refl) c.in-Err.ensures.ends
