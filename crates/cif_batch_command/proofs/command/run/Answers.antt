use Rattle.cif_run.specs.Works.{reading, writing}
use Rattle.cif_run.proofs.CallLaws.{put_comes}
use Rattle.cif_batch_command.specs.Batches.{batch_of, batch_work}
use Rattle.cif_batch_command.proofs.command.run.Goals as goal

pub returns-in-Ok-clause-came : goal.returns-in-Ok-clause-came
returns-in-Ok-clause-came g c =
    put_comes (batch_work (batch_of c.args.asked.now) (g.F.Files.content c.args.files.now))
    (writing (g.O.Sink.written c.args.out.now) (g.O.Sink.written c.put_text.new.out) (g.O.Sink.faults c.args.out.now) (g.O.Sink.faults c.put_text.new.out))
    c.in-Ok.text.items c.in-Ok.ensures.writes
    (reading (g.F.Files.content c.args.files.now) (g.F.Files.faults c.args.files.now) (g.F.Files.faults c.text.new.files) (g.F.Files.most c.text.new.files))
    c.put_text.result c.put_text.ensures.wrote
