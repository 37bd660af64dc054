use Rattle.cif_eval.specs.Choices.{system_of}
use Rattle.cif_net.specs.View.{net_tree}
use Rattle.cif_run.specs.Works.{reading, writing}
use Rattle.cif_sim_run.specs.Left.{names_in}
use Rattle.cif_sim_names.specs.Nets.{told_of_net}
use Rattle.cif_simulate.proofs.ScriptLaws.{read_over}
use Rattle.cif_why_command.specs.Explains.{reasons_work}
use Rattle.cif_why_command.proofs.explaining.explain_by_script.Goals as goal

pub returns-in-Ok-clause-came : goal.returns-in-Ok-clause-came
returns-in-Ok-clause-came g c =
    let files = reading (g.F.Files.content c.args.files.now) (g.F.Files.faults c.args.files.now) (g.F.Files.faults c.read_script.new.files) (g.F.Files.most c.read_script.new.files) in
    let o = writing (g.O.Sink.written c.args.out.now) (g.O.Sink.written c.write_reasons.new.out) (g.O.Sink.faults c.args.out.now) (g.O.Sink.faults c.write_reasons.new.out) in
    read_over (reasons_work (names_in c.args.net.now) (system_of c.args.net.now) (told_of_net (net_tree c.args.net.now.plain.net)) c.args.event)
    c.args.script.now files o c.write_reasons.result c.in-Ok.bytes.items c.as_slice.result.now c.as_slice.ensures.value
    c.in-Ok.ensures.whole c.in-Ok.ensures.within c.write_reasons.ensures.came
