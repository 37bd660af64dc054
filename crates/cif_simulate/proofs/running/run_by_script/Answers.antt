use Rattle.std.proofs.Common.{inl, refl}
use Rattle.cif_eval.specs.Choices.{system_of}
use Rattle.cif_run.specs.Works.{reading, writing}
use Rattle.cif_sim_run.specs.Left.{names_in}
use Rattle.cif_simulate.specs.Running.{script_work}
use Rattle.cif_simulate.proofs.ScriptLaws.{read_over}
use Rattle.cif_simulate.proofs.running.run_by_script.Goals as goal

pub returns-in-Err-clause-came : goal.returns-in-Err-clause-came
returns-in-Err-clause-came g c = inl (c.in-Err.ensures.ends, refl)

pub returns-in-Ok-clause-came : goal.returns-in-Ok-clause-came
returns-in-Ok-clause-came g c =
    let files = reading (g.F.Files.content c.args.files.now) (g.F.Files.faults c.args.files.now) (g.F.Files.faults c.read_script.new.files) (g.F.Files.most c.read_script.new.files) in
    let o = writing (g.O.Sink.written c.args.out.now) (g.O.Sink.written c.write_script.new.out) (g.O.Sink.faults c.args.out.now) (g.O.Sink.faults c.write_script.new.out) in
    read_over (script_work (names_in c.args.net.now) (system_of c.args.net.now)) c.args.script.now files o c.write_script.result c.in-Ok.bytes.items c.as_slice.result.now c.as_slice.ensures.value
    c.in-Ok.ensures.whole c.in-Ok.ensures.within c.write_script.ensures.came
