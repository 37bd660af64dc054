use Rattle.std.proofs.Common.{ap, ◌∙◌}
use Rattle.cif_eval.specs.Choices.{system_of}
use Rattle.cif_run.specs.Works.{writing}
use Rattle.cif_sim_run.specs.Left.{names_in}
use Rattle.cif_simulate.proofs.RunLaws.{halted_script, whole_script}
use Rattle.cif_simulate.proofs.running.write_script.Goals as goal

pub returns-in-Ok-clause-came : goal.returns-in-Ok-clause-came
returns-in-Ok-clause-came g c =
    let o = writing (g.O.Sink.written c.args.out.now) (g.O.Sink.written c.run_script.new.out) (g.O.Sink.faults c.args.out.now) (g.O.Sink.faults c.run_script.new.out) in
    whole_script (names_in c.args.net.now) (system_of c.args.net.now) c.args.script.now o c.plain.result (ap (λ e. e.status) c.plain.ensures) c.in-Ok.ensures.ran

pub returns-in-Err-clause-came : goal.returns-in-Err-clause-came
returns-in-Err-clause-came g c =
    let o = writing (g.O.Sink.written c.args.out.now) (g.O.Sink.written c.run_script.new.out) (g.O.Sink.faults c.args.out.now) (g.O.Sink.faults c.run_script.new.out) in
    halted_script (names_in c.args.net.now) (system_of c.args.net.now) c.args.script.now o c.in-Err.halt c.plain-in-Err.result (ap (λ e. e.status) c.plain-in-Err.ensures ∙ c.status_of.ensures) c.in-Err.ensures.halted
