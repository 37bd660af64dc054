use Rattle.std.proofs.Common.{ap, refl}
use Rattle.cif_run.specs.Works.{reading, writing}
use Rattle.cif_simulate.specs.Requests.{simulate_of, which_of}
use Rattle.cif_simulate.proofs.RunLaws.{first_comes, refused_comes, script_comes}
use Rattle.cif_simulate.proofs.command.write_run.Goals as goal

pub returns-in-Err-clause-came : goal.returns-in-Err-clause-came
returns-in-Err-clause-came g c =
    let old = g.F.Files.content c.args.files.now in
    let files = reading old (g.F.Files.faults c.args.files.now) (g.F.Files.faults c.accept_file.new.files) (g.F.Files.most c.accept_file.new.files) in
    let o = writing (g.O.Sink.written c.args.out.now) (g.O.Sink.written c.args.out.now) (g.O.Sink.faults c.args.out.now) (g.O.Sink.faults c.args.out.now) in
    refused_comes (simulate_of c.args.asked.now) files o c.in-Err.ended refl c.in-Err.ensures.stops

pub returns-in-Script-clause-came : goal.returns-in-Script-clause-came
returns-in-Script-clause-came g c =
    let old = g.F.Files.content c.args.files.now in
    let after = g.F.Files.faults c.run_by_script.new.files in
    let most = g.F.Files.most c.run_by_script.new.files in
    let files = reading old (g.F.Files.faults c.args.files.now) after most in
    let rest = reading (g.F.Files.content c.accept_file.new.files) (g.F.Files.faults c.accept_file.new.files) after most in
    let o = writing (g.O.Sink.written c.args.out.now) (g.O.Sink.written c.run_by_script.new.out) (g.O.Sink.faults c.args.out.now) (g.O.Sink.faults c.run_by_script.new.out) in
    let script = c.in-Script.script.now in
    script_comes (simulate_of c.args.asked.now) files o c.run_by_script.result c.in-Ok.net c.in-Ok.ensures.loaded script (ap which_of c.in-Script.is) rest
    (c.accept_file.ensures.kept script) (c.accept_file.ensures.faults_stay_or_rise script) refl refl c.run_by_script.ensures.came

pub returns-clause-came : goal.returns-clause-came
returns-clause-came g c =
    let old = g.F.Files.content c.args.files.now in
    let files = reading old (g.F.Files.faults c.args.files.now) (g.F.Files.faults c.accept_file.new.files) (g.F.Files.most c.accept_file.new.files) in
    let o = writing (g.O.Sink.written c.args.out.now) (g.O.Sink.written c.run_by_first.new.out) (g.O.Sink.faults c.args.out.now) (g.O.Sink.faults c.run_by_first.new.out) in
    first_comes (simulate_of c.args.asked.now) files o c.run_by_first.result c.in-Ok.net c.in-Ok.ensures.loaded c.in-First.steps.count (ap which_of c.in-First.is) c.run_by_first.ensures.wrote
