use Rattle.std.proofs.Common.{ap, refl, sym, ◌∙◌}
use Rattle.cif_run.specs.Works.{reading, writing}
use Rattle.cif_why_command.specs.Requests.{why_of}
use Rattle.cif_why_command.proofs.ReasonLaws.{event_comes, no_event_comes, refused_comes}
use Rattle.cif_why_command.proofs.command.explain.Goals as goal

pub returns-in-Err-clause-came : goal.returns-in-Err-clause-came
returns-in-Err-clause-came g c =
    let old = g.F.Files.content c.args.files.now in
    let files = reading old (g.F.Files.faults c.args.files.now) (g.F.Files.faults c.accept_file.new.files) (g.F.Files.most c.accept_file.new.files) in
    let o = writing (g.O.Sink.written c.args.out.now) (g.O.Sink.written c.args.out.now) (g.O.Sink.faults c.args.out.now) (g.O.Sink.faults c.args.out.now) in
    refused_comes (why_of c.args.asked.now) files o c.in-Err.ended refl c.in-Err.ensures.stops

pub returns-in-Some-clause-came : goal.returns-in-Some-clause-came
returns-in-Some-clause-came g c =
    let old = g.F.Files.content c.args.files.now in
    let after = g.F.Files.faults c.explain_by_script.new.files in
    let most = g.F.Files.most c.explain_by_script.new.files in
    let files = reading old (g.F.Files.faults c.args.files.now) after most in
    let rest = reading (g.F.Files.content c.accept_file.new.files) (g.F.Files.faults c.accept_file.new.files) after most in
    let o = writing (g.O.Sink.written c.args.out.now) (g.O.Sink.written c.explain_by_script.new.out) (g.O.Sink.faults c.args.out.now) (g.O.Sink.faults c.explain_by_script.new.out) in
    let q = why_of c.args.asked.now in
    event_comes q files o c.explain_by_script.result c.in-Ok.net c.in-Ok.ensures.loaded c.in-Some.event (sym c.event_number.ensures.is ∙ c.in-Some.is) rest
    (c.accept_file.ensures.kept q.script) (c.accept_file.ensures.faults_stay_or_rise q.script) refl refl c.explain_by_script.ensures.came

pub returns-clause-came : goal.returns-clause-came
returns-clause-came g c =
    let old = g.F.Files.content c.args.files.now in
    let files = reading old (g.F.Files.faults c.args.files.now) (g.F.Files.faults c.accept_file.new.files) (g.F.Files.most c.accept_file.new.files) in
    let o = writing (g.O.Sink.written c.args.out.now) (g.O.Sink.written c.args.out.now) (g.O.Sink.faults c.args.out.now) (g.O.Sink.faults c.args.out.now) in
    no_event_comes (why_of c.args.asked.now) files o c.plain.result c.in-Ok.net c.in-Ok.ensures.loaded (sym c.event_number.ensures.is ∙ c.in-None.is) (ap (λ e. e.status) c.plain.ensures) refl
