-- Each promise is one line from a law on how the call came to its end.
use Rattle.std.proofs.Common.{inl, refl}
use Rattle.cif_run.specs.Works.{Reading, Writing, reading, writing}
use Rattle.cif_why_command.specs.Requests.{why_of}
use Rattle.cif_why_command.proofs.WhyLaws as law
use Rattle.cif_why_command.proofs.command.why.Given.{Over}
use Rattle.cif_why_command.proofs.command.why.Goals as goal

-- what the call began and ended with
abbrev files_of : (g : Over) → goal.After-explain g → Reading
files_of g c = reading (g.F.Files.content c.args.files.now) (g.F.Files.faults c.args.files.now) (g.F.Files.faults c.explain.new.files) (g.F.Files.most c.explain.new.files)

abbrev out_of : (g : Over) → goal.After-explain g → Writing
out_of g c = writing (g.O.Sink.written c.args.out.now) (g.O.Sink.written c.explain.new.out) (g.O.Sink.faults c.args.out.now) (g.O.Sink.faults c.explain.new.out)

pub returns-clause-explained : goal.returns-clause-explained
returns-clause-explained g c = law.explained_so (why_of c.args.asked.now) (files_of g c) (out_of g c) c.explain.result c.explain.ensures.came c.explain.result.status (inl refl)

pub returns-clause-stopped : goal.returns-clause-stopped
returns-clause-stopped g c = law.stopped (why_of c.args.asked.now) (files_of g c) (out_of g c) c.explain.result c.explain.ensures.came c.explain.result.status (inl refl)

pub returns-clause-no_event : goal.returns-clause-no_event
returns-clause-no_event g c = law.no_event (why_of c.args.asked.now) (files_of g c) (out_of g c) c.explain.result c.explain.ensures.came c.explain.result.status (inl refl)

pub returns-clause-refused : goal.returns-clause-refused
returns-clause-refused g c = law.refused (why_of c.args.asked.now) (files_of g c) (out_of g c) c.explain.result c.explain.ensures.came c.explain.result.status (inl refl)

pub returns-clause-too_many : goal.returns-clause-too_many
returns-clause-too_many g c = law.too_many (why_of c.args.asked.now) (files_of g c) (out_of g c) c.explain.result c.explain.ensures.came c.explain.result.status (inl refl)
