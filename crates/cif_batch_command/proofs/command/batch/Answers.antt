-- Each promise is one line from a law on how the call came to its end.
use Rattle.std.proofs.Common.{inl, refl}
use Rattle.cif_run.specs.Works.{Reading, Writing, reading, writing}
use Rattle.cif_batch_command.specs.Batches.{batch_of}
use Rattle.cif_batch_command.proofs.BatchLaws as law
use Rattle.cif_batch_command.proofs.command.batch.Given.{Over}
use Rattle.cif_batch_command.proofs.command.batch.Goals as goal

-- what the call began and ended with
abbrev files_of : (g : Over) → goal.After-run g → Reading
files_of g c = reading (g.F.Files.content c.args.files.now) (g.F.Files.faults c.args.files.now) (g.F.Files.faults c.run.new.files) (g.F.Files.most c.run.new.files)

abbrev out_of : (g : Over) → goal.After-run g → Writing
out_of g c = writing (g.O.Sink.written c.args.out.now) (g.O.Sink.written c.run.new.out) (g.O.Sink.faults c.args.out.now) (g.O.Sink.faults c.run.new.out)

pub returns-clause-batched : goal.returns-clause-batched
returns-clause-batched g c = law.batched (batch_of c.args.asked.now) (files_of g c) (out_of g c) c.run.result c.run.ensures.came c.run.result.status (inl refl)

pub returns-clause-program_refused : goal.returns-clause-program_refused
returns-clause-program_refused g c = law.program_refused (batch_of c.args.asked.now) (files_of g c) (out_of g c) c.run.result c.run.ensures.came c.run.result.status (inl refl)

pub returns-clause-cases_refused : goal.returns-clause-cases_refused
returns-clause-cases_refused g c = law.cases_refused (batch_of c.args.asked.now) (files_of g c) (out_of g c) c.run.result c.run.ensures.came c.run.result.status (inl refl)

pub returns-clause-scan_fault : goal.returns-clause-scan_fault
returns-clause-scan_fault g c = law.scan_fault (batch_of c.args.asked.now) (files_of g c) (out_of g c) c.run.result c.run.ensures.came c.run.result.status (inl refl)

pub returns-clause-budget : goal.returns-clause-budget
returns-clause-budget g c = law.budget (batch_of c.args.asked.now) (files_of g c) (out_of g c) c.run.result c.run.ensures.came c.run.result.status (inl refl)
