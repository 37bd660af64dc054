-- Each promise is one line from a law on how the call came to its end.
use Rattle.std.proofs.Common.{inl, refl}
use Rattle.cif_run.specs.Works.{Reading, Writing, reading, writing}
use Rattle.cif_simulate.specs.Requests.{simulate_of}
use Rattle.cif_simulate.proofs.SimulateLaws as law
use Rattle.cif_simulate.proofs.command.simulate.Given.{Over}
use Rattle.cif_simulate.proofs.command.simulate.Goals as goal

-- what the call began and ended with
abbrev files_of : (g : Over) → goal.After-write_run g → Reading
files_of g c = reading (g.F.Files.content c.args.files.now) (g.F.Files.faults c.args.files.now) (g.F.Files.faults c.write_run.new.files) (g.F.Files.most c.write_run.new.files)

abbrev out_of : (g : Over) → goal.After-write_run g → Writing
out_of g c = writing (g.O.Sink.written c.args.out.now) (g.O.Sink.written c.write_run.new.out) (g.O.Sink.faults c.args.out.now) (g.O.Sink.faults c.write_run.new.out)

pub returns-clause-simulated : goal.returns-clause-simulated
returns-clause-simulated g c = law.simulated (simulate_of c.args.asked.now) (files_of g c) (out_of g c) c.write_run.result c.write_run.ensures.came c.write_run.result.status (inl refl)

pub returns-clause-simulated_first : goal.returns-clause-simulated_first
returns-clause-simulated_first g c = law.simulated_first (simulate_of c.args.asked.now) (files_of g c) (out_of g c) c.write_run.result c.write_run.ensures.came c.write_run.result.status (inl refl)

pub returns-clause-stopped : goal.returns-clause-stopped
returns-clause-stopped g c = law.stopped (simulate_of c.args.asked.now) (files_of g c) (out_of g c) c.write_run.result c.write_run.ensures.came c.write_run.result.status (inl refl)

pub returns-clause-refused : goal.returns-clause-refused
returns-clause-refused g c = law.refused (simulate_of c.args.asked.now) (files_of g c) (out_of g c) c.write_run.result c.write_run.ensures.came c.write_run.result.status (inl refl)

pub returns-clause-too_many : goal.returns-clause-too_many
returns-clause-too_many g c = law.too_many (simulate_of c.args.asked.now) (files_of g c) (out_of g c) c.write_run.result c.write_run.ensures.came c.write_run.result.status (inl refl)
