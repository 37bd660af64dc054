-- Each promise is one line from a law on how the call came to its end.
use Rattle.std.proofs.Common.{◌≡◌, inl, refl}
use Rattle.cif_run.specs.Works.{Reading, Writing, reading, writing}
use Rattle.cif_accept.specs.Accepts.{no_ends}
use Rattle.cif_accept.proofs.AcceptLaws as accept
use Rattle.cif_check.specs.Checks.{accepted, check_of}
use Rattle.cif_check.proofs.CheckLaws.{checked}
use Rattle.cif_check.proofs.command.check.Given.{Over}
use Rattle.cif_check.proofs.command.check.Goals as goal

-- what the call began and ended with
abbrev files_of : (g : Over) → goal.After-run g → Reading
files_of g c = reading (g.F.Files.content c.args.files.now) (g.F.Files.faults c.args.files.now) (g.F.Files.faults c.run.new.files) (g.F.Files.most c.run.new.files)

abbrev out_of : (g : Over) → goal.After-run g → Writing
out_of g c = writing (g.O.Sink.written c.args.out.now) (g.O.Sink.written c.run.new.out) (g.O.Sink.faults c.args.out.now) (g.O.Sink.faults c.run.new.out)

pub returns-clause-checked : goal.returns-clause-checked
returns-clause-checked g c = checked (check_of c.args.asked.now) (files_of g c) (out_of g c) c.run.result c.run.ensures.came c.run.result.status (inl refl)

-- it tells of nothing but what the source is refused for
own : accept.TellsItsOwn no_ends
own = record { refused = λ t why name h. h; many = λ t count name h. h }

pub returns-clause-refused : goal.returns-clause-refused
returns-clause-refused g c = accept.refused (check_of c.args.asked.now).file (λ t text. text ≡ accepted) no_ends (files_of g c) (out_of g c) c.run.result c.run.ensures.came c.run.result.status (inl refl) own

pub returns-clause-too_many : goal.returns-clause-too_many
returns-clause-too_many g c = accept.too_many (check_of c.args.asked.now).file (λ t text. text ≡ accepted) no_ends (files_of g c) (out_of g c) c.run.result c.run.ensures.came c.run.result.status (inl refl) own
