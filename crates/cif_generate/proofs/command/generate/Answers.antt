-- Each promise is one line from a law on how the call came to its end.
use Rattle.std.proofs.Common.{inl, refl}
use Rattle.cif_run.specs.Works.{Reading, Writing, reading, writing}
use Rattle.plc_model.specs.Face.{HasInterface}
use Rattle.plc_model.specs.Scans.{NeverFaults, RunsFirstSteps, ScansLegally, ScansExactly, ShowsOutputs, StaysTyped}
use Rattle.plc_back.specs.Texts.{IsLayoutOf}
use Rattle.cif_accept.proofs.AcceptLaws as accept
use Rattle.cif_generate.specs.Meaning.{AreClassed, IsWrittenFor, StartsInitial, meant_by, shown_of}
use Rattle.cif_generate.specs.Generates.{generate_of, is_unclassed}
use Rattle.cif_generate.proofs.GenerateLaws as law
use Rattle.cif_generate.proofs.command.generate.Given.{Over}
use Rattle.cif_generate.proofs.command.generate.Goals as goal

-- what the call began and ended with
abbrev files_of : (g : Over) → goal.After-run g → Reading
files_of g c = reading (g.F.Files.content c.args.files.now) (g.F.Files.faults c.args.files.now) (g.F.Files.faults c.run.new.files) (g.F.Files.most c.run.new.files)

abbrev out_of : (g : Over) → goal.After-run g → Writing
out_of g c = writing (g.O.Sink.written c.args.out.now) (g.O.Sink.written c.run.new.out) (g.O.Sink.faults c.args.out.now) (g.O.Sink.faults c.run.new.out)

pub returns-clause-program : goal.returns-clause-program
returns-clause-program g c = law.promised (generate_of c.args.asked.now) (files_of g c) (out_of g c) c.run.result c.run.ensures.came c.run.result.status (inl refl)
    (λ t text. HasInterface (shown_of t)) (λ t text p made. made.interface)

pub returns-clause-starts_initial : goal.returns-clause-starts_initial
returns-clause-starts_initial g c = law.promised (generate_of c.args.asked.now) (files_of g c) (out_of g c) c.run.result c.run.ensures.came c.run.result.status (inl refl)
    (λ t text. StartsInitial (shown_of t) (meant_by t)) (λ t text p made. made.starts)

pub returns-clause-runs_first_steps : goal.returns-clause-runs_first_steps
returns-clause-runs_first_steps g c = law.promised (generate_of c.args.asked.now) (files_of g c) (out_of g c) c.run.result c.run.ensures.came c.run.result.status (inl refl)
    (λ t text. RunsFirstSteps (shown_of t) (meant_by t)) (λ t text p made. made.first_steps)

pub returns-clause-never_faults : goal.returns-clause-never_faults
returns-clause-never_faults g c = law.promised (generate_of c.args.asked.now) (files_of g c) (out_of g c) c.run.result c.run.ensures.came c.run.result.status (inl refl)
    (λ t text. NeverFaults (meant_by t)) (λ t text p made. made.never_faults)

pub returns-clause-scans_legally : goal.returns-clause-scans_legally
returns-clause-scans_legally g c = law.promised (generate_of c.args.asked.now) (files_of g c) (out_of g c) c.run.result c.run.ensures.came c.run.result.status (inl refl)
    (λ t text. ScansLegally c.args.asked.now.bounds.unc c.args.asked.now.bounds.con (shown_of t) (meant_by t)) (λ t text p made. made.legal)

pub returns-clause-scans_exactly : goal.returns-clause-scans_exactly
returns-clause-scans_exactly g c = law.promised (generate_of c.args.asked.now) (files_of g c) (out_of g c) c.run.result c.run.ensures.came c.run.result.status (inl refl)
    (λ t text. ScansExactly c.args.asked.now.bounds.unc c.args.asked.now.bounds.con (shown_of t) (meant_by t)) (λ t text p made. made.exact)

pub returns-clause-shows_outputs : goal.returns-clause-shows_outputs
returns-clause-shows_outputs g c = law.promised (generate_of c.args.asked.now) (files_of g c) (out_of g c) c.run.result c.run.ensures.came c.run.result.status (inl refl)
    (λ t text. ShowsOutputs (shown_of t) (meant_by t)) (λ t text p made. made.outputs)

pub returns-clause-stays_typed : goal.returns-clause-stays_typed
returns-clause-stays_typed g c = law.promised (generate_of c.args.asked.now) (files_of g c) (out_of g c) c.run.result c.run.ensures.came c.run.result.status (inl refl)
    (λ t text. StaysTyped (meant_by t)) (λ t text p made. made.types)

pub returns-clause-laid_out : goal.returns-clause-laid_out
returns-clause-laid_out g c = law.promised (generate_of c.args.asked.now) (files_of g c) (out_of g c) c.run.result c.run.ensures.came c.run.result.status (inl refl)
    (λ t text. IsLayoutOf text) (λ t text p made. made.layout)

pub returns-clause-classed : goal.returns-clause-classed
returns-clause-classed g c = law.writes (generate_of c.args.asked.now) (files_of g c) (out_of g c) c.run.result c.run.ensures.came c.run.result.status (inl refl)
    (λ t text. AreClassed t) (law.classed c.args.asked.now.bounds.unc c.args.asked.now.bounds.con)

pub returns-clause-refused : goal.returns-clause-refused
returns-clause-refused g c = accept.refused (generate_of c.args.asked.now).file (IsWrittenFor c.args.asked.now.bounds.unc c.args.asked.now.bounds.con) is_unclassed (files_of g c) (out_of g c) c.run.result c.run.ensures.came c.run.result.status (inl refl) law.tells_own

pub returns-clause-too_many : goal.returns-clause-too_many
returns-clause-too_many g c = accept.too_many (generate_of c.args.asked.now).file (IsWrittenFor c.args.asked.now.bounds.unc c.args.asked.now.bounds.con) is_unclassed (files_of g c) (out_of g c) c.run.result c.run.ensures.came c.run.result.status (inl refl) law.tells_own

pub returns-clause-unclassed : goal.returns-clause-unclassed
returns-clause-unclassed g c = law.unclassed (generate_of c.args.asked.now) (files_of g c) (out_of g c) c.run.result c.run.ensures.came c.run.result.status (inl refl)
