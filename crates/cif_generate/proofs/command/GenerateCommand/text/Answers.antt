-- The program is that of the net of the source in the file, and a refusal tells of an event of that source.
use Rattle.std.proofs.Common.{Err, refl, ap}
use Rattle.cif_run.specs.Works.{reading}
use Rattle.cif_generate.specs.Generates.{generate_of}
use Rattle.cif_generate.proofs.GenerateLaws as law
use Rattle.cif_generate.proofs.command.GenerateCommand.text.Goals as goal

pub generate_text-requires-clause-shallow : goal.generate_text-requires-clause-shallow
generate_text-requires-clause-shallow g c = law.loaded_shallow (g.F.Files.content c.args.files.now) c.args.self.now.file.now c.in_ok-net.net c.in_ok-net.ensures.loaded

pub returns-in-Ok-clause-writes : goal.returns-in-Ok-clause-writes
returns-in-Ok-clause-writes g c = law.loaded_text (g.F.Files.content c.args.files.now) c.args.self.now.file.now c.in_ok-net.net c.in_ok-net.ensures.loaded
    c.args.self.now.bounds.unc c.args.self.now.bounds.con c.in-Ok.text.items c.in-Ok.ensures.text c.in-Ok.ensures.makes

pub returns-in-Err-Unclassed-clause-stops : goal.returns-in-Err-Unclassed-clause-stops
returns-in-Err-Unclassed-clause-stops g c = law.unclassed_stops (g.F.Files.content c.args.files.now) c.args.self.now.file.now c.in_ok-net.net c.in_ok-net.ensures.loaded
    (generate_of c.args.self.now) refl c.in-Err-Unclassed.event (c.in-Err-Unclassed.ensures.unclassed c.in-Err-Unclassed.event (ap Err c.in-Err-Unclassed.field-0-is))
    (reading (g.F.Files.content c.args.files.now) (g.F.Files.faults c.args.files.now) (g.F.Files.faults c.accept_file.new.files) (g.F.Files.most c.accept_file.new.files))
    c.unclassed.result c.unclassed.ensures
