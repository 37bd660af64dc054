use Rattle.std.proofs.Common.{sym, ap, ◌∙◌}
use Rattle.cif_sim_model.specs.Script.{said}
use Rattle.cif_script.proofs.Saying.{one_part}
use Rattle.cif_script.proofs.paths.Paths.read.Goals as goal

pub returns-in-None-2 : goal.returns-in-None-2
returns-in-None-2 c =
    one_part c.args.self.now c.first_part.result.0.now c.first_part.result.1 c.in-None.is (sym c.if-is_empty.ensures)
    ∙ ap (said c.args.self.now) (sym c.first_part.ensures)
