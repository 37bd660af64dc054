use Rattle.cif_inst_bodies.proofs.RuleLaws.{defined-once}
use Rattle.cif_inst_bodies.proofs.laws.algebraic_variables_are_defined_once.Goals as goal

pub returns : goal.returns
returns c = defined-once
