use Rattle.std.proofs.Common.{◌≡◌, drop}
use Rattle.cif_inst_components.specs.Finding.{finder, steps}
use Rattle.cif_inst_components.proofs.finding.Finder.steps.Given as goal

abbrev pub invariant-loop-part : goal.invariant-loop-part
invariant-loop-part l = steps (finder l.self) l.passes l.fn.from l.parts ≡ steps (finder l.self) l.passes l.at (drop l.part-index l.parts)
