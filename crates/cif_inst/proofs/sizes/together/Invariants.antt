use Rattle.std.proofs.Common.{◌≡◌, drop}
use Rattle.cif_alg_measure.specs.Sizes.{table_counted}
use Rattle.cif_inst.specs.Outlines as outlines
use Rattle.cif_inst.proofs.sizes.together.Given as goal

abbrev pub invariant-loop-measure : goal.invariant-loop-measure
invariant-loop-measure l = table_counted l.found (drop l.measure-index l.measures) ≡ outlines.together l.measures
