use Rattle.std.proofs.Common.{◌≡◌, drop}
use Rattle.cif_alg_measure.specs.Sizes.{table_counted}
use Rattle.cif_alg_measure.proofs.depth.table_measured.Given as goal

abbrev pub invariant-loop-measure : goal.invariant-loop-measure
invariant-loop-measure l = table_counted l.found (drop l.measure-index l.all) ≡ table_counted l.fn.before l.all
