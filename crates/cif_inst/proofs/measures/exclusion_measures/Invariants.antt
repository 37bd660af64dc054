use Rattle.std.proofs.Common.{◌≡◌, ◌++◌, map, drop}
use Rattle.cif_inst.specs.Measures.{measure_of}
use Rattle.cif_inst.proofs.measures.exclusion_measures.Given as goal

abbrev pub invariant-loop-one : goal.invariant-loop-one
invariant-loop-one l = l.all ++ map measure_of (drop l.one-index l.excluded) ≡ map measure_of l.excluded
