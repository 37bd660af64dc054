use Rattle.std.proofs.Common.{◌≡◌, ◌≤◌, ◌+◌, min, sum_by, drop}
use Rattle.cif_inst.specs.Outlines.{weight}
use Rattle.cif_inst.proofs.sizes.forms.Given as goal

abbrev pub invariant-loop-measure : goal.invariant-loop-measure
invariant-loop-measure l = record {
  forms : min (l.found + sum_by weight (drop l.measure-index l.measures)) 18446744073709551615 ≡ min (sum_by weight l.measures) 18446744073709551615;
  few : l.found ≤ 18446744073709551615;
}
