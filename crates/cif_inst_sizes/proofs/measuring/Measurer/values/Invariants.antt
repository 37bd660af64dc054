use Rattle.std.proofs.Common.{◌≡◌, map, drop}
use Rattle.cif_inst_sizes.specs.Counted.{none, values_counted}
use Rattle.cif_inst_sizes.specs.Definitions.{value_tree}
use Rattle.cif_inst_sizes.specs.Weights.{names_by}
use Rattle.cif_inst_sizes.proofs.measuring.Measurer.values.Given as goal

abbrev pub invariant-loop-value : goal.invariant-loop-value
invariant-loop-value l = values_counted (names_by l.self) l.found (map value_tree (drop l.value-index l.all)) ≡ values_counted (names_by l.self) none (map value_tree l.all)
