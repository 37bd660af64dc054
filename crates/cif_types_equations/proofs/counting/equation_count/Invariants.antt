use Rattle.std.proofs.Common.{◌≡◌, ◌+◌, ◌≤◌, map, drop}
use Rattle.cif_source.specs.Source.{equation_tree}
use Rattle.cif_types_equations.specs.Counts.{equation_count}
use Rattle.cif_types_equations.proofs.counting.equation_count.Given as goal

abbrev pub invariant-loop-equation : goal.invariant-loop-equation
invariant-loop-equation l = record {
  below : l.count ≤ l.equation-index;
  counted : l.count + equation_count l.name (map equation_tree (drop l.equation-index l.equations)) ≡ equation_count l.name (map equation_tree l.equations);
}
