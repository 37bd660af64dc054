use Rattle.std.proofs.Common.{◌≡◌, map, drop}
use Rattle.cif_source.specs.Source.{equation_tree}
use Rattle.cif_types_kinds.specs.Readings.{component_in, received_in}
use Rattle.cif_types_kinds.specs.Values.{first_told, equation_told}
use Rattle.cif_types_kinds.proofs.reading.Reading.ask_equations.Given as goal

abbrev pub invariant-loop-equation : goal.invariant-loop-equation
invariant-loop-equation l = first_told (equation_told (component_in l.self) (received_in l.self)) (map equation_tree (drop l.equation-index l.all)) ≡ first_told (equation_told (component_in l.self) (received_in l.self)) (map equation_tree l.all)
