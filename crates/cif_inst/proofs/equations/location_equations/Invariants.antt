use Rattle.std.proofs.Common.{◌≡◌, [], map, drop}
use Rattle.cif_source.specs.Source.{equation_tree}
use Rattle.cif_inst.specs.Equations.{values_in, equations_added}
use Rattle.cif_inst.proofs.equations.location_equations.Given as goal

abbrev pub invariant-loop-equation : goal.invariant-loop-equation
invariant-loop-equation l = equations_added (values_in l.there) (map equation_tree (drop l.equation-index l.equations)) ≡ equations_added [] (map equation_tree l.equations)
