use Rattle.std.proofs.Common.{◌≡◌, map, drop}
use Rattle.cif_source.specs.Source.{equation_tree}
use Rattle.cif_types_equations.specs.Tallies.{equations_tallied}
use Rattle.cif_types_equations.proofs.tallying.tally_equations.Given as goal

abbrev pub invariant-loop-equation : goal.invariant-loop-equation
invariant-loop-equation l = equations_tallied l.tallies l.place (map equation_tree (drop l.equation-index l.equations)) ≡ equations_tallied l.fn.tallies l.place (map equation_tree l.equations)
