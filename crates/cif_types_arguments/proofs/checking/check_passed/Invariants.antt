use Rattle.std.proofs.Common.{◌≡◌, map, drop}
use Rattle.cif_ast.specs.View.{view}
use Rattle.cif_types_kinds.specs.Readings.{component_in}
use Rattle.cif_types_arguments.specs.Arguments.{arguments_told}
use Rattle.cif_types_arguments.proofs.checking.check_passed.Given as goal

abbrev pub invariant-loop-place : goal.invariant-loop-place
invariant-loop-place l = arguments_told l.reading.table.now l.all (component_in l.reading) l.definition l.place (map view (drop l.place l.values)) ≡ arguments_told l.reading.table.now l.all (component_in l.reading) l.definition 0 (map view l.values)
