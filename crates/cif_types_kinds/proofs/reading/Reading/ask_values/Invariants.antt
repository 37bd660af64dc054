use Rattle.std.proofs.Common.{◌≡◌, map, drop}
use Rattle.cif_ast.specs.View.{view}
use Rattle.cif_source.specs.Kinds.{bool_kind}
use Rattle.cif_types_kinds.specs.Readings.{component_in, received_in}
use Rattle.cif_types_kinds.specs.Values.{first_told, value_told}
use Rattle.cif_types_kinds.proofs.reading.Reading.ask_values.Given as goal

abbrev pub invariant-loop-expr : goal.invariant-loop-expr
invariant-loop-expr l = first_told (value_told (component_in l.self) (received_in l.self) bool_kind) (map view (drop l.expr-index l.all)) ≡ first_told (value_told (component_in l.self) (received_in l.self) bool_kind) (map view l.all)
