use Rattle.std.proofs.Common.{◌≡◌, map, drop}
use Rattle.cif_source.specs.Source.{param_tree}
use Rattle.cif_types_kinds.specs.Readings.{component_in, received_in}
use Rattle.cif_types_kinds.specs.Values.{first_told, param_told}
use Rattle.cif_types_kinds.proofs.reading.Reading.ask_params.Given as goal

abbrev pub invariant-loop-param : goal.invariant-loop-param
invariant-loop-param l = first_told (param_told (component_in l.self) (received_in l.self)) (map param_tree (drop l.param-index l.all)) ≡ first_told (param_told (component_in l.self) (received_in l.self)) (map param_tree l.all)
