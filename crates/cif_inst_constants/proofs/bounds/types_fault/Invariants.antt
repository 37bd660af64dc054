use Rattle.std.proofs.Common.{◌≡◌, map, drop}
use Rattle.cif_types_constancy.specs.Collected.{type_of}
use Rattle.cif_inst_constants.specs.Bounds.{types_fault}
use Rattle.cif_inst_constants.specs.Named.{name_value}
use Rattle.cif_inst_constants.specs.Outcomes.{evaluated}
use Rattle.cif_inst_constants.proofs.bounds.types_fault.Given as goal

abbrev pub invariant-loop-ty : goal.invariant-loop-ty
invariant-loop-ty l = types_fault (evaluated (name_value l.names)) (map type_of (drop l.ty-index l.types)) ≡ types_fault (evaluated (name_value l.names)) (map type_of l.types)
