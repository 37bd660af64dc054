use Rattle.std.proofs.Common.{◌≡◌, map, drop}
use Rattle.cif_types_constancy.specs.Collected.{typed_of}
use Rattle.cif_inst_constants.specs.Bounds.{values_fault}
use Rattle.cif_inst_constants.specs.Named.{name_value}
use Rattle.cif_inst_constants.specs.Outcomes.{evaluated}
use Rattle.cif_inst_constants.proofs.bounds.values_fault.Given as goal

abbrev pub invariant-loop-typed : goal.invariant-loop-typed
invariant-loop-typed l = values_fault (evaluated (name_value l.names)) (map typed_of (drop l.typed-index l.values)) ≡ values_fault (evaluated (name_value l.names)) (map typed_of l.values)
