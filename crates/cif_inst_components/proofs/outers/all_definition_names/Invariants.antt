use Rattle.std.proofs.Common.{◌≡◌, ◌++◌, map, drop}
use Rattle.cif_scope.specs.Written.{body_of_written}
use Rattle.cif_inst_components.specs.Outers.{names_now, definition_names}
use Rattle.cif_inst_components.proofs.outers.all_definition_names.Given as goal

abbrev pub invariant-loop-one : goal.invariant-loop-one
invariant-loop-one l = map names_now l.all.items ++ map definition_names (map body_of_written (drop l.one-index l.written)) ≡ map definition_names (map body_of_written l.written)
