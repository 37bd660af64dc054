use Rattle.std.proofs.Common.{◌≡◌, ◌++◌, map, drop}
use Rattle.cif_scope.specs.Written.{body_of_written}
use Rattle.cif_inst_parameters.specs.Passing.{instances_now, body_instances}
use Rattle.cif_inst_parameters.proofs.instances.all_instances.Given as goal

abbrev pub invariant-loop-one : goal.invariant-loop-one
invariant-loop-one l = map instances_now l.all.items ++ map body_instances (map body_of_written (drop l.one-index l.written)) ≡ map body_instances (map body_of_written l.written)
