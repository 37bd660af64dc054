use Rattle.std.proofs.Common.{◌≡◌, take}
use Rattle.st_ast.specs.Interface.{output_values}
use Rattle.plc_tables.proofs.scanning.outputs.Given as goal

abbrev pub invariant-loop-k : goal.invariant-loop-k
invariant-loop-k l = l.cells ≡ take l.k (output_values l.machine.program.vars l.machine.memory)
