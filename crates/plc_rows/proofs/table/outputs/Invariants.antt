use Rattle.std.proofs.Common.{◌≡◌, ◌++◌, map, drop}
use Rattle.st_ast.specs.Interface.{outputs_of}
use Rattle.plc_rows.proofs.table.outputs.Given as goal

abbrev pub invariant-loop-var : goal.invariant-loop-var
invariant-loop-var l = map (λ v. v.now) l.outputs.items ++ outputs_of (drop l.var-index l.vars) ≡ outputs_of l.vars
