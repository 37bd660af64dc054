use Rattle.std.proofs.Common.{◌≡◌, ◌++◌, map, drop}
use Rattle.cif_net.specs.declared.data.Input.{Input}
use Rattle.cif_net.proofs.state.first_inputs.Given as goal

abbrev pub invariant-loop-input : goal.invariant-loop-input
invariant-loop-input l = map (λ (x : Input). x.first) l.inputs ≡ l.all ++ map (λ (x : Input). x.first) (drop l.input-index l.inputs)
