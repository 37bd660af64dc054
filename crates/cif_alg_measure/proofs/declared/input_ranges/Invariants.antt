use Rattle.std.proofs.Common.{◌≡◌, ◌++◌, map, drop}
use Rattle.cif_net.specs.declared.data.Input.{Input}
use Rattle.cif_alg_measure.specs.TypeBounds.{type_bounds}
use Rattle.cif_alg_measure.proofs.declared.input_ranges.Given as goal

abbrev pub invariant-loop-input : goal.invariant-loop-input
invariant-loop-input l = map (λ (v : Input). type_bounds v.ty) l.inputs ≡ l.all ++ map (λ (v : Input). type_bounds v.ty) (drop l.input-index l.inputs)
