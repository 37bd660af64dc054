use Rattle.std.proofs.Common.{◌≡◌, ◌++◌, map, drop}
use Rattle.cif_net.specs.declared.data.Var.{Var}
use Rattle.cif_alg_measure.specs.TypeBounds.{type_bounds}
use Rattle.cif_alg_measure.proofs.declared.var_ranges.Given as goal

abbrev pub invariant-loop-var : goal.invariant-loop-var
invariant-loop-var l = map (λ (v : Var). type_bounds v.ty) l.vars ≡ l.all ++ map (λ (v : Var). type_bounds v.ty) (drop l.var-index l.vars)
