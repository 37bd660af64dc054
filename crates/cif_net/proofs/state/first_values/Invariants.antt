use Rattle.std.proofs.Common.{◌≡◌, ◌++◌, map, drop}
use Rattle.cif_net.specs.declared.data.Var.{Var}
use Rattle.cif_net.proofs.state.first_values.Given as goal

abbrev pub invariant-loop-var : goal.invariant-loop-var
invariant-loop-var l = map (λ (x : Var). x.first) l.vars ≡ l.all ++ map (λ (x : Var). x.first) (drop l.var-index l.vars)
