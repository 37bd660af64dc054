use Rattle.std.proofs.Common.{◌≡◌, ◌++◌, map, drop}
use Rattle.cif_net.specs.declared.automata.Auto.{Auto}
use Rattle.cif_net.proofs.state.first_places.Given as goal

abbrev pub invariant-loop-auto : goal.invariant-loop-auto
invariant-loop-auto l = map (λ (x : Auto). x.first) l.autos ≡ l.all ++ map (λ (x : Auto). x.first) (drop l.auto-index l.autos)
