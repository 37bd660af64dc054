use Rattle.std.proofs.Common.{◌≡◌, ◌++◌, map, drop}
use Rattle.cif_net_expr.specs.View as net
use Rattle.cif_inst.specs.Algebraic.{definition_in}
use Rattle.cif_inst.specs.Equations.{values_in}
use Rattle.cif_inst.specs.Typing.{typed_component}
use Rattle.cif_inst.proofs.algebraic.definitions.Given as goal

abbrev pub invariant-loop-there : goal.invariant-loop-there
invariant-loop-there l = map net.view l.all ++ map (definition_in (typed_component l.typing l.component) l.name) (map values_in (drop l.there-index l.located)) ≡ map (definition_in (typed_component l.typing l.component) l.name) (map values_in l.located)
