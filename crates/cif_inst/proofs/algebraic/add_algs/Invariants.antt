use Rattle.std.proofs.Common.{◌≡◌, ◌++◌, map, drop}
use Rattle.cif_net.specs.View.{alg_tree}
use Rattle.cif_inst.specs.Algebraic.{alg_with}
use Rattle.cif_inst.specs.Equations.{values_in}
use Rattle.cif_inst.specs.Typing.{typed_source}
use Rattle.cif_inst.specs.Views.{datum_tree}
use Rattle.cif_inst.proofs.algebraic.add_algs.Given as goal

abbrev pub invariant-loop-datum : goal.invariant-loop-datum
invariant-loop-datum l =
    map alg_tree l.all ++ map (alg_with (typed_source l.typing) l.automaton (values_in l.defined.own) (map values_in l.defined.located.items)) (map datum_tree (drop l.datum-index l.found))
    ≡ map alg_tree l.fn.all ++ map (alg_with (typed_source l.typing) l.automaton (values_in l.defined.own) (map values_in l.defined.located.items)) (map datum_tree l.found)
