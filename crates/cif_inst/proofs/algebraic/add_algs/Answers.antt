use Rattle.std.proofs.Common.{◌++◌, map}
use Rattle.cif_net.specs.View.{alg_tree}
use Rattle.cif_inst.specs.Algebraic.{alg_with}
use Rattle.cif_inst.specs.Equations.{values_in}
use Rattle.cif_inst.specs.Typing.{typed_source}
use Rattle.cif_inst.specs.Views.{datum_tree}
use Rattle.cif_inst.proofs.TypingLaws.{datum_listed, kept_more}
use Rattle.cif_inst.proofs.algebraic.add_algs.Goals as goal

pub add_alg-requires : goal.add_alg-requires
add_alg-requires c = c.requires (datum_tree c.datum-item.result) (datum_listed c.args.found.now c.loop-datum.datum-index c.datum-item.result c.loop-datum-test.true c.datum-item.is)

pub loop-datum-preserved : goal.loop-datum-preserved
loop-datum-preserved c =
    kept_more (alg_with (typed_source c.args.typing.now) c.args.automaton (values_in c.args.defined.now.own) (map values_in c.args.defined.now.located.items)) c.args.found.now c.loop-datum.datum-index c.datum-item.result
    (map alg_tree c.loop-datum.all) (map alg_tree c.add_alg.new.all)
    (map alg_tree c.args.all.now ++ map (alg_with (typed_source c.args.typing.now) c.args.automaton (values_in c.args.defined.now.own) (map values_in c.args.defined.now.located.items)) (map datum_tree c.args.found.now))
    c.loop-datum-test.true c.datum-item.is c.in_ok-add_alg.ensures c.loop-datum.invariant
