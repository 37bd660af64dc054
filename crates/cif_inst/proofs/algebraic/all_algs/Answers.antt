use Rattle.cif_inst.proofs.AlgebraicLaws.{row_stands}
use Rattle.cif_inst.proofs.algebraic.all_algs.Goals as goal

pub add_component-requires : goal.add_component-requires
add_component-requires c =
    row_stands c.args.typing.now c.args.rows.now c.loop-place.place c.in_ok-number.field-0 c.index-rows-place.result c.requires.types c.requires.rows c.loop-place-test.true c.index-rows-place.is c.in_ok-number.ensures.is
