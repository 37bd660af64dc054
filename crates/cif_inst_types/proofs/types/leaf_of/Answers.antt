use Rattle.std.proofs.Common.{◌∙◌, arith, ◌<◌}
use Rattle.cif_source.specs.Source.{type_tree}
use Rattle.cif_inst_types.proofs.TurnLaws.{turn-further}
use Rattle.cif_inst_types.proofs.types.leaf_of.Goals as goal

pub loop-turn-preserved : goal.loop-turn-preserved
loop-turn-preserved c =
    let less : c.loop-turn._turn < c.args.turns = omega arith in
    c.loop-turn.invariant
    ∙ turn-further c.args.types.now c.args.turns c.loop-turn._turn c.loop-turn.at c.in-Further.further
    (type_tree c.loop-turn.next.now) (type_tree c.in-Further.named.now) less c.in-Further.ensures
