use Rattle.std.proofs.Common.{◌∙◌, ap, map, arith, ◌<◌}
use Rattle.cif_source.specs.Source.{type_tree}
use Rattle.cif_inst_constants.specs.Slots.{row_of}
use Rattle.cif_inst_constants.specs.Walked.{step_view}
use Rattle.cif_inst_constants.proofs.TurnLaws.{turn-further}
use Rattle.cif_inst_constants.proofs.ranges.Types.walk.Goals as goal

pub loop-turn-preserved : goal.loop-turn-preserved
loop-turn-preserved c =
    let less : c.loop-turn._turn < c.args.turns = omega arith in
    c.loop-turn.invariant
    ∙ turn-further c.args.self.now.scopes.now c.args.self.now.constants.now.numbers c.args.self.now.constants.now.values (map row_of c.args.self.now.rows.now) c.args.turns c.loop-turn._turn c.loop-turn.at c.in-Further.further
    (type_tree c.loop-turn.next.now) (type_tree c.in-Further.named.now) (step_view c.in_ok-range.field-0) less c.in_ok-range.ensures (ap step_view c.in-Further.is)
