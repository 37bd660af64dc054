use Rattle.plc_event.proofs.Marking.{once-ended, once-met, same-item}
use Rattle.plc_event.proofs.marks.once_of.Goals as goal

pub loop-variable-preserved : goal.loop-variable-preserved
loop-variable-preserved c =
    once-met c.args.variables.now c.loop-variable.variable-index _ c.loop-variable.found c.loop-variable.marks c.meet.new.self c.loop-variable-test.true (same-item c.args.variables.now c.loop-variable.variable-index 0 c.loop-variable-test.true)
    c.loop-variable.invariant c.in_ok-meet.ensures.marks c.meet.new.found c.in_ok-meet.ensures.found

pub returns : goal.returns
returns c = once-ended c.args.variables.now c.loop-variable.variable-index c.loop-variable.found c.loop-variable.marks c.loop-variable-test.false c.loop-variable.invariant
