use Rattle.plc_event.proofs.Aftering.{names-done, names-taken}
use Rattle.plc_event.proofs.Marking.{same-item}
use Rattle.plc_event.proofs.after.take_names.Goals as goal

pub loop-variable-preserved : goal.loop-variable-preserved
loop-variable-preserved c =
    names-taken c.args.variables.now c.loop-variable.variable-index _ c.loop-variable-test.true (same-item c.args.variables.now c.loop-variable.variable-index 0 c.loop-variable-test.true)
    c.args.from.now c.args.names.now c.loop-variable.names c.take_name.new.names c.in_ok-take_name.ensures c.loop-variable.invariant

pub returns : goal.returns
returns c = names-done c.args.variables.now c.loop-variable.variable-index c.args.from.now c.args.names.now c.loop-variable.names c.loop-variable-test.false c.loop-variable.invariant
