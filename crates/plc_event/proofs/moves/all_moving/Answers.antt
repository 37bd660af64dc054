use Rattle.std.proofs.Common.{sym, ◌∙◌}
use Rattle.cif_net.specs.View.{net_tree}
use Rattle.plc_frame.proofs.LoopLaws.{moves-done, moves-taken}
use Rattle.plc_event.proofs.moves.all_moving.Goals as goal

pub loop-step-preserved : goal.loop-step-preserved
loop-step-preserved c =
    moves-taken (net_tree c.args.net.now) c.args.steps.now c.loop-step.step-index _ c.loop-step.all c.in_ok-one_moving.field-0 c.append.new.self c.loop-step-test.true c.in_ok-one_moving.ensures c.in_ok-append.ensures
    ∙ c.loop-step.invariant

pub returns : goal.returns
returns c = sym (moves-done (net_tree c.args.net.now) c.args.steps.now c.loop-step.step-index c.loop-step.all c.loop-step-test.false) ∙ c.loop-step.invariant
