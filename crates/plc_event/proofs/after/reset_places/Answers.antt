use Rattle.cif_net.specs.View.{net_tree}
use Rattle.plc_event.proofs.Aftering.{reset-begun, reset-done, reset-more}
use Rattle.plc_event.proofs.after.reset_places.Goals as goal

pub loop-step-init : goal.loop-step-init
loop-step-init c = reset-begun (net_tree c.args.net.now) c.args.moves.now c.args.before.now c.args.places.now c.requires

pub loop-step-preserved : goal.loop-step-preserved
loop-step-preserved c =
    reset-more (net_tree c.args.net.now) c.args.moves.now c.loop-step.step-index _ c.loop-step-test.true
    c.args.before.now c.loop-step.places c.set_place.new.places c.in_ok-set_place.ensures c.loop-step.invariant

pub returns : goal.returns
returns c = reset-done (net_tree c.args.net.now) c.args.moves.now c.loop-step.step-index c.args.before.now c.loop-step.places c.loop-step-test.false c.loop-step.invariant
