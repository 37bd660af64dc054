use Rattle.std.proofs.Common.{◌≡◌, ◌+◌, ◌-◌, ◌<◌, ◌≤◌, arith, length}
use Rattle.cif_net.specs.View.{net_tree}
use Rattle.plc_event.proofs.Aftering.{nothing-moved, place-moved}
use Rattle.plc_event.proofs.after.move_places.Goals as goal

pub loop-at-init : goal.loop-at-init
loop-at-init c = nothing-moved (net_tree c.args.net.now) c.args.moves.now c.args.before.now c.args.places.now c.requires

pub loop-at-preserved : goal.loop-at-preserved
loop-at-preserved c =
    let some : 0 < c.loop-at.at = c.loop-at-test.true in
    let most : c.loop-at.at ≤ length c.args.moves.now = c.loop-at.auto.at in
    let within : c.loop-at.at - 1 < length c.args.moves.now = omega arith in
    let after : c.loop-at.at ≡ c.loop-at.at - 1 + 1 = omega arith in
    place-moved (net_tree c.args.net.now) c.args.moves.now (c.loop-at.at - 1) c.loop-at.at _ within after c.target.result c.target.ensures
    c.args.before.now c.loop-at.places c.set_place.new.places c.in_ok-set_place.ensures c.loop-at.invariant
