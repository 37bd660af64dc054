use Rattle.std.proofs.Common.{◌≡◌, ◌+◌, ◌-◌, ◌<◌, ◌≤◌, arith, length, sym, ◌∙◌}
use Rattle.cif_net.specs.View.{net_tree}
use Rattle.plc_event.specs.Marked.{is_marked}
use Rattle.plc_event.proofs.Changing.{move-marked, no-move-left}
use Rattle.plc_event.proofs.changes.mark_moved.Goals as goal

pub loop-at-init : goal.loop-at-init
loop-at-init c = λ j. c.in_ok-restart.ensures j ∙ sym (no-move-left (net_tree c.args.net.now) c.args.moves.now j)

pub loop-at-preserved : goal.loop-at-preserved
loop-at-preserved c =
    let some : 0 < c.loop-at.at = c.loop-at-test.true in
    let most : c.loop-at.at ≤ length c.args.moves.now = c.loop-at.auto.at in
    let within : c.loop-at.at - 1 < length c.args.moves.now = omega arith in
    let after : c.loop-at.at ≡ c.loop-at.at - 1 + 1 = omega arith in
    move-marked (net_tree c.args.net.now) c.args.moves.now (c.loop-at.at - 1) c.loop-at.at _ within after c.takes_an_edge.result c.takes_an_edge.ensures
    (λ j. is_marked c.loop-at.places.round c.loop-at.places.last j) (λ j. is_marked c.turn.new.self.round c.turn.new.self.last j) c.in_ok-turn.ensures c.loop-at.invariant
